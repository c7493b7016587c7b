-- Each number of the Rust text is the f64 nearest to its decimal, by computing. Assumes nothing.
use mathlib.Core.Path.{◌≡◌, refl}
use mathlib.Core.Bool.{false}
use lib.Ieee.{binary64, of_bits, round}
use Rattle.drags.specs.Constants.{default_grip, tiny, slow, lift, water_viscosity, buoyancy, lava_viscosity}

pub default-grip-decimal : default_grip ≡ round binary64 false 6 10
unfolding of_bits round
default-grip-decimal = refl

pub tiny-decimal : tiny ≡ round binary64 false 1 10000000
unfolding of_bits round
tiny-decimal = refl

pub slow-decimal : slow ≡ round binary64 false 1 10000
unfolding of_bits round
slow-decimal = refl

pub lift-decimal : lift ≡ round binary64 false 5 10000
unfolding of_bits round
lift-decimal = refl

pub water-viscosity-decimal : water_viscosity ≡ round binary64 false 99 100
unfolding of_bits round
water-viscosity-decimal = refl

pub buoyancy-decimal : buoyancy ≡ round binary64 false 6 10000
unfolding of_bits round
buoyancy-decimal = refl

pub lava-viscosity-decimal : lava_viscosity ≡ round binary64 false 95 100
unfolding of_bits round
lava-viscosity-decimal = refl
