-- Each number of the Rust text is the f64 nearest to its decimal, by computing. Assumes nothing.
use mathlib.Core.Bool.{false}
use mathlib.Core.Path.{◌≡◌, refl}
use lib.Ieee.{binary64, of_bits, round}
use Rattle.currents.specs.Current.{water_push, lava_push}

pub water-push-decimal : water_push ≡ round binary64 false 14 1000
unfolding of_bits round
water-push-decimal = refl

pub lava-push-decimal : lava_push ≡ round binary64 false 35 10000
unfolding of_bits round
lava-push-decimal = refl
