-- Each number of the Rust text is the f64 nearest to its decimal, by computing. Assumes nothing.
use mathlib.Core.Bool.{false}
use mathlib.Core.Path.{◌≡◌, refl}
use lib.Ieee.{binary64, of_bits, round}
use Rattle.liquids.specs.Flotation.{nine64}
use Rattle.liquids.specs.Living.{thousandth}

pub nine-decimal : nine64 ≡ round binary64 false 9 1
unfolding of_bits round
nine-decimal = refl

pub thousandth-decimal : thousandth ≡ round binary64 false 1 1000
unfolding of_bits round
thousandth-decimal = refl
