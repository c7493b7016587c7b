-- Each number of the Rust text is the f64 nearest to its decimal, by computing. Assumes nothing.
use mathlib.Core.Bool.{false}
use mathlib.Core.Path.{◌≡◌, refl}
use lib.Ieee.{binary64, of_bits, round}
use Rattle.boxes.specs.Boxes.{two64}
use Rattle.floats.specs.Numbers.{one64}

pub one-decimal : one64 ≡ round binary64 false 1 1
unfolding of_bits round
one-decimal = refl

pub two-decimal : two64 ≡ round binary64 false 2 1
unfolding of_bits round
two-decimal = refl
