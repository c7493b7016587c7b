-- Each number of the Rust text is the f64 nearest to its decimal, by computing. Assumes nothing.
use mathlib.Core.Bool.{false}
use mathlib.Core.Path.{◌≡◌, refl}
use lib.Ieee.{binary64, of_bits, round}
use Rattle.flow_sides.specs.Sides.{six64}

pub six-decimal : six64 ≡ round binary64 false 6 1
unfolding of_bits round
six-decimal = refl
