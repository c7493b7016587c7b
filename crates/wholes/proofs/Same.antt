-- The library's floor is `floor_of`, whose form is the definition's own. Assumes nothing.
use Rattle.std.proofs.Common.{arith, ◌≡◌, ◌+◌, ◌-◌, ◌*◌, ◌/◌, ◌<◌, ℕ}
use Rattle.std.specs.Prelude.{true, false, Float}
use Rattle.std.specs.Float.{nan, inf, fin, binary64, floor, round_with}
use Rattle.std.specs.Float.Ieee.{up, down, round}
use lib.Ieee.Fits.{down_pos}
use mathlib.Core.Path.{ap, refl}
use Rattle.wholes.specs.Whole.{floor_of, floor_size}

sums : (a c : ℕ) → 0 < c → a + c - 1 ≡ a + (c - 1)
sums a c l = omega arith

pub floor_same : (x : Float) → floor binary64 x ≡ floor_of x
unfolding floor_of floor_size round_with
floor_same nan = refl
floor_same (inf s) = refl
floor_same (fin false m e) = refl
floor_same (fin true m e) = ap (λ (n : ℕ). round binary64 true (n / down e) 1) (sums (m * up e) (down e) (down_pos e))
