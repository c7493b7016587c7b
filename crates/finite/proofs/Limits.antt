-- The tests of document 01's limits, against bounds. Assumes nothing.
use mathlib.Core.Path.{◌≡◌, refl, sym, ap, ◌∙◌, subst}
use mathlib.Core.Bool.{Bool, true, false, false≢true}
use Prim.Native.Nat.{ℕ, ◌*◌, ◌^◌, ◌≤◌}
use native.Mathlib.Nat.{le_trans, one-mul, mul-one, mul-le-mul_right, zero-lt-suc}
use lib.IntN.{pos}
use lib.Dec.{T}
use lib.Ieee.{Float, nan, inf, fin, up, down, le}
use lib.Ieee.Fits.{down_pos}
use lib.Ieee.Order.{le_of_values}
use Rattle.base.specs.Choose.{choose}
use Rattle.base.proofs.Tests.{T_true}
use Rattle.base.proofs.Bounds.{Within, le-most}
use Rattle.floats.specs.Numbers.{size_of, is_within_limit}
use Rattle.finite.specs.Finite.{limit}

-- what the test of a limit says
pub from-test : (x : Float) (k : ℕ) → is_within_limit x (fin false 1 (pos k)) ≡ true → Within x (2 ^ k)
unfolding choose size_of
from-test nan k h = absurd (false≢true h)
from-test (inf s) k h = absurd (false≢true h)
from-test (fin s m e) k h =
    record { is = (le-most (fin false m e) (fin false 1 (pos k)) (2 ^ k) 1 refl (refl, ap (λ (z : ℕ). z * 1) (one-mul (2 ^ k))) (subst T (sym h) tt)).is }

-- a bound passes the test of whatever limit is not below it
pub to-test : (x : Float) (n m : ℕ) → Within x n → n ≤ m → is_within_limit x (limit m) ≡ true
unfolding choose size_of
to-test nan n m h l = absurd h.is
to-test (inf s) n m h l = absurd h.is
to-test (fin s i e) n m h l =
    T_true (le (fin false i e) (limit m))
    (le_of_values (fin false i e) (limit m) (i * up e) (down e) m 1 (down_pos e) (zero-lt-suc 0) (refl, refl) (refl, ap (λ (z : ℕ). z * 1) (mul-one m))
    (le_trans h.is (mul-le-mul_right (down e) l)))
