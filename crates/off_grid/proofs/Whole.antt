-- From `over` and `under` to the scaled value, a ℤ. Assumes nothing.
use mathlib.Core.Path.{◌≡◌, refl, sym, ap, ◌∙◌, subst}
use mathlib.Core.Logic.{◌⊎◌, inl, inr}
use mathlib.Core.Bool.{Bool, true, false, not}
use Prim.Native.Nat.{ℕ, zero, suc, ◌+◌, ◌*◌, ◌≤◌, ◌<◌}
use native.Mathlib.Omega.{arith}
use lib.IntN.{ℤ, pos, neg_ℤ, sub_ℕ, ◌-ℤ◌}
use lib.Signed.{le_z}
use lib.Dec.{T, ltb, leb, ltb→lt, nltb→le, le→leb}
use lib.Ieee.{Float, nan, inf, fin}
use Rattle.base.specs.Choose.{choose}
use Rattle.base.proofs.Differences.{subℕ-pos, subℕ-neg, subℕ-sub, subℕ-lt, subℕ-le_z}
use Rattle.boxes.specs.declared.Aabb.{Aabb}
use Rattle.grid.specs.Exact.{least_z}
use Rattle.off_grid.specs.Scaled.{float_units, reach_on, slight_axes, is_slight}
use Rattle.base.proofs.Scaled.{scaled_size, over, under}
use Rattle.off_grid.proofs.Axis.{unit, Short, before, beyond}
use Rattle.off_grid.proofs.Passes.{ShortX, ShortY, ShortZ, Clear, on_x, on_y, on_z}

-- ---- the scaled value
straight : (k : ℕ) → pos k ≡ sub_ℕ k 0
straight k = sym (subℕ-pos k 0 k (omega arith))

turned : (k : ℕ) → neg_ℤ (pos k) ≡ sub_ℕ 0 k
turned zero = refl
turned (suc k) = sym (subℕ-neg 0 (suc k) k (omega arith))

pub scaled-is : (x : Float) → float_units x ≡ sub_ℕ (over x) (under x)
unfolding float_units over under scaled_size
scaled-is nan = refl
scaled-is (inf false) = straight (scaled_size (inf false))
scaled-is (inf true) = turned (scaled_size (inf true))
scaled-is (fin false m e) = straight (scaled_size (fin false m e))
scaled-is (fin true m e) = turned (scaled_size (fin true m e))

difference : (x y : Float) → float_units x -ℤ float_units y ≡ sub_ℕ (over x + under y) (under x + over y)
difference x y =
    ap (λ (z : ℤ). z -ℤ float_units y) (scaled-is x) ∙ ap (λ (z : ℤ). sub_ℕ (over x) (under x) -ℤ z) (scaled-is y) ∙ subℕ-sub (over x) (under x) (over y) (under y)

-- the smaller of two is at most k where one of them is
at_most : (p n k : ℕ) → p ≤ n + k → T (le_z (sub_ℕ p n) (pos k))
at_most p n k h = subst T (sym (ap (λ (z : ℤ). le_z (sub_ℕ p n) z) (straight k) ∙ subℕ-le_z p n k 0)) (le→leb (p + 0) (k + n) (omega arith))

least-most : (p n q m k : ℕ) → (p ≤ n + k) ⊎ (q ≤ m + k) → T (le_z (least_z (sub_ℕ p n) (sub_ℕ q m)) (pos k))
unfolding choose
least-most p n q m k h =
    subst (λ (b : Bool). T (le_z (choose b (sub_ℕ q m) (sub_ℕ p n)) (pos k))) (sym (subℕ-lt q m p n)) (go (ltb (q + n) (p + m)) (ltb→lt (q + n) (p + m)) (nltb→le (q + n) (p + m)) h)
  where
    go : (b : Bool) → (T b → q + n < p + m) → (T (not b) → p + m ≤ q + n) → (p ≤ n + k) ⊎ (q ≤ m + k) → T (le_z (choose b (sub_ℕ q m) (sub_ℕ p n)) (pos k))
    go true f g (inl e) = let z = f tt in at_most q m k (omega arith)
    go true f g (inr e) = at_most q m k e
    go false f g (inl e) = at_most p n k e
    go false f g (inr e) = let z = g tt in at_most p n k (omega arith)

-- ---- a bound that three units do not pass
module _ (k : ℕ) (K : 3 * unit ≤ k) where
  module _ (lo hi from to : Float) where
    ends : Short lo hi from to (3 * unit) (3 * unit) → (over to + under lo ≤ under to + over lo + k) ⊎ (over hi + under from ≤ under hi + over from + k)
    ends (before h) = inl (omega arith)
    ends (beyond h) = inr (omega arith)

    short-reach : Short lo hi from to (3 * unit) (3 * unit) → T (le_z (reach_on from to lo hi) (pos k))
    short-reach s =
        subst (λ (z : ℤ). T (le_z (least_z z (float_units hi -ℤ float_units from)) (pos k))) (sym (difference to lo))
        (subst (λ (z : ℤ). T (le_z (least_z (sub_ℕ (over to + under lo) (under to + over lo)) z) (pos k))) (sym (difference hi from))
        (least-most (over to + under lo) (under to + over lo) (over hi + under from) (under hi + over from) k (ends s)))

  pub clear-slight : (a b : Aabb) → Clear (3 * unit) (3 * unit) (3 * unit) (3 * unit) a b → T (is_slight (pos k) a b)
  unfolding slight_axes choose
  clear-slight a b c =
      go (le_z (reach_on a.min.x a.max.x b.min.x b.max.x) (pos k)) (le_z (reach_on a.min.y a.max.y b.min.y b.max.y) (pos k))
      (le_z (reach_on a.min.z a.max.z b.min.z b.max.z) (pos k))
      (short-reach b.min.x b.max.x a.min.x a.max.x) (short-reach b.min.y b.max.y a.min.y a.max.y) (short-reach b.min.z b.max.z a.min.z a.max.z) c
    where
      -- one of the three is 1
      yes : (t : Bool) → T t → ◌≡◌ {A = ℕ} (choose t 1 0) 1
      yes true u = refl
      yes false u = absurd u

      go : (x y z : Bool) → (ShortX a b (3 * unit) (3 * unit) → T x) → (ShortY a b (3 * unit) (3 * unit) → T y) → (ShortZ a b (3 * unit) (3 * unit) → T z)
          → Clear (3 * unit) (3 * unit) (3 * unit) (3 * unit) a b → T (leb 1 (choose x 1 0 + choose y 1 0 + choose z 1 0))
      go x y z f g h (on_x s) = let e = yes x (f s) in le→leb 1 (choose x 1 0 + choose y 1 0 + choose z 1 0) (omega arith)
      go x y z f g h (on_y s) = let e = yes y (g s) in le→leb 1 (choose x 1 0 + choose y 1 0 + choose z 1 0) (omega arith)
      go x y z f g h (on_z s) = let e = yes z (h s) in le→leb 1 (choose x 1 0 + choose y 1 0 + choose z 1 0) (omega arith)
