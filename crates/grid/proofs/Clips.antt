-- Clipping is exact on the grid. Assumes nothing.
use mathlib.Core.Path.{◌≡◌, refl, sym, ap, ◌∙◌, subst}
use mathlib.Core.Bool.{Bool, true, false, ◌&&◌}
use Prim.Native.Nat.{ℕ, zero, suc, ◌+◌, ◌/◌, ◌≤◌}
use native.Mathlib.Nat.{mul-div_cancel}
use native.Mathlib.Omega.{arith}
use lib.IntN.{ℤ, pos, sub_ℕ, ◌-ℤ◌}
use lib.Signed.{lt_z, le_z}
use lib.Dec.{T}
use lib.Ieee.{Float, nan, inf, fin, binary64, down, sub, lt, le}
use lib.Ieee.Fits.{down_pos}
use Rattle.base.specs.Choose.{choose}
use Rattle.base.proofs.Tests.{and_is, or_is}
use Rattle.base.proofs.Differences.{subℕ-pos, subℕ-neg, subℕ-sub, subℕ-lt, subℕ-le_z}
use Rattle.floats.specs.Numbers.{zero64, is_within_limit, least_of, greatest_of}
use Rattle.wholes.specs.Whole.{signed_of}
use Rattle.boxes.specs.declared.Aabb.{Aabb}
use Rattle.boxes.specs.Boxes.{apart, stop_at}
use Rattle.boxes.specs.Limits.{two_to, are_within, sides_of, is_box}
use Rattle.grid.specs.Grid.{on_grid, vec_on_grid}
use Rattle.grid.specs.Exact.{grid_units, least_z, greatest_z, apart_z, stop_at_z, Exact, ClipLaw}
use Rattle.grid.proofs.Units.{At, Signed, sub_at, lt_at, le-at}
use Rattle.grid.proofs.Counted.{zero-at}
use Rattle.grid.proofs.Readings.{Read, read, at-grid, within-units, reach, limit-at, three, vec-within}

-- ---- numbers on the grid
at-units : (x : Float) (p n : ℕ) → At x p n → grid_units x ≡ sub_ℕ p n
unfolding grid_units
at-units nan p n h = absurd h.value
at-units (inf s) p n h = absurd h.value
at-units (fin t m e) p n h =
    ap (λ (k : ℕ). signed_of t (k / down e)) h.value.1
    ∙ ap (λ (k : ℕ). signed_of t k) (mul-div_cancel h.size (down_pos e))
    ∙ ap (λ (s : Bool). signed_of s h.size) h.value.0
    ∙ go h.sign h.size h.units
  where
    go : (s : Bool) (k : ℕ) → Signed s k p n → signed_of s k ≡ sub_ℕ p n
    go false k u = sym (subℕ-pos p n k (omega arith))
    go true zero u = sym (subℕ-pos p n 0 (omega arith))
    go true (suc k) u = sym (subℕ-neg p n k (omega arith))

pub exact-at : (x : Float) (p n : ℕ) → At x p n → Exact x (sub_ℕ p n)
exact-at x p n h = record { grid = at-grid x p n h; units = at-units x p n h }

own : (x : Float) → T (on_grid x) → Exact x (grid_units x)
own x t = record { grid = t; units = refl }

pub read-units : (x : Float) (r : Read x) → grid_units x ≡ sub_ℕ r.plus r.minus
read-units x r = at-units x r.plus r.minus r.at

lt-exact : (x y : Float) → T (on_grid x) → T (on_grid y) → lt x y ≡ lt_z (grid_units x) (grid_units y)
lt-exact x y s t =
    let a = read x s in
    let b = read y t in
    lt_at x y a.plus a.minus b.plus b.minus a.at b.at ∙ sym (subℕ-lt a.plus a.minus b.plus b.minus)
    ∙ ap (λ (z : ℤ). lt_z z (sub_ℕ b.plus b.minus)) (sym (read-units x a)) ∙ ap (λ (z : ℤ). lt_z (grid_units x) z) (sym (read-units y b))

le-exact : (x y : Float) → T (on_grid x) → T (on_grid y) → le x y ≡ le_z (grid_units x) (grid_units y)
le-exact x y s t =
    let a = read x s in
    let b = read y t in
    le-at x y a.plus a.minus b.plus b.minus a.at b.at ∙ sym (subℕ-le_z a.plus a.minus b.plus b.minus)
    ∙ ap (λ (z : ℤ). le_z z (sub_ℕ b.plus b.minus)) (sym (read-units x a)) ∙ ap (λ (z : ℤ). le_z (grid_units x) z) (sym (read-units y b))

zero-exact : Exact zero64 (pos 0)
zero-exact = exact-at zero64 0 0 (zero-at 0)

-- the difference of two coordinates is not rounded
difference : (x y : Float) → T (on_grid x) → T (on_grid y) → T (is_within_limit x (two_to 25)) → T (is_within_limit y (two_to 25)) → Exact (sub binary64 x y) (grid_units x -ℤ grid_units y)
difference x y s t p q =
    let a = read x s in
    let b = read y t in
    let al : a.plus + a.minus ≤ reach = within-units x (two_to 25) reach limit-at p a in
    let bl : b.plus + b.minus ≤ reach = within-units y (two_to 25) reach limit-at q b in
    subst (λ (z : ℤ). Exact (sub binary64 x y) z)
    (sym (ap (λ (z : ℤ). z -ℤ grid_units y) (read-units x a) ∙ ap (λ (z : ℤ). sub_ℕ a.plus a.minus -ℤ z) (read-units y b) ∙ subℕ-sub a.plus a.minus b.plus b.minus))
    (exact-at (sub binary64 x y) (a.plus + b.minus) (a.minus + b.plus) (sub_at x y a.plus a.minus b.plus b.minus a.at b.at (omega arith) (omega arith)))

-- ---- the steps of a clip
chosen : (b c : Bool) (x y : Float) (u v : ℤ) → b ≡ c → Exact x u → Exact y v → Exact (choose b x y) (choose c u v)
unfolding choose
chosen true true x y u v e h j = h
chosen true false x y u v e h j = absurd (subst T e tt)
chosen false true x y u v e h j = absurd (subst T (sym e) tt)
chosen false false x y u v e h j = j

least : (x y : Float) (u v : ℤ) → Exact x u → Exact y v → Exact (least_of x y) (least_z u v)
least x y u v h j = chosen (lt y x) (lt_z v u) y x v u (lt-exact y x j.grid h.grid ∙ ap (λ (z : ℤ). lt_z z (grid_units x)) j.units ∙ ap (λ (z : ℤ). lt_z v z) h.units) j h

greatest : (x y : Float) (u v : ℤ) → Exact x u → Exact y v → Exact (greatest_of x y) (greatest_z u v)
greatest x y u v h j = chosen (lt x y) (lt_z u v) y x v u (lt-exact x y h.grid j.grid ∙ ap (λ (z : ℤ). lt_z z (grid_units y)) h.units ∙ ap (λ (z : ℤ). lt_z u z) j.units) j h

-- one side of a box: on the grid, and within the limits
record Side (lo hi : Float) : Type 0 where
  low : T (on_grid lo)
  high : T (on_grid hi)
  low-within : T (is_within_limit lo (two_to 25))
  high-within : T (is_within_limit hi (two_to 25))

module _ (lo hi from to : Float) (B : Side lo hi) (M : Side from to) where
  apart-exact : apart lo hi from to ≡ apart_z (grid_units lo) (grid_units hi) (grid_units from) (grid_units to)
  apart-exact = or_is (le to lo) (le hi from) (le_z (grid_units to) (grid_units lo)) (le_z (grid_units hi) (grid_units from)) (le-exact to lo M.high B.low) (le-exact hi from B.high M.low)

  stop-exact : (d : Float) → T (on_grid d) → Exact (stop_at lo hi from to d) (stop_at_z (grid_units lo) (grid_units hi) (grid_units from) (grid_units to) (grid_units d))
  stop-exact d g =
      chosen (lt zero64 d && le to lo) (lt_z (pos 0) (grid_units d) && le_z (grid_units to) (grid_units lo)) _ _ _ _
      (and_is _ _ _ _ (lt-exact zero64 d zero-exact.grid g ∙ ap (λ (z : ℤ). lt_z z (grid_units d)) zero-exact.units) (le-exact to lo M.high B.low))
      (least d (sub binary64 lo to) (grid_units d) (grid_units lo -ℤ grid_units to) (own d g) (difference lo to B.low M.high B.low-within M.high-within))
      (chosen (lt d zero64 && le hi from) (lt_z (grid_units d) (pos 0) && le_z (grid_units hi) (grid_units from)) _ _ _ _
      (and_is _ _ _ _ (lt-exact d zero64 g zero-exact.grid ∙ ap (λ (z : ℤ). lt_z (grid_units d) z) zero-exact.units) (le-exact hi from B.high M.low))
      (greatest d (sub binary64 hi from) (grid_units d) (grid_units hi -ℤ grid_units from) (own d g) (difference hi from B.high M.low B.high-within M.low-within))
      (own d g))

record Corners (b : Aabb) : Type 0 where
  x : Side b.min.x b.max.x
  y : Side b.min.y b.max.y
  z : Side b.min.z b.max.z

corners : (b : Aabb) → T (is_box b && (vec_on_grid b.min && vec_on_grid b.max)) → Corners b
corners b t =
    let r = three (is_box b) (vec_on_grid b.min) (vec_on_grid b.max) t in
    let w = three (are_within b.min (two_to 25)) (are_within b.max (two_to 25)) (sides_of b) r.x in
    let u = vec-within b.min (two_to 25) w.x in
    let v = vec-within b.max (two_to 25) w.y in
    let l = three (on_grid b.min.x) (on_grid b.min.y) (on_grid b.min.z) r.y in
    let h = three (on_grid b.max.x) (on_grid b.max.y) (on_grid b.max.z) r.z in
    record {
      x = record { low = l.x; high = h.x; low-within = u.x; high-within = v.x };
      y = record { low = l.y; high = h.y; low-within = u.y; high-within = v.y };
      z = record { low = l.z; high = h.z; low-within = u.z; high-within = v.z };
    }

pub clips-exact : ClipLaw
clips-exact b mover d s t g =
    let B = corners b s in
    let M = corners mover t in
    let ax = apart-exact b.min.x b.max.x mover.min.x mover.max.x B.x M.x in
    let ay = apart-exact b.min.y b.max.y mover.min.y mover.max.y B.y M.y in
    let az = apart-exact b.min.z b.max.z mover.min.z mover.max.z B.z M.z in
    record {
      x = chosen _ _ d _ (grid_units d) _ (or_is _ _ _ _ ay az) (own d g) (stop-exact b.min.x b.max.x mover.min.x mover.max.x B.x M.x d g);
      y = chosen _ _ d _ (grid_units d) _ (or_is _ _ _ _ ax az) (own d g) (stop-exact b.min.y b.max.y mover.min.y mover.max.y B.y M.y d g);
      z = chosen _ _ d _ (grid_units d) _ (or_is _ _ _ _ ax ay) (own d g) (stop-exact b.min.z b.max.z mover.min.z mover.max.z B.z M.z d g);
    }
