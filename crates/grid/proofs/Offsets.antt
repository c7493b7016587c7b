-- Moving a box is exact on the grid. Assumes nothing.
use mathlib.Core.Path.{refl, sym, ap, ◌∙◌, subst}
use mathlib.Core.Bool.{false}
use Prim.Native.Nat.{◌+◌, ◌^◌, ◌≤◌}
use native.Mathlib.Omega.{arith}
use lib.IntN.{ℤ, sub_ℕ, ◌+ℤ◌}
use lib.Dec.{T}
use lib.Ieee.{Float, binary64, add}
use lib.Ieee.Fits.{and_l, and_r}
use Rattle.base.proofs.Differences.{subℕ-plus}
use Rattle.floats.specs.Numbers.{is_within_limit}
use Rattle.boxes.specs.declared.Vec3.{Vec3}
use Rattle.boxes.specs.Limits.{two_to, are_within}
use Rattle.grid.specs.Grid.{on_grid, vec_on_grid}
use Rattle.grid.specs.Exact.{grid_units, Exact, is_near, OffsetLaw}
use Rattle.grid.proofs.Units.{At, add_at}
use Rattle.grid.proofs.Readings.{read, within-units, Three, three, vec-within}
use Rattle.grid.proofs.Clips.{exact-at, read-units}

-- ---- sums of numbers on the grid
limit-at : At (two_to 26) (2 ^ 38) 0
limit-at = record { sign = false; size = 2 ^ 38; value = (refl, refl); units = omega arith }

total : (x y : Float) → T (is_within_limit x (two_to 26)) → T (on_grid x) → T (is_within_limit y (two_to 26)) → T (on_grid y) → Exact (add binary64 x y) (grid_units x +ℤ grid_units y)
total x y p s q t =
    let a = read x s in
    let b = read y t in
    let al : a.plus + a.minus ≤ 2 ^ 38 = within-units x (two_to 26) (2 ^ 38) limit-at p a in
    let bl : b.plus + b.minus ≤ 2 ^ 38 = within-units y (two_to 26) (2 ^ 38) limit-at q b in
    subst (λ (z : ℤ). Exact (add binary64 x y) z)
    (sym (ap (λ (z : ℤ). z +ℤ grid_units y) (read-units x a) ∙ ap (λ (z : ℤ). sub_ℕ a.plus a.minus +ℤ z) (read-units y b) ∙ subℕ-plus a.plus a.minus b.plus b.minus))
    (exact-at (add binary64 x y) (a.plus + b.plus) (a.minus + b.minus) (add_at x y a.plus a.minus b.plus b.minus a.at b.at (omega arith) (omega arith)))

-- ---- a corner
record Near (v : Vec3) : Type 0 where
  within : Three (is_within_limit v.x (two_to 26)) (is_within_limit v.y (two_to 26)) (is_within_limit v.z (two_to 26))
  grid : Three (on_grid v.x) (on_grid v.y) (on_grid v.z)

near : (v : Vec3) → T (is_near v) → Near v
near v t = record {
  within = vec-within v (two_to 26) (and_l (are_within v (two_to 26)) (vec_on_grid v) t);
  grid = three (on_grid v.x) (on_grid v.y) (on_grid v.z) (and_r (are_within v (two_to 26)) (vec_on_grid v) t);
}

pub offsets-exact : OffsetLaw
offsets-exact b by s t u =
    let lo = near b.min s in
    let hi = near b.max t in
    let d = near by u in
    record {
      x0 = total b.min.x by.x lo.within.x lo.grid.x d.within.x d.grid.x;
      y0 = total b.min.y by.y lo.within.y lo.grid.y d.within.y d.grid.y;
      z0 = total b.min.z by.z lo.within.z lo.grid.z d.within.z d.grid.z;
      x1 = total b.max.x by.x hi.within.x hi.grid.x d.within.x d.grid.x;
      y1 = total b.max.y by.y hi.within.y hi.grid.y d.within.y d.grid.y;
      z1 = total b.max.z by.z hi.within.z hi.grid.z d.within.z d.grid.z;
    }
