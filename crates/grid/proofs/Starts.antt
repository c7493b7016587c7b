-- A move's box, delta and step height as whole numbers, and the area that the move reaches: then demand 3 holds of the move over a list (`from_start`).
-- Assumes nothing.
use mathlib.Core.Path.{refl, subst}
use mathlib.Core.Logic.{◌⊎◌}
use mathlib.Core.Bool.{Bool, false, not}
use mathlib.Core.List.{List, [], ◌∷◌, Memᴰ}
use Prim.Native.Nat.{ℕ, ◌+◌, ◌-◌, ◌^◌, ◌≤◌, ◌<◌}
use native.Mathlib.Omega.{arith}
use lib.Dec.{T, leb→le, T_not}
use lib.Ieee.{Float, le}
use lib.Ieee.Fits.{and_l, and_r}
use Rattle.floats.specs.Numbers.{zero64, is_within_limit}
use Rattle.boxes.specs.declared.Vec3.{Vec3}
use Rattle.boxes.specs.declared.Aabb.{Aabb}
use Rattle.boxes.specs.Boxes.{overlap}
use Rattle.sweeps.specs.Move.{move_over}
use Rattle.boxes.specs.Limits.{two_to, is_box, is_delta, is_step}
use Rattle.grid.specs.Grid.{on_grid, vec_on_grid, is_proper, is_free}
use Rattle.grid.specs.Demand.{Demand3, keeps_step}
use Rattle.grid.proofs.Units.{At, le_is}
use Rattle.grid.proofs.Axis.{Span, All}
use Rattle.grid.proofs.Whole.{Box, Solid, Free, Overlap, Inside, reach}
use Rattle.grid.proofs.Counted.{base, On, OnAll, zero-at, overlap-from}
use Rattle.grid.proofs.Readings.{three, vec-within, ReadSpan, ReadBox, box_of, box-on, box-solid, read-box, Lead, lead}
use Rattle.grid.proofs.Courses.{Aside, move-demand}

-- 128 and 4, in units
pub delta-at : At (two_to 7) (2 ^ 19) 0
delta-at = record { sign = false; size = 2 ^ 19; value = (refl, refl); units = omega arith }

step-at : At (two_to 2) (2 ^ 14) 0
step-at = record { sign = false; size = 2 ^ 14; value = (refl, refl); units = omega arith }

pub record Start (m : Aabb) (d : Vec3) (h : Float) : Type 0 where
  pub box : ReadBox m
  pub x : Lead d.x box.x.span (2 ^ 19)
  pub y : Lead d.y box.y.span (2 ^ 19)
  pub z : Lead d.z box.z.span (2 ^ 19)
  pub step : Lead h box.y.span (2 ^ 14)
  pub up : box.y.span.lo ≤ step.goal

pub start : (m : Aabb) (d : Vec3) (h : Float) → T (is_box m) → T (is_proper m) → T (is_delta d) → T (vec_on_grid d) → T (is_step h) → T (on_grid h) → Start m d h
start m d h B P W G Q H =
    let b = read-box m B P in
    let w = vec-within d (two_to 7) W in
    let g = three (on_grid d.x) (on_grid d.y) (on_grid d.z) G in
    let s = from d.x (two_to 7) (2 ^ 19) (omega arith) delta-at g.x w.x b.x in
    let step = from h (two_to 2) (2 ^ 14) (omega arith) step-at H (and_l (is_within_limit h (two_to 2)) (le zero64 h) Q) b.y in
    let lo = b.y.span.lo in
    record {
      box = b;
      x = s;
      y = from d.y (two_to 7) (2 ^ 19) (omega arith) delta-at g.y w.y b.y;
      z = from d.z (two_to 7) (2 ^ 19) (omega arith) delta-at g.z w.z b.z;
      step = step;
      up = leb→le lo step.goal (subst T (le_is zero64 h lo lo step.goal lo lo step.goal (zero-at lo) step.leads.at (omega arith)) (and_r (is_within_limit h (two_to 2)) (le zero64 h) Q));
    }
  where
    from : {a b : Float} (d limit : Float) (L : ℕ) → L ≤ 2 ^ 38 → At limit L 0 → T (on_grid d) → T (is_within_limit d limit) → (r : ReadSpan a b (2 ^ 37)) → Lead d r.span L
    from d limit L small H G W r =
        let deep : base ≤ r.span.lo + 2 ^ 37 = r.deep in
        let room : r.span.hi ≤ base + 2 ^ 37 = r.room in
        lead d limit L small H G W r.span r.thick (omega arith) (omega arith)

-- what the move reaches: on y as far as the delta leads, and up from there by the step height
abbrev pub area_of : {m : Aabb} {d : Vec3} {h : Float} → Start m d h → Box
area_of s = record {
  x = reach s.box.x.span s.x.goal;
  y = record { lo = (reach s.box.y.span s.y.goal).lo; hi = (reach s.box.y.span s.y.goal).hi + (s.step.goal - s.box.y.span.lo) };
  z = reach s.box.z.span s.z.goal;
}

inside-self : (s : Span) → Inside s s
inside-self s = record { low = omega arith; high = omega arith }

inside-up : (s : Span) (g k : ℕ) → Inside (reach s g) (record { lo = (reach s g).lo; hi = (reach s g).hi + k })
inside-up s g k = record { low = omega arith; high = omega arith }

inside-step : (s : Span) (g t : ℕ) → s.lo < s.hi → s.lo ≤ t → Inside (reach s t) (record { lo = (reach s g).lo; hi = (reach s g).hi + (t - s.lo) })
unfolding reach
inside-step s g t thick up = record { low = omega arith; high = omega arith }

-- no overlap at the start
start-free : (m : Aabb) (v : Box) → On m v → (fs : List Aabb) (ws : List Box) → OnAll fs ws → T (is_free m fs) → Free v ws
unfolding is_free
start-free m v M [] [] F t = tt
start-free m v M [] (w ∷ ws) F t = absurd F
start-free m v M (f ∷ fs) [] F t = absurd F
start-free m v M (f ∷ fs) (w ∷ ws) F t =
    ((λ (o : Overlap v w). T_not (overlap m f) (and_l (not (overlap m f)) (is_free m fs) t) (overlap-from m f v w M F.0 o)), start-free m v M fs ws F.1 (and_r (not (overlap m f)) (is_free m fs) t))

module _ (Block : Aabb → Type 0) (fs : List Aabb) (ws : List Box) (F : OnAll fs ws) (O : All Solid ws) (m : Aabb) (d : Vec3) (h : Float) (s : Start m d h)
    (back : (o : Aabb) → Memᴰ o fs → Block o) (seen : (o : Aabb) → Block o → Memᴰ o fs ⊎ Aside (area_of s) o) where
  pub from_start : T (is_free m fs) → (grounded : Bool) → Demand3 Block (keeps_step fs m d h grounded) m d (move_over fs m d h grounded)
  from_start t =
      let v = box_of s.box in
      let M = box-on s.box in
      move-demand Block fs ws F O (area_of s) back seen m v M (box-solid s.box) (start-free m v M fs ws F t) d h s.x.goal s.y.goal s.z.goal s.step.goal
      s.x.leads s.y.leads s.z.leads s.step.leads
      (inside-self (reach v.x s.x.goal)) (inside-up v.y s.y.goal (s.step.goal - v.y.lo)) (inside-self (reach v.z s.z.goal))
      (inside-step v.y s.y.goal s.step.goal (box-solid s.box).y s.up)
