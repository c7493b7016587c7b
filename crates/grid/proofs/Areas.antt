-- The swept area, which collection goes through, is the area that the move reaches (`area_on`). Assumes nothing.
use mathlib.Core.Path.{◌≡◌, ap}
use mathlib.Core.Bool.{Bool, true, false, not, cond}
use Prim.Native.Nat.{ℕ, ◌+◌, ◌-◌, ◌^◌, ◌≤◌, ◌<◌, min, max}
use native.Mathlib.Omega.{arith}
use lib.Dec.{T, leb, leb→le, nleb→lt}
use lib.Ieee.{Float, binary64, add, le}
use Rattle.floats.specs.Numbers.{zero64}
use Rattle.boxes.specs.declared.Vec3.{Vec3}
use Rattle.boxes.specs.declared.Aabb.{Aabb}
use Rattle.boxes.specs.Boxes.{below0, above0}
use Rattle.collection.specs.Collect.{swept_area}
use Rattle.grid.proofs.Units.{At, add_at, at_same, le_is}
use Rattle.grid.proofs.Axis.{Span}
use Rattle.grid.proofs.Whole.{Box, reach}
use Rattle.grid.proofs.Counted.{base, top, OnSpan, On, zero-at, choose-at}
use Rattle.grid.proofs.Readings.{ReadSpan, Lead}
use Rattle.grid.proofs.Cells.{Reached}
use Rattle.grid.proofs.Starts.{Start, area_of}

below_at : (d : Float) (g lo : ℕ) → At d g lo → At (below0 d) (min g lo) lo
below_at d g lo h =
    at_same (cond (leb g lo) g lo) lo (min g lo) lo (ap (λ (z : ℕ). z + lo) (go (leb g lo) (leb→le g lo) (nleb→lt g lo)))
    (choose-at (le d zero64) (leb g lo) d zero64 g lo lo (le_is d zero64 g lo lo lo g lo h (zero-at lo) (omega arith)) (λ t. h) (λ t. zero-at lo))
  where
    go : (b : Bool) → (T b → g ≤ lo) → (T (not b) → lo < g) → cond b g lo ≡ min g lo
    go true f f' = let z = f tt in omega arith
    go false f f' = let z = f' tt in omega arith

above_at : (d : Float) (g lo : ℕ) → At d g lo → At (above0 d) (max g lo) lo
above_at d g lo h =
    at_same (cond (leb lo g) g lo) lo (max g lo) lo (ap (λ (z : ℕ). z + lo) (go (leb lo g) (leb→le lo g) (nleb→lt lo g)))
    (choose-at (le zero64 d) (leb lo g) d zero64 g lo lo (le_is zero64 d lo lo g lo lo g (zero-at lo) h (omega arith)) (λ t. h) (λ t. zero-at lo))
  where
    go : (b : Bool) → (T b → lo ≤ g) → (T (not b) → g < lo) → cond b g lo ≡ max g lo
    go true f f' = let z = f tt in omega arith
    go false f f' = let z = f' tt in omega arith

-- one end of a side, moved by the delta's share d and then by e, which is not below 0
module _ (d e : Float) (lo g t : ℕ) (D : At d g lo) (E : At e t lo) (up : lo ≤ t) (low : lo ≤ top) (goal : g ≤ top) (near : t ≤ top) where
  low_end : (a : Float) → At a lo base → At (add binary64 (add binary64 a (below0 d)) (below0 e)) (min lo g) base
  low_end a A =
      at_same (lo + min g lo + min t lo) (base + lo + lo) (min lo g) base (omega arith)
      (add_at (add binary64 a (below0 d)) (below0 e) (lo + min g lo) (base + lo) (min t lo) lo
      (add_at a (below0 d) lo base (min g lo) lo A (below_at d g lo D) (omega arith) (omega arith)) (below_at e t lo E) (omega arith) (omega arith))

  high_end : (b : Float) (hi r : ℕ) → At b hi base → lo < hi → hi ≤ top → r ≡ max hi (g + (hi - lo)) + (t - lo) → At (add binary64 (add binary64 b (above0 d)) (above0 e)) r base
  high_end b hi r B thick high q =
      at_same (hi + max g lo + max t lo) (base + lo + lo) r base (omega arith)
      (add_at (add binary64 b (above0 d)) (above0 e) (hi + max g lo) (base + lo) (max t lo) lo
      (add_at b (above0 d) hi base (max g lo) lo B (above_at d g lo D) (omega arith) (omega arith)) (above_at e t lo E) (omega arith) (omega arith))

pub record Sides (a b : Float) (s : Span) : Type 0 where
  pub lo : Reached a s.lo
  pub hi : Reached b s.hi

side : (a b d e : Float) (r : ReadSpan a b (2 ^ 37)) (l : Lead d r.span (2 ^ 19)) (t hi : ℕ) → At e t r.span.lo → r.span.lo ≤ t → t ≤ r.span.lo + 2 ^ 14
    → hi ≡ (reach r.span l.goal).hi + (t - r.span.lo)
    → Sides (add binary64 (add binary64 a (below0 d)) (below0 e)) (add binary64 (add binary64 b (above0 d)) (above0 e)) (record { lo = (reach r.span l.goal).lo; hi = hi })
unfolding reach
side a b d e r l t hi E up near q =
    let lo = r.span.lo in
    let g = l.goal in
    let deep : base ≤ lo + 2 ^ 37 = r.deep in
    let room : r.span.hi ≤ base + 2 ^ 37 = r.room in
    let thick : lo < r.span.hi = r.thick in
    let gl : lo ≤ g + 2 ^ 19 = l.low in
    let gh : g ≤ lo + 2 ^ 19 = l.high in
    record {
      lo = record { at = low_end d e lo g t l.leads.at E up (omega arith) (omega arith) (omega arith) a r.on.lo.at; low = omega arith; high = omega arith };
      hi = record { at = high_end d e lo g t l.leads.at E up (omega arith) (omega arith) (omega arith) b r.span.hi hi r.on.hi.at thick (omega arith) q; low = omega arith; high = omega arith };
    }

pub record Area (f : Aabb) (w : Box) : Type 0 where
  pub x : Sides f.min.x f.max.x w.x
  pub y : Sides f.min.y f.max.y w.y
  pub z : Sides f.min.z f.max.z w.z

pub area : (m : Aabb) (d : Vec3) (h : Float) (s : Start m d h) → Area (swept_area m d h) (area_of s)
unfolding reach
area m d h s =
    let gx = s.box.x.span.lo in
    let gz = s.box.z.span.lo in
    let room : s.step.goal ≤ s.box.y.span.lo + 2 ^ 14 = s.step.high in
    record {
      x = side m.min.x m.max.x d.x zero64 s.box.x s.x gx (reach s.box.x.span s.x.goal).hi (zero-at gx) (omega arith) (omega arith) (omega arith);
      y = side m.min.y m.max.y d.y h s.box.y s.y s.step.goal ((reach s.box.y.span s.y.goal).hi + (s.step.goal - s.box.y.span.lo)) s.step.leads.at s.up room (omega arith);
      z = side m.min.z m.max.z d.z zero64 s.box.z s.z gz (reach s.box.z.span s.z.goal).hi (zero-at gz) (omega arith) (omega arith) (omega arith);
    }

pub area_on : {f : Aabb} {w : Box} → Area f w → On f w
area_on a = record { x = on a.x; y = on a.y; z = on a.z }
  where
    on : {a b : Float} {s : Span} → Sides a b s → OnSpan a b s
    on {a} {b} {s} r =
        let l : s.lo ≤ base + 2 ^ 38 = r.lo.high in
        let h : s.hi ≤ base + 2 ^ 38 = r.hi.high in
        record { lo = record { at = r.lo.at; within = omega arith }; hi = record { at = r.hi.at; within = omega arith } }
