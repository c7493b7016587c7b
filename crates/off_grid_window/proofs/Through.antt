-- Change request Thirteen through a window: what was collected are boxes of settled cells, and every box of a settled cell was collected, or the swept area
-- does not overlap it. Assumes nothing.
use mathlib.Core.Path.{◌≡◌, refl, sym, subst}
use mathlib.Core.Bool.{Bool, true, false, not}
use mathlib.Core.List.{List, Memᴰ}
use Prim.Native.Nat.{ℕ, ◌+◌, ◌*◌, ◌^◌, ◌≤◌}
use native.Mathlib.Nat.{mul-le-mul_right}
use native.Mathlib.Omega.{arith}
use lib.IntN.{ℤ, pos}
use lib.Dec.{T}
use lib.Ieee.{Float, lt}
use lib.Ieee.Fits.{and_l, and_r}
use Rattle.base.specs.Ask.{found}
use Rattle.base.proofs.Scaled.{over, under, Within, widen}
use Rattle.boxes.specs.declared.Vec3.{Vec3}
use Rattle.boxes.specs.declared.Aabb.{Aabb}
use Rattle.boxes.specs.Boxes.{meet, overlap}
use Rattle.sweeps.specs.declared.MoveResult.{MoveResult}
use Rattle.sweeps.specs.Move.{move_over}
use Rattle.window.specs.declared.Pos.{Pos}
use Rattle.window.specs.declared.Window.{Window}
use Rattle.window.specs.Window.{window_fits}
use Rattle.window.specs.Look.{look_at}
use Rattle.ranges.specs.declared.Axis.{Axis}
use Rattle.sweeps.specs.Lists.{cap_of}
use Rattle.collection.specs.Collect.{range_of, collect_block_boxes, swept_area}
use Rattle.grid.specs.Grid.{is_free}
use Rattle.grid.specs.Demand.{IsSettled, shapes_pass, is_free_in}
use Rattle.grid.proofs.Cells.{numbered, Numbered, Held}
use Rattle.grid.proofs.Blocks.{InColumn}
use Rattle.grid.proofs.Readings.{three}
use Rattle.grid.proofs.Far.{far_apart}
use Rattle.grid.proofs.Through.{InRange, in_place, at_place, free-at, turned, boxes_in, back, back-overlaps, collected, taken-through}
use Rattle.off_grid.specs.Scaled.{slack, tight_units, tight_slack, is_slight}
use Rattle.off_grid.proofs.Axis.{unit, lt→, Short, before, beyond}
use Rattle.off_grid.proofs.Passes.{BoxIn, box-widen, BoxReal, box-real, Clear, on_x, on_y, on_z, free-clear, overlap-turn}
use Rattle.off_grid.proofs.Starts.{one, one-units, Mover, mover, Start, all_from, from_start, from-start-aside, swept-in, tight, loose}
use Rattle.off_grid_window.specs.Demand.{TypedShapes, is_shape, window_off_grid, BoundedWindowDemand}
use Rattle.off_grid_window.proofs.Cells.{one-pos, own-one, fewer, floor-of, Place, held_at, under-it, over-it, in_cells, in-layers}
use Rattle.off_grid_window.proofs.Blocks.{End, InCells, Off, above, beneath, off, Stands, near, far, block}

-- ---- an area, whose ends are within 2 ^ 26: a cell is in its range, or its boxes are clear of it
abbrev Reached : Aabb → Type 0
Reached s = BoxIn (67108864 * one) s

-- where a box of a cell lies
data Where (s : Aabb) (b : Aabb) (p : Pos) : Type 0 where
  within-range : InRange (range_of s) p → Where s b p
  aside : Clear 0 0 0 0 s b → Where s b p

aside-under : {lo hi s0 s1 : Float} {n extra : ℕ} → End hi n extra → (n + extra) * one + under s0 ≤ over s0 + 268435456 * one → Short lo hi s0 s1 0 0
aside-under c h = let a = c.high in beyond (omega arith)

aside-over : {lo hi s0 s1 : Float} {n extra : ℕ} → End lo n extra → over s1 + 268435456 * one ≤ n * one + under s1 → Short lo hi s0 s1 0 0
aside-over c h = let a = c.low in before (omega arith)

off-clear : (s b : Aabb) → Reached s → Off b → Clear 0 0 0 0 s b
off-clear s b A (above h) = let a = A.y1.high in on_y (before (omega arith))
off-clear s b A (beneath h) = let a = A.y0.low in on_y (beyond (omega arith))

module _ (s : Aabb) (A : Reached s) (b : Aabb) (p : Pos) where
  near-place : {w : Window} (i : InColumn w p) (y : Numbered p.y (2 ^ 27)) → InCells b i.x.at.number y.number i.z.at.number → Where s b p
  near-place i y c =
      go (in_cells s.min.x s.max.x i.x.at.number (floor-of s.min.x A.x0) (floor-of s.max.x A.x1))
      (in-layers s.min.y s.max.y y.number (floor-of s.min.y A.y0) (floor-of s.max.y A.y1))
      (in_cells s.min.z s.max.z i.z.at.number (floor-of s.min.z A.z0) (floor-of s.max.z A.z1))
    where
      at : {a : Axis} (n : ℕ) (c : ℤ) → c ≡ numbered n → Held a (numbered n) → Held a c
      at {a} n c e k = subst (λ (z : ℤ). Held a z) (sym e) k

      go : Place s.min.x s.max.x (range_of s).x i.x.at.number 1 → Place s.min.y s.max.y (range_of s).y y.number 2
          → Place s.min.z s.max.z (range_of s).z i.z.at.number 1 → Where s b p
      go (under-it k) q r = aside (on_x (aside-under c.x1 k))
      go (over-it k) q r = aside (on_x (aside-over c.x0 k))
      go (held_at k) (under-it l) r = aside (on_y (aside-under c.y1 l))
      go (held_at k) (over-it l) r = aside (on_y (aside-over c.y0 l))
      go (held_at k) (held_at l) (under-it m) = aside (on_z (aside-under c.z1 m))
      go (held_at k) (held_at l) (over-it m) = aside (on_z (aside-over c.z0 m))
      go (held_at k) (held_at l) (held_at m) =
          within-range (in_place (range_of s) p (at i.x.at.number p.x i.x.at.is k) (at y.number p.y y.is l) (at i.z.at.number p.z i.z.at.is m))

-- ---- the ends of a box of a cell
cells-real : {b : Aabb} {nx ny nz : ℕ} → InCells b nx ny nz → BoxReal b
cells-real c = record { x0 = c.x0.real; y0 = c.y0.real; z0 = c.z0.real; x1 = c.x1.real; y1 = c.y1.real; z1 = c.z1.real }

end-in : {x : Float} {n extra : ℕ} → End x n extra → extra ≤ 2 → n ≤ 268435456 + 67108864 → 268435456 ≤ n + 67108866 → Within x (67108868 * one)
end-in {x} {n} {extra} c E S D =
    let a = c.low in
    let b = c.high in
    let u : (n + extra) * one ≤ (268435456 + 67108866) * one = mul-le-mul_right one (let z : n + extra ≤ 268435456 + 67108866 = omega arith in z) in
    let v : 268435456 * one ≤ (n + 67108866) * one = mul-le-mul_right one D in
    record { real = c.real; high = omega arith; low = omega arith }

-- of a box that overlaps the area: its cell is as near as that
overlap-in : (s b : Aabb) → Reached s → {w : Window} (p : Pos) (i : InColumn w p) (y : Numbered p.y (2 ^ 27)) → InCells b i.x.at.number y.number i.z.at.number → T (overlap b s) → BoxIn (67108868 * one) b
overlap-in s b A p i y c t =
    let m = (three (meet b.min.x b.max.x s.min.x s.max.x) (meet b.min.y b.max.y s.min.y s.max.y) (meet b.min.z b.max.z s.min.z s.max.z) t).y in
    let u = lt→ c.y0.real A.y1.real (and_l (lt b.min.y s.max.y) (lt s.min.y b.max.y) m) in
    let v = lt→ A.y0.real c.y1.real (and_r (lt b.min.y s.max.y) (lt s.min.y b.max.y) m) in
    let n = y.number in
    let al = A.y0.low in
    let ah = A.y1.high in
    let cl = c.y0.low in
    let ch = c.y1.high in
    let yh : n ≤ 268435456 + 67108864 = fewer n (268435456 + 67108864) (omega arith) in
    let yl : 201326592 ≤ n + 2 = fewer 201326592 (n + 2) (omega arith) in
    let xh : i.x.at.number ≤ 2 ^ 28 + 2 ^ 26 = i.x.at.high in
    let xl : 2 ^ 28 ≤ i.x.at.number + 2 ^ 26 = i.x.at.low in
    let zh : i.z.at.number ≤ 2 ^ 28 + 2 ^ 26 = i.z.at.high in
    let zl : 2 ^ 28 ≤ i.z.at.number + 2 ^ 26 = i.z.at.low in
    record {
      x0 = end-in c.x0 (omega arith) (omega arith) (omega arith);
      y0 = end-in c.y0 (omega arith) (omega arith) (omega arith);
      z0 = end-in c.z0 (omega arith) (omega arith) (omega arith);
      x1 = end-in c.x1 (omega arith) (omega arith) (omega arith);
      y1 = end-in c.y1 (omega arith) (omega arith) (omega arith);
      z1 = end-in c.z1 (omega arith) (omega arith) (omega arith);
    }

-- ---- the swept area
swept-reached : (m : Aabb) (d : Vec3) (h : Float) → Mover m d h → Reached (swept_area m d h)
swept-reached m d h M =
    let e = one-units in
    let A = swept-in m d h M in
    record {
      x0 = widen (omega arith) A.x.in0;
      y0 = widen (omega arith) A.y.in0;
      z0 = widen (omega arith) A.z.in0;
      x1 = widen (omega arith) A.x.in1;
      y1 = widen (omega arith) A.y.in1;
      z1 = widen (omega arith) A.z.in1;
    }

module _ (records : List ℕ) (shapes : List Float) (cells : List ℕ) (w : Window) (S : TypedShapes shapes) (W : window_fits cells w ≡ true) (G : T (shapes_pass is_shape records shapes cells w))
    (m : Aabb) (d : Vec3) (h : Float) (M : Mover m d h) where
  abbrev swept : Aabb
  swept = swept_area m d h

  abbrev boxes_of : Pos → List Aabb
  boxes_of = boxes_in records shapes cells w

  -- no overlap at the start
  start-clear : T (is_free_in records shapes cells w m) → (o : Aabb) → IsSettled records shapes cells w o → Clear 0 0 0 0 m o
  start-clear t o c = let b = block records shapes cells w S W G c.cell o c.is in at c.cell b.place b.stands c.is
    where
      R : Reached m
      R = box-widen (omega arith) M.box

      at : (p : Pos) (i : InColumn w p) → Stands p o i.x.at.number i.z.at.number → Memᴰ o (boxes_of p) → Clear 0 0 0 0 m o
      at p i (far f) n = off-clear m o R (off o f)
      at p i (near y k) n = go (near-place m R o p i y k)
        where
          go : Where m o p → Clear 0 0 0 0 m o
          go (aside c) = c
          go (within-range r) = free-clear m o (box-real R) (cells-real k) (free-at m o (boxes_of p) n (at_place (range_of m) (λ p. is_free m (boxes_of p)) p r t))

  module _ (cap : ℕ) (bs : List Aabb) (C : collect_block_boxes cap (look_at cells w) records shapes (swept_area m d h) ≡ found bs) where
    R : Reached swept
    R = swept-reached m d h M

    -- what was collected lies near
    known : (o : Aabb) → Memᴰ o bs → BoxIn (67108868 * one) o
    known o n =
        let c = back records shapes cells w cap swept bs C o n in
        let b = block records shapes cells w S W G c.cell o c.is in
        at c.cell b.place b.stands (back-overlaps records shapes cells w cap swept bs C o n)
      where
        at : (p : Pos) (i : InColumn w p) → Stands p o i.x.at.number i.z.at.number → T (overlap o swept) → BoxIn (67108868 * one) o
        at p i (near y k) t = overlap-in swept o R p i y k t
        at p i (far f) t =
            absurd (far_apart one one-pos swept o (over swept.min.y) (under swept.min.y) (over swept.max.y) (under swept.max.y)
            (own-one R.y0.real) (own-one R.y1.real) R.y0.low R.y1.high f (turned o swept t))

    begun : T (is_free_in records shapes cells w m) → Start bs m d h
    begun t = record {
      mover = M;
      boxes = all_from (BoxIn (67108868 * one)) bs known;
      free = all_from (Clear 0 0 0 0 m) bs (λ o n. start-clear t o (back records shapes cells w cap swept bs C o n));
    }

    through : (k : ℕ) → 3 * unit ≤ k → T (is_free_in records shapes cells w m) → (grounded : Bool) (o : Aabb) → IsSettled records shapes cells w o → T (is_slight (pos k) (move_over bs m d h grounded).aabb o)
    through k K t grounded o c = let b = block records shapes cells w S W G c.cell o c.is in at c.cell b.place b.stands c.is
      where
        at : (p : Pos) (i : InColumn w p) → Stands p o i.x.at.number i.z.at.number → Memᴰ o (boxes_of p) → T (is_slight (pos k) (move_over bs m d h grounded).aabb o)
        at p i (far f) n = from-start-aside k K bs m d h grounded (begun t) o (off-clear swept o R (off o f))
        at p i (near y e) n = go (near-place swept R o p i y e) (overlap o swept) refl
          where
            go : Where swept o p → (u : Bool) → overlap o swept ≡ u → T (is_slight (pos k) (move_over bs m d h grounded).aabb o)
            go (aside a) u q = from-start-aside k K bs m d h grounded (begun t) o a
            go (within-range r) true q = from_start k K bs m d h grounded (begun t) o (collected records shapes cells w cap swept bs C p o n r q)
            go (within-range r) false q =
                from-start-aside k K bs m d h grounded (begun t) o
                (free-clear swept o (box-real R) (cells-real e) (overlap-turn o swept (subst (λ (b : Bool). T (not b)) (sym q) tt)))

-- ---- a move that is not refused
within-bound : (k : ℕ) → 3 * unit ≤ k → BoundedWindowDemand (pos k)
unfolding window_off_grid
within-bound k K cap records shapes cells w m d h grounded S F t e o c =
    let a = taken-through cap records shapes cells w m d h grounded e in
    let G = and_l (shapes_pass is_shape records shapes cells w) (is_free_in records shapes cells w m) t in
    let free = and_r (shapes_pass is_shape records shapes cells w) (is_free_in records shapes cells w m) t in
    let M = mover m d h F a.box a.delta a.step in
    subst (λ (q : MoveResult). T (is_slight (pos k) q.aabb o)) (sym a.result) (through records shapes cells w S a.window G m d h M (cap_of cap) a.boxes a.collects k K free grounded o c)

-- "by at most 2^-26", and three quarters of it
pub off-grid-window : BoundedWindowDemand slack
off-grid-window = within-bound (2 ^ 1048) loose

pub off-grid-window-tight : BoundedWindowDemand tight_slack
off-grid-window-tight = within-bound tight_units tight
