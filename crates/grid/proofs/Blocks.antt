-- The boxes of a settled cell, as whole numbers: each lies in its cell, or up to half a block above it, unless the cell is far above or below all that a
-- move reaches (`block`). Assumes nothing.
use mathlib.Core.Path.{◌≡◌, refl, sym, ap, ◌∙◌, subst}
use mathlib.Core.Logic.{inr, ◌⊎◌, inl}
use mathlib.Core.Bool.{Bool, true, false, not, ◌&&◌, ◌||◌, false≢true}
use mathlib.Core.List.Memᴰ
use mathlib.Core.List.{List, [], Memᴰ}
use Prim.Native.Nat.{ℕ, ◌+◌, ◌-◌, ◌*◌, ◌^◌, ◌≤◌, ◌<◌}
use native.Mathlib.Omega.{arith}
use lib.IntN.{ℤ, pos, negsuc, nat_abs, ◌+ℤ◌, ◌-ℤ◌, +ℤ_comm, -ℤ-+ℤ_cancel}
use lib.Signed.{le_z, lt_z}
use lib.Dec.{T, ltb, leb, ltb→lt, leb→le, nleb→lt, lit<}
use lib.Ieee.{Float, binary64, of_bits, of_int, add, lt, le}
use lib.Ieee.Fits.{and_l, and_r}
use borrow.Author.Tests.{ltb-true, leb-true}
use Rattle.base.specs.Ask.{Ask, refused, found, ◌>>=◌}
use Rattle.base.specs.Every.{every}
use Rattle.base.proofs.Every.{both, every-at}
use Rattle.base.proofs.Tests.{T_true}
use Rattle.base.proofs.Differences.{subℕ-add}
use Rattle.base.proofs.Members.{in-listed}
use Rattle.floats.specs.Numbers.{zero64, one64}
use Rattle.boxes.specs.declared.Aabb.{Aabb}
use Rattle.boxes.specs.Boxes.{offset_by}
use Rattle.cover.specs.Cover.{box_count}
use Rattle.tables.specs.Tables.{boxes_at, box_at}
use Rattle.window.specs.declared.Pos.{Pos}
use Rattle.window.specs.declared.Window.{Window}
use Rattle.window.specs.Window.{within, column_inside, is_void, size_is_fit, sizes_fit, coordinate_fits, origin_fits, window_fits}
use Rattle.window.specs.Look.{Block, none, some, look_at}
use Rattle.window.proofs.Offsets.{within_by}
use Rattle.window.proofs.Cells.{fits, found_inside}
use Rattle.collection.specs.Collect.{CellShape, cube, boxes, origin_of, cube_at, to_aabb, aabbs_of, shape_of, cell_shape}
use Rattle.collection.specs.Settled.{settled, settled_boxes}
use Rattle.grid.specs.Grid.{on_grid, is_proper}
use Rattle.grid.specs.Demand.{cell_and_half, is_in_cell, shape_passes, settled_passes, cell_from, every_column, above_world, below_world, deep_below, every_height, shapes_pass, shapes_on_grid}
use Rattle.grid.proofs.Units.{At, add_at, at_same, le-at, lt_at}
use Rattle.grid.proofs.Axis.{Span}
use Rattle.grid.proofs.Counted.{base, OnSpan, zero-at}
use Rattle.grid.proofs.Readings.{read, Three, three, Proper, proper}
use Rattle.grid.proofs.Cells.{Numbered, number, origin-at}
use Rattle.grid.proofs.Far.{Far, slight, far-cube, far-shape}
use Rattle.grid.proofs.Heights.{Out, sky, deep, above-highest, below-lowest, just-below, at_height, void-shape, state-inside}

-- ---- one side of a box of the cell n, at most `tall` units from the cell's lower end
pub record InCell (a b : Float) (n tall : ℕ) : Type 0 where
  pub span : Span
  pub on : OnSpan a b span
  pub thick : span.lo < span.hi
  pub low : 4096 * n ≤ span.lo
  pub high : span.hi ≤ 4096 * n + tall

shape-side : (lo hi o limit : Float) (n tall : ℕ) → n ≤ 2 ^ 28 + 2 ^ 27 → tall ≤ 8192 → At limit tall 0 → At o (4096 * n) base
    → T (on_grid lo) → T (on_grid hi) → T (lt lo hi) → T (le zero64 lo) → T (le hi limit) → InCell (add binary64 lo o) (add binary64 hi o) n tall
shape-side lo hi o limit n tall N small L O A B thick low high =
    let r = read lo A in
    let q = read hi B in
    let u : 0 + r.minus ≤ r.plus + 0 = leb→le (0 + r.minus) (r.plus + 0) (subst T (le-at zero64 lo 0 0 r.plus r.minus (zero-at 0) r.at) low) in
    let v : q.plus + 0 ≤ tall + q.minus = leb→le (q.plus + 0) (tall + q.minus) (subst T (le-at hi limit q.plus q.minus tall 0 q.at L) high) in
    let t : r.plus + q.minus < q.plus + r.minus = ltb→lt (r.plus + q.minus) (q.plus + r.minus) (subst T (lt_at lo hi r.plus r.minus q.plus q.minus r.at q.at) thick) in
    let a = 4096 * n + r.plus - r.minus in
    let b = 4096 * n + q.plus - q.minus in
    record {
      span = record { lo = a; hi = b };
      on = record {
        lo = record { at = at_same (r.plus + 4096 * n) (r.minus + base) a base (omega arith) (add_at lo o r.plus r.minus (4096 * n) base r.at O (omega arith) (omega arith)); within = omega arith };
        hi = record { at = at_same (q.plus + 4096 * n) (q.minus + base) b base (omega arith) (add_at hi o q.plus q.minus (4096 * n) base q.at O (omega arith) (omega arith)); within = omega arith };
      };
      thick = omega arith;
      low = omega arith;
      high = omega arith;
    }

one_at : At one64 4096 0
unfolding of_bits
one_at = record { sign = false; size = 4096; value = (refl, refl); units = refl }

half_at : At cell_and_half 6144 0
unfolding of_bits
half_at = record { sign = false; size = 6144; value = (refl, refl); units = refl }

cube-side : (o : Float) (n tall : ℕ) → n ≤ 2 ^ 28 + 2 ^ 27 → 4096 ≤ tall → At o (4096 * n) base → InCell o (add binary64 o one64) n tall
cube-side o n tall N tall-enough O =
    record {
      span = record { lo = 4096 * n; hi = 4096 * n + 4096 };
      on = record {
        lo = record { at = O; within = omega arith };
        hi = record { at = at_same (4096 * n + 4096) (base + 0) (4096 * n + 4096) base (omega arith) (add_at o one64 (4096 * n) base 4096 0 O one_at (omega arith) (omega arith)); within = omega arith };
      };
      thick = omega arith;
      low = omega arith;
      high = omega arith;
    }

-- ---- where a column of the window lies, and a height of it
pub record OnAxis (o : ℤ) (n : ℕ) (c : ℤ) : Type 0 where
  pub index : ℕ
  pub below : index < n
  pub from : o +ℤ pos index ≡ c
  pub at : Numbered c (2 ^ 26)

on-axis : (o : ℤ) (n : ℕ) (c : ℤ) → within o n c ≡ true → coordinate_fits o ≡ true → size_is_fit n ≡ true → OnAxis o n c
unfolding coordinate_fits
on-axis o n c e f s = go (c -ℤ o) refl (sym (within_by o n c) ∙ e)
  where
    go : (d : ℤ) → c -ℤ o ≡ d → (le_z (pos 0) d && lt_z d (pos n)) ≡ true → OnAxis o n c
    go (negsuc k) g e = absurd (false≢true e)
    go (pos k) g e =
        let l : k < n = ltb-true k n (both (leb 0 k) (ltb k n) e).two in
        let m : n ≤ 64 = leb-true n 64 (both (leb 1 n) (leb n 64) s).two in
        let q = number o 33554432 (leb-true (nat_abs o) 33554432 f) (omega arith) in
        let p : o +ℤ pos k ≡ c = +ℤ_comm o (pos k) ∙ ap (λ (z : ℤ). z +ℤ o) (sym g) ∙ -ℤ-+ℤ_cancel c o in
        let low : 2 ^ 28 ≤ q.number + 33554432 = q.low in
        let high : q.number ≤ 2 ^ 28 + 33554432 = q.high in
        record {
          index = k;
          below = l;
          from = p;
          at = record { number = q.number + k; is = sym p ∙ ap (λ (z : ℤ). z +ℤ pos k) q.is ∙ subℕ-add q.number (2 ^ 28) k; low = omega arith; high = omega arith };
        }

pub record InColumn (w : Window) (p : Pos) : Type 0 where
  pub x : OnAxis w.origin.x w.sizes.x p.x
  pub z : OnAxis w.origin.z w.sizes.z p.z

-- what each axis of a window that passes its check keeps to
record Axis (o : ℤ) (n : ℕ) : Type 0 where
  origin : coordinate_fits o ≡ true
  size : size_is_fit n ≡ true

record Axes (w : Window) : Type 0 where
  x : Axis w.origin.x w.sizes.x
  y : Axis w.origin.y w.sizes.y
  z : Axis w.origin.z w.sizes.z

axes : (words : List ℕ) (w : Window) → window_fits words w ≡ true → Axes w
unfolding sizes_fit origin_fits
axes words w f =
    let s = both (size_is_fit w.sizes.x && size_is_fit w.sizes.y) (size_is_fit w.sizes.z) (fits words w f).sizes in
    let sxy = both (size_is_fit w.sizes.x) (size_is_fit w.sizes.y) s.one in
    let o = both (coordinate_fits w.origin.x && coordinate_fits w.origin.y) (coordinate_fits w.origin.z) (fits words w f).origin in
    let oxy = both (coordinate_fits w.origin.x) (coordinate_fits w.origin.y) o.one in
    record { x = record { origin = oxy.one; size = sxy.one }; y = record { origin = oxy.two; size = sxy.two }; z = record { origin = o.two; size = s.two } }

in-column : (words : List ℕ) (w : Window) (p : Pos) → window_fits words w ≡ true → column_inside w p ≡ true → InColumn w p
in-column words w p f c =
    let a = axes words w f in
    let xz = both (within w.origin.x w.sizes.x p.x) (within w.origin.z w.sizes.z p.z) c in
    record {
      x = on-axis w.origin.x w.sizes.x p.x xz.one a.x.origin a.x.size;
      z = on-axis w.origin.z w.sizes.z p.z xz.two a.z.origin a.z.size;
    }

-- ---- a box of the cell p, whose numbers are nx, ny and nz
pub record InCells (b : Aabb) (nx ny nz : ℕ) : Type 0 where
  pub x : InCell b.min.x b.max.x nx 4096
  pub y : InCell b.min.y b.max.y ny 6144
  pub z : InCell b.min.z b.max.z nz 4096

-- what the tests say of a shape's box
record Shape (b : Aabb) : Type 0 where
  proper : Proper b
  low : Three (le zero64 b.min.x) (le zero64 b.min.y) (le zero64 b.min.z)
  high : Three (le b.max.x one64) (le b.max.y cell_and_half) (le b.max.z one64)

shape-of : (b : Aabb) → T (is_proper b && is_in_cell b) → Shape b
shape-of b t =
    let c = and_r (is_proper b) (is_in_cell b) t in
    let low = le zero64 b.min.x && (le zero64 b.min.y && le zero64 b.min.z) in
    let high = le b.max.x one64 && (le b.max.y cell_and_half && le b.max.z one64) in
    record {
      proper = proper b (and_l (is_proper b) (is_in_cell b) t);
      low = three (le zero64 b.min.x) (le zero64 b.min.y) (le zero64 b.min.z) (and_l low high c);
      high = three (le b.max.x one64) (le b.max.y cell_and_half) (le b.max.z one64) (and_r low high c);
    }

module _ (p : Pos) (x : Numbered p.x (2 ^ 26)) (y : Numbered p.y (2 ^ 27)) (z : Numbered p.z (2 ^ 26)) where
  small : {c : ℤ} (a : Numbered c (2 ^ 26)) → a.number ≤ 2 ^ 28 + 2 ^ 27
  small a = let s : a.number ≤ 2 ^ 28 + 2 ^ 26 = a.high in omega arith

  origin_on : {c : ℤ} {far : ℕ} (a : Numbered c far) → a.number ≤ 2 ^ 28 + 2 ^ 27 → At (of_int binary64 c) (4096 * a.number) base
  origin_on a s = subst (λ (z : ℤ). At (of_int binary64 z) (4096 * a.number) base) (sym a.is) (origin-at a.number (omega arith))

  cube-in : InCells (cube_at p) x.number y.number z.number
  cube-in = record {
    x = cube-side (of_int binary64 p.x) x.number 4096 (small x) (omega arith) (origin_on x (small x));
    y = cube-side (of_int binary64 p.y) y.number 6144 y.high (omega arith) (origin_on y y.high);
    z = cube-side (of_int binary64 p.z) z.number 4096 (small z) (omega arith) (origin_on z (small z));
  }

  shape-in : (b : Aabb) → T (is_proper b && is_in_cell b) → InCells (offset_by b (origin_of p)) x.number y.number z.number
  shape-in b t =
      let s = shape-of b t in
      let g = s.proper in
      let l = s.low in
      let h = s.high in
      record {
        x = shape-side b.min.x b.max.x (of_int binary64 p.x) one64 x.number 4096 (small x) (omega arith) one_at (origin_on x (small x)) g.low.x g.high.x g.solid.x l.x h.x;
        y = shape-side b.min.y b.max.y (of_int binary64 p.y) cell_and_half y.number 6144 y.high (omega arith) half_at (origin_on y y.high) g.low.y g.high.y g.solid.y l.y h.y;
        z = shape-side b.min.z b.max.z (of_int binary64 p.z) one64 z.number 4096 (small z) (omega arith) one_at (origin_on z (small z)) g.low.z g.high.z g.solid.z l.z h.z;
      }

-- far above or below, by the same tests
far-in : (p : Pos) → 2 ^ 27 < nat_abs p.y → (b : Aabb) → T (is_proper b && is_in_cell b) → Far (offset_by b (origin_of p))
far-in p h b t =
    let s = shape-of b t in
    let r = read b.min.y s.proper.low.y in
    let q = read b.max.y s.proper.high.y in
    let u : 0 + r.minus ≤ r.plus + 0 = leb→le (0 + r.minus) (r.plus + 0) (subst T (le-at zero64 b.min.y 0 0 r.plus r.minus (zero-at 0) r.at) s.low.y) in
    let v : q.plus + 0 ≤ 6144 + q.minus = leb→le (q.plus + 0) (6144 + q.minus) (subst T (le-at b.max.y cell_and_half q.plus q.minus 6144 0 q.at half_at) s.high.y) in
    let t : r.plus + q.minus < q.plus + r.minus = ltb→lt (r.plus + q.minus) (q.plus + r.minus) (subst T (lt_at b.min.y b.max.y r.plus r.minus q.plus q.minus r.at q.at) s.proper.solid.y) in
    far-shape p b h (slight 4096 (lit< tt) b.min.y r.plus r.minus r.at (omega arith) (omega arith)) (slight 4096 (lit< tt) b.max.y q.plus q.minus q.at (omega arith) (omega arith))

-- ---- a cell that is settled lies in a column of the window
no : {A : Type 0} → ◌≡◌ {A = ℕ} 0 1 → A
no e = absurd (omega arith)

cell-inside : (words : List ℕ) (w : Window) (records : List ℕ) (p : Pos) (shape : CellShape) → cell_shape (look_at words w) records p ≡ found shape → column_inside w p ≡ true
unfolding cell_shape
cell-inside words w records p shape e = go (look_at words w p) refl e
  where
    go : (m : Ask Block) → look_at words w p ≡ m → (m >>= shape_of (look_at words w) records p) ≡ found shape → column_inside w p ≡ true
    go (refused k) l e = no cc
    go (found b) l e = found_inside words w p b l

-- a test of every column at one height, at one of them
at-column : (w : Window) (test : Pos → Bool) (p : Pos) (y : ℤ) → InColumn w p → T (every_column w test y) → T (test (at_height p y))
unfolding every_column
at-column w test p y i t =
    let x = i.x.index in
    let z = i.z.index in
    let lx = every-at w.sizes.x (λ x. every w.sizes.z (λ z. test (cell_from w x y z))) (T_true (every_column w test y) t) x i.x.below in
    let lz = every-at w.sizes.z (λ z. test (cell_from w x y z)) lx z i.z.below in
    let ex = i.x.from in
    let ez = i.z.from in
    let e : cell_from w x y z ≡ at_height p y = (λ j. record { x = ex j; y = y; z = ez j }) in
    subst (λ (q : Pos). T (test q)) e (subst T (sym lz) tt)

-- a test of every height: in the window's, above the world, just below it and deeper
module _ (w : Window) (test : Pos → Bool) (p : Pos) (i : InColumn w p) (t : T (every_height w test)) where
  abbrev layers : Bool
  layers = every w.sizes.y (λ y. every_column w test (w.origin.y +ℤ pos y))

  abbrev high_test : Bool
  high_test = every_column w test (above_world w)

  abbrev next_test : Bool
  next_test = every_column w test (below_world w)

  abbrev deep_test : Bool
  deep_test = every_column w test (deep_below w)

  in-layer : OnAxis w.origin.y w.sizes.y p.y → T (test p)
  unfolding every_height
  in-layer y =
      let l = every-at w.sizes.y (λ y. every_column w test (w.origin.y +ℤ pos y)) (T_true layers (and_l layers (high_test && (next_test && deep_test)) t)) y.index y.below in
      subst (λ (y : ℤ). T (test (at_height p y))) y.from (at-column w test p (w.origin.y +ℤ pos y.index) i (subst T (sym l) tt))

  in-sky : T (test (at_height p (above_world w)))
  unfolding every_height
  in-sky = at-column w test p (above_world w) i (and_l high_test (next_test && deep_test) (and_r layers (high_test && (next_test && deep_test)) t))

  rest_below : T (next_test && deep_test)
  unfolding every_height
  rest_below = and_r high_test (next_test && deep_test) (and_r layers (high_test && (next_test && deep_test)) t)

  in-next : T (test (at_height p (below_world w)))
  in-next = at-column w test p (below_world w) i (and_l next_test deep_test rest_below)

  in-deep : T (test (at_height p (deep_below w)))
  in-deep = at-column w test p (deep_below w) i (and_r next_test deep_test rest_below)

module _ (records : List ℕ) (shapes : List Float) (words : List ℕ) (w : Window) (W : window_fits words w ≡ true) (good : Aabb → Bool) (G : T (shapes_pass good records shapes words w)) where
  abbrev look : Pos → Ask Block
  look = look_at words w

  abbrev test : Pos → Bool
  test p = settled_passes good shapes (cell_shape look records p)

  -- the shapes of every cell pass
  module _ (p : Pos) (i : InColumn w p) where
    -- one that comes to what the cell of the column at this height comes to
    alike : (y : ℤ) → Out w p.y → Out w y → T (test (at_height p y)) → T (test p)
    alike y a b t = subst (λ (m : Ask CellShape). T (settled_passes good shapes m)) (sym (void-shape words w records p y a b)) t

    below-world : lt_z p.y w.lowest ≡ true → T (test p)
    below-world e = go (lt_z (p.y +ℤ pos 1) w.lowest) refl
      where
        go : (t : Bool) → lt_z (p.y +ℤ pos 1) w.lowest ≡ t → T (test p)
        go true f = alike (deep_below w) (deep w p.y f) (deep w (deep_below w) (below-lowest w)) (in-deep w test p i G)
        go false f = subst (λ (y : ℤ). T (test (at_height p y))) (just-below w p.y e f) (in-next w test p i G)

    in-world : is_void w p ≡ false → T (test p)
    unfolding cell_shape shape_of
    in-world v = go (look p) refl
      where
        go : (m : Ask Block) → look p ≡ m → T (settled_passes good shapes (m >>= shape_of look records p))
        go (refused k) e = tt
        go (found none) e = tt
        go (found (some s)) e =
            let y = on-axis w.origin.y w.sizes.y p.y (state-inside words w p s v e) (axes words w W).y.origin (axes words w W).y.size in
            subst (λ (m : Ask Block). T (settled_passes good shapes (m >>= shape_of look records p))) e (in-layer w test p i G y)

    tested : T (test p)
    unfolding is_void
    tested = go (lt_z p.y w.lowest) (lt_z w.highest p.y) refl refl
      where
        go : (l h : Bool) → lt_z p.y w.lowest ≡ l → lt_z w.highest p.y ≡ h → T (test p)
        go true h e f = below-world e
        go false true e f = alike (above_world w) (sky w p.y f) (sky w (above_world w) (above-highest w)) (in-sky w test p i G)
        go false false e f = in-world (λ j. e j || f j)

  pub settled-place : (p : Pos) (b : Aabb) → Memᴰ b (settled_boxes look records shapes p) → InColumn w p
  unfolding settled_boxes
  settled-place p b m = go (cell_shape look records p) refl m
    where
      go : (a : Ask CellShape) → cell_shape look records p ≡ a → Memᴰ b (settled shapes p a) → InColumn w p
      go (refused _) e m = elim m [ ]
      go (found shape) e m = in-column words w p W (cell-inside words w records p shape e)

  -- what holds of a cube, and of every box of the shapes that passes, holds of each box of a cell
  module _ (p : Pos) (b : Aabb) (Here : Aabb → Type 0) (cubes : Here (cube_at p))
      (parts : (first count k : ℕ) → T (good (to_aabb (box_at (boxes_at shapes first count) k))) → Here (offset_by (to_aabb (box_at (boxes_at shapes first count) k)) (origin_of p))) where
    shape_at : (shape : CellShape) → T (settled_passes good shapes (found shape)) → Memᴰ b (aabbs_of shapes p shape) → Here b
    unfolding shape_passes
    shape_at cube g m = go (Memᴰ.cases_cons m)
      where
        go : (b ≡ cube_at p) ⊎ Memᴰ b [] → Here b
        go (inr x3) = elim x3 [ ]
        go (inl e) = subst Here (sym e) cubes
    shape_at (boxes first count) g m =
        let part = boxes_at shapes first count in
        let l = in-listed b (λ k. offset_by (to_aabb (box_at part k)) (origin_of p)) (box_count part) 0 m in
        let n : l.at < box_count part = l.below in
        let t = every-at (box_count part) (λ k. good (to_aabb (box_at part k))) (T_true (shape_passes good part) g) (0 + l.at) (omega arith) in
        subst Here (sym l.is) (parts first count (0 + l.at) (subst T (sym t) tt))

    pub settled-box : Memᴰ b (settled_boxes look records shapes p) → Here b
    unfolding settled_boxes
    settled-box m = go (cell_shape look records p) refl m
      where
        go : (a : Ask CellShape) → cell_shape look records p ≡ a → Memᴰ b (settled shapes p a) → Here b
        go (refused _) e m = elim m [ ]
        go (found shape) e m =
            let i = in-column words w p W (cell-inside words w records p shape e) in
            shape_at shape (subst (λ (a : Ask CellShape). T (settled_passes good shapes a)) e (tested p i)) m

-- where a box of a cell lies
pub data Stands (p : Pos) (b : Aabb) (nx nz : ℕ) : Type 0 where
  near : (y : Numbered p.y (2 ^ 27)) → InCells b nx y.number nz → Stands p b nx nz
  far : Far b → Stands p b nx nz

pub record Settled (w : Window) (p : Pos) (b : Aabb) : Type 0 where
  pub place : InColumn w p
  pub stands : Stands p b place.x.at.number place.z.at.number

abbrev on_grid_shape : Aabb → Bool
on_grid_shape b = is_proper b && is_in_cell b

pub block : (records : List ℕ) (shapes : List Float) (words : List ℕ) (w : Window) → window_fits words w ≡ true → T (shapes_on_grid records shapes words w)
    → (p : Pos) (b : Aabb) → Memᴰ b (settled_boxes (look_at words w) records shapes p) → Settled w p b
block records shapes words w W G p b m =
    let i = settled-place records shapes words w W on_grid_shape G p b m in
    record { place = i; stands = by (leb (nat_abs p.y) (2 ^ 27)) (leb→le (nat_abs p.y) (2 ^ 27)) (nleb→lt (nat_abs p.y) (2 ^ 27)) i.x.at i.z.at }
  where
    by : (t : Bool) → (T t → nat_abs p.y ≤ 2 ^ 27) → (T (not t) → 2 ^ 27 < nat_abs p.y) → (x : Numbered p.x (2 ^ 26)) (z : Numbered p.z (2 ^ 26)) → Stands p b x.number z.number
    by true f f' x z =
        let y = number p.y (2 ^ 27) (f tt) (omega arith) in
        near y (settled-box records shapes words w W on_grid_shape G p b (λ (u : Aabb). InCells u x.number y.number z.number) (cube-in p x y z)
        (λ first count k t. shape-in p x y z (to_aabb (box_at (boxes_at shapes first count) k)) t) m)
    by false f f' x z =
        far (settled-box records shapes words w W on_grid_shape G p b Far (far-cube p (f' tt)) (λ first count k t. far-in p (f' tt) (to_aabb (box_at (boxes_at shapes first count) k)) t) m)
