-- The boxes of a settled cell: each end lies in its cell, or up to two blocks above its lower end, exactly, since a sum is rounded to no value beyond one that
-- the exact sum does not pass; or the cell is far above or below all that a move reaches (`block`). Assumes nothing.
use mathlib.Core.Path.{◌≡◌, refl, sym, subst}
use mathlib.Core.Bool.{Bool, true, false, not, ◌&&◌, true≢false, false≢true}
use mathlib.Core.List.{List, [], ◌∷◌, Memᴰ}
use Prim.Native.Nat.{ℕ, zero, suc, ◌+◌, ◌*◌, ◌^◌, ◌≤◌, ◌<◌}
use native.Mathlib.Nat.{add-mul, mul-le-mul_right, mul_right_comm, le_trans, le_of_eq, le-div_iff_mul-le}
use native.Mathlib.Omega.{arith}
use lib.IntN.{ℤ, nat_abs}
use lib.Dec.{T, leb, leb→le, nleb→lt, lit<, lit≤}
use lib.ListN.{get_or, take, drop}
use lib.Seq.{get_or-drop}
use lib.Ieee.{Float, nan, inf, fin, binary32, binary64, up, down, of_bits, of_int, add, lt, le, eq, fits}
use lib.Ieee.Fits.{and_l, and_r, down_pos, fits_widens}
use Rattle.base.specs.Choose.{choose}
use Rattle.base.proofs.Scaled.{scaled_size, over, under, Finite, Real, Within, own, Sum, sum_is, zero-real, zero-over, zero-under}
use Rattle.floats.specs.Numbers.{zero64, one64}
use Rattle.boxes.specs.declared.Aabb.{Aabb}
use Rattle.boxes.specs.Boxes.{offset_by}
use Rattle.cover.specs.Cover.{box_count}
use Rattle.tables.specs.Tables.{boxes_at, box_at}
use Rattle.window.specs.declared.Pos.{Pos}
use Rattle.window.specs.declared.Window.{Window}
use Rattle.window.specs.Window.{window_fits}
use Rattle.window.specs.Look.{look_at}
use Rattle.collection.specs.Collect.{origin_of, cube_at, to_aabb}
use Rattle.collection.specs.Settled.{settled_boxes}
use Rattle.grid.specs.Grid.{is_solid}
use Rattle.grid.specs.Demand.{cell_and_half, is_in_cell, shapes_pass}
use Rattle.grid.proofs.Readings.{three}
use Rattle.grid.proofs.Cells.{numbered, Numbered, number}
use Rattle.grid.proofs.Far as F
use Rattle.grid.proofs.Blocks.{InColumn, settled-place, settled-box}
use Rattle.off_grid.proofs.Axis.{le→, lt→}
use Rattle.off_grid.proofs.Starts.{one}
use Rattle.off_grid_window.specs.Demand.{TypedShapes, is_shape}
use Rattle.off_grid_window.proofs.Cells.{one-pos, Origin, origin-of}

-- ---- one end of a box of the cell n, at most `extra` above the cell's lower end
pub record End (x : Float) (n extra : ℕ) : Type 0 where
  pub real : Real x
  pub low : n * one + under x ≤ over x + 268435456 * one
  pub high : over x + 268435456 * one ≤ (n + extra) * one + under x

-- the number of a cell that is not far
record Number (n : ℕ) : Type 0 where
  small : n ≤ 2 ^ 28 + 2 ^ 27
  deep : 2 ^ 28 ≤ n + 2 ^ 27

origin-in : (o : Float) (n : ℕ) → n ≤ 2 ^ 28 + 2 ^ 27 + 2 → 2 ^ 28 ≤ n + 2 ^ 27 → Origin o n → Within o (134217730 * one)
origin-in o n S D O =
    let a : n * one ≤ (2 ^ 28 + 2 ^ 27 + 2) * one = mul-le-mul_right one S in
    let b : 2 ^ 28 * one ≤ (n + 2 ^ 27) * one = mul-le-mul_right one D in
    let c = O.is in
    record { real = O.real; high = omega arith; low = omega arith }

room : 2 * one + 134217730 * one < 2 ^ 54 * 2 ^ 1048
unfolding one
room = lit< tt

room-turned : 134217730 * one + 2 * one < 2 ^ 54 * 2 ^ 1048
unfolding one
room-turned = lit< tt

room-one : 134217730 * one < 2 ^ 54 * 2 ^ 1048
unfolding one
room-one = lit< tt

-- z is the sum of x and y, of which the exact one is not below the cell's lower end o, and not above u
ended : (x y z o u : Float) (n extra : ℕ) → extra ≤ 2 → Number n → Origin o n → Origin u (n + extra) → Sum x y z (2 ^ 1048)
    → over o + (under x + under y) ≤ over x + over y + under o → over x + over y + under u ≤ over u + (under x + under y) → End z n extra
ended x y z o u n extra E N O U S low high =
    let s = N.small in
    let d = N.deep in
    let a = S.least o (134217730 * one) (origin-in o n (omega arith) (omega arith) O) room-one low in
    let b = S.most u (134217730 * one) (origin-in u (n + extra) (omega arith) (omega arith) U) room-one high in
    let i = O.is in
    let j = U.is in
    record { real = S.real; low = omega arith; high = omega arith }

-- ---- a number of a shape: from 0 to a limit
record Inner (x : Float) (extra : ℕ) : Type 0 where
  real : Real x
  least : under x ≤ over x
  most : over x ≤ under x + extra * one

shape-end : (x o u : Float) (n extra : ℕ) → extra ≤ 2 → Number n → Origin o n → Origin u (n + extra) → Inner x extra → End (add binary64 x o) n extra
shape-end x o u n extra E N O U s =
    let e : extra * one ≤ 2 * one = mul-le-mul_right one E in
    let f : (n + extra) * one ≡ n * one + extra * one = add-mul n extra one in
    let d = N.deep in
    let t = N.small in
    let a = s.least in
    let b = s.most in
    let i = O.is in
    let j = U.is in
    let X : Within x (2 * one) = record { real = s.real; high = omega arith; low = omega arith } in
    ended x o (add binary64 x o) o u n extra E N O U (sum_is 1048 (lit≤ tt) x o (2 * one) (134217730 * one) X (origin-in o n (omega arith) (omega arith) O) room) (omega arith) (omega arith)

one-real : Real one64
unfolding of_bits fits
one-real = record { fit = tt; finite = tt }

one-over : over one64 ≡ one
unfolding of_bits over scaled_size one
one-over = refl

one-under : under one64 ≡ 0
unfolding of_bits under
one-under = refl

half-real : Real cell_and_half
unfolding of_bits fits
half-real = record { fit = tt; finite = tt }

half_over : 2 * over cell_and_half ≡ 3 * one
unfolding of_bits over scaled_size one
half_over = refl

half-under : under cell_and_half ≡ 0
unfolding of_bits under
half-under = refl

-- a cube's ends: o, and o + 1
cube-low : (o : Float) (n extra : ℕ) → Origin o n → End o n extra
cube-low o n extra O =
    let f : (n + extra) * one ≡ n * one + extra * one = add-mul n extra one in
    let i = O.is in
    record { real = O.real; low = omega arith; high = omega arith }

cube-high : (o u : Float) (n extra : ℕ) → 1 ≤ extra → extra ≤ 2 → Number n → Origin o n → Origin u (n + extra) → End (add binary64 o one64) n extra
cube-high o u n extra E E' N O U =
    let e : 1 * one ≤ extra * one = mul-le-mul_right one E in
    let f : (n + extra) * one ≡ n * one + extra * one = add-mul n extra one in
    let d = N.deep in
    let t = N.small in
    let v = one-over in
    let v' = one-under in
    let i = O.is in
    let j = U.is in
    let Z : Within one64 (2 * one) = record { real = one-real; high = omega arith; low = omega arith } in
    ended o one64 (add binary64 o one64) o u n extra E' N O U (sum_is 1048 (lit≤ tt) o one64 (134217730 * one) (2 * one) (origin-in o n (omega arith) (omega arith) O) Z room-turned) (omega arith) (omega arith)

-- ---- numbers from 0 to a finite limit are finite
finite-hi : (lo hi limit : Float) → Finite limit → T (lt lo hi) → T (le hi limit) → Finite hi
unfolding lt le eq
finite-hi lo hi nan l t u = absurd l
finite-hi lo hi (inf s) l t u = absurd l
finite-hi lo nan (fin s m e) l t u = u
finite-hi lo (inf false) (fin s m e) l t u = u
finite-hi nan (inf true) (fin s m e) l t u = t
finite-hi (inf true) (inf true) (fin s m e) l t u = t
finite-hi (inf false) (inf true) (fin s m e) l t u = t
finite-hi (fin v n d) (inf true) (fin s m e) l t u = t
finite-hi lo (fin v n d) (fin s m e) l t u = tt

finite-lo : (lo hi : Float) → Finite hi → T (le zero64 lo) → T (lt lo hi) → Finite lo
unfolding lt le eq of_bits
finite-lo lo nan h t u = absurd h
finite-lo lo (inf s) h t u = absurd h
finite-lo nan (fin s m e) h t u = u
finite-lo (inf true) (fin s m e) h t u = t
finite-lo (inf false) (fin s m e) h t u = u
finite-lo (fin v n d) (fin s m e) h t u = tt

-- ---- a side of a shape
record Side (lo hi : Float) (extra : ℕ) : Type 0 where
  low : Inner lo extra
  high : Inner hi extra

side : (lo hi limit : Float) (extra : ℕ) → T (fits binary32 lo) → T (fits binary32 hi) → T (le zero64 lo) → T (lt lo hi) → T (le hi limit) → Real limit → under limit ≡ 0 → over limit ≤ extra * one → Side lo hi extra
side lo hi limit extra f g l t h L z m =
    let fh : Finite hi = finite-hi lo hi limit L.finite t h in
    let R : Real hi = record { fit = fits_widens hi g; finite = fh } in
    let Q : Real lo = record { fit = fits_widens lo f; finite = finite-lo lo hi fh l t } in
    let a = le→ zero-real Q l in
    let b = lt→ Q R t in
    let c = le→ R L h in
    let d = zero-over in
    let e = zero-under in
    record { low = record { real = Q; least = omega arith; most = omega arith }; high = record { real = R; least = omega arith; most = omega arith } }

record Sides (b : Aabb) : Type 0 where
  x : Side b.min.x b.max.x 1
  y : Side b.min.y b.max.y 2
  z : Side b.min.z b.max.z 1

-- every number of a part of the shapes is one of the shapes
no_number : T (fits binary32 zero64)
unfolding of_bits fits
no_number = tt

taken-typed : (n : ℕ) (l : List Float) → ((i : ℕ) → T (fits binary32 (get_or l i zero64))) → (i : ℕ) → T (fits binary32 (get_or (take n l) i zero64))
taken-typed zero l h i = no_number
taken-typed (suc n) [] h i = no_number
taken-typed (suc n) (x ∷ xs) h zero = h 0
taken-typed (suc n) (x ∷ xs) h (suc i) = taken-typed n xs (λ k. h (suc k)) i

part-typed : (shapes : List Float) (first count i : ℕ) → TypedShapes shapes → T (fits binary32 (get_or (boxes_at shapes first count) i zero64))
unfolding boxes_at choose
part-typed shapes first count i S = go (leb (first + count) (box_count shapes))
  where
    go : (t : Bool) → T (fits binary32 (get_or (choose t (take (count * 6) (drop (first * 6) shapes)) []) i zero64))
    go true = taken-typed (count * 6) (drop (first * 6) shapes) (λ k. subst (λ (x : Float). T (fits binary32 x)) (sym (get_or-drop (first * 6) shapes k zero64)) (S.numbers (first * 6 + k))) i
    go false = no_number

sides : (shapes : List Float) (first count k : ℕ) → TypedShapes shapes → T (is_shape (to_aabb (box_at (boxes_at shapes first count) k))) → Sides (to_aabb (box_at (boxes_at shapes first count) k))
sides shapes first count k S t =
    let b = to_aabb (box_at (boxes_at shapes first count) k) in
    let f : (i : ℕ) → T (fits binary32 (get_or (boxes_at shapes first count) i zero64)) = λ i. part-typed shapes first count i S in
    let c = and_r (is_solid b) (is_in_cell b) t in
    let low = le zero64 b.min.x && (le zero64 b.min.y && le zero64 b.min.z) in
    let high = le b.max.x one64 && (le b.max.y cell_and_half && le b.max.z one64) in
    let s = three (lt b.min.x b.max.x) (lt b.min.y b.max.y) (lt b.min.z b.max.z) (and_l (is_solid b) (is_in_cell b) t) in
    let l = three (le zero64 b.min.x) (le zero64 b.min.y) (le zero64 b.min.z) (and_l low high c) in
    let h = three (le b.max.x one64) (le b.max.y cell_and_half) (le b.max.z one64) (and_r low high c) in
    let v = one-over in
    let v' = half_over in
    record {
      x = side b.min.x b.max.x one64 1 (f (k * 6)) (f (k * 6 + 3)) l.x s.x h.x one-real one-under (omega arith);
      y = side b.min.y b.max.y cell_and_half 2 (f (k * 6 + 1)) (f (k * 6 + 4)) l.y s.y h.y half-real half-under (omega arith);
      z = side b.min.z b.max.z one64 1 (f (k * 6 + 2)) (f (k * 6 + 5)) l.z s.z h.z one-real one-under (omega arith);
    }

-- ---- a box of a cell, whose numbers are nx, ny and nz
pub record InCells (b : Aabb) (nx ny nz : ℕ) : Type 0 where
  pub x0 : End b.min.x nx 1
  pub y0 : End b.min.y ny 2
  pub z0 : End b.min.z nz 1
  pub x1 : End b.max.x nx 1
  pub y1 : End b.max.y ny 2
  pub z1 : End b.max.z nz 1

module _ (p : Pos) (x : Numbered p.x (2 ^ 26)) (y : Numbered p.y (2 ^ 27)) (z : Numbered p.z (2 ^ 26)) where
  close : {c : ℤ} (a : Numbered c (2 ^ 26)) → Number a.number
  close a =
      let s : a.number ≤ 2 ^ 28 + 2 ^ 26 = a.high in
      let d : 2 ^ 28 ≤ a.number + 2 ^ 26 = a.low in
      record { small = omega arith; deep = omega arith }

  high-up : Number y.number
  high-up = record { small = y.high; deep = y.low }

  origin_on : {c : ℤ} {far : ℕ} (a : Numbered c far) → Number a.number → Origin (of_int binary64 c) a.number
  origin_on a N = let s = N.small in subst (λ (z : ℤ). Origin (of_int binary64 z) a.number) (sym a.is) (origin-of a.number (omega arith))

  beyond-on : (n extra : ℕ) → extra ≤ 2 → Number n → Origin (of_int binary64 (numbered (n + extra))) (n + extra)
  beyond-on n extra E N = let s = N.small in origin-of (n + extra) (omega arith)

  module _ {c : ℤ} {far : ℕ} (a : Numbered c far) (N : Number a.number) (extra : ℕ) (E : extra ≤ 2) where
    shape_on : (v : Float) → Inner v extra → End (add binary64 v (of_int binary64 c)) a.number extra
    shape_on v s = shape-end v (of_int binary64 c) (of_int binary64 (numbered (a.number + extra))) a.number extra E N (origin_on a N) (beyond-on a.number extra E N) s

    cube-on : 1 ≤ extra → End (add binary64 (of_int binary64 c) one64) a.number extra
    cube-on L = cube-high (of_int binary64 c) (of_int binary64 (numbered (a.number + extra))) a.number extra L E N (origin_on a N) (beyond-on a.number extra E N)

  cube-in : InCells (cube_at p) x.number y.number z.number
  cube-in = record {
    x0 = cube-low (of_int binary64 p.x) x.number 1 (origin_on x (close x));
    y0 = cube-low (of_int binary64 p.y) y.number 2 (origin_on y high-up);
    z0 = cube-low (of_int binary64 p.z) z.number 1 (origin_on z (close z));
    x1 = cube-on x (close x) 1 (omega arith) (omega arith);
    y1 = cube-on y high-up 2 (omega arith) (omega arith);
    z1 = cube-on z (close z) 1 (omega arith) (omega arith);
  }

  shape-in : (b : Aabb) → Sides b → InCells (offset_by b (origin_of p)) x.number y.number z.number
  shape-in b s = record {
    x0 = shape_on x (close x) 1 (omega arith) b.min.x s.x.low;
    y0 = shape_on y high-up 2 (omega arith) b.min.y s.y.low;
    z0 = shape_on z (close z) 1 (omega arith) b.min.z s.z.low;
    x1 = shape_on x (close x) 1 (omega arith) b.max.x s.x.high;
    y1 = shape_on y high-up 2 (omega arith) b.max.y s.y.high;
    z1 = shape_on z (close z) 1 (omega arith) b.max.z s.z.high;
  }

-- ---- far above or below: 2 ^ 26 or more on y
pub data Off (b : Aabb) : Type 0 where
  above : 67108864 * one + under b.min.y ≤ over b.min.y → Off b
  beneath : 67108864 * one + over b.max.y ≤ under b.max.y → Off b

far-size : (s : Bool) (m : ℕ) (e : ℤ) → 2 ^ 26 * down e ≤ m * up e → 67108864 * one ≤ scaled_size (fin s m e)
unfolding scaled_size one
far-size s m e h =
    (le-div_iff_mul-le {k = down e} {x = 67108864 * 2 ^ 1074} {y = m * up e * 2 ^ 1074} (down_pos e)).1
    (le_trans (le_of_eq (mul_right_comm 67108864 (2 ^ 1074) (down e))) (mul-le-mul_right (2 ^ 1074) h))

far-infinite : (s : Bool) → 67108864 * one ≤ scaled_size (inf s)
unfolding scaled_size one
far-infinite s = lit≤ tt

far-above : (x : Float) → F.Beyond (2 ^ 26) false x → 67108864 * one + under x ≤ over x
unfolding over under one
far-above nan h = absurd h
far-above (inf false) h = far-infinite false
far-above (inf true) h = absurd (true≢false h)
far-above (fin false m e) h = far-size false m e h.1
far-above (fin true m e) h = absurd (true≢false h.0)

far-beneath : (x : Float) → F.Beyond (2 ^ 26) true x → 67108864 * one + over x ≤ under x
unfolding over under one
far-beneath nan h = absurd h
far-beneath (inf false) h = absurd (false≢true h)
far-beneath (inf true) h = far-infinite true
far-beneath (fin false m e) h = absurd (false≢true h.0)
far-beneath (fin true m e) h = far-size true m e h.1

pub off : (b : Aabb) → F.Far b → Off b
off b (F.over h) = above (far-above b.min.y h)
off b (F.under h) = beneath (far-beneath b.max.y h)

slight-end : (x : Float) → Inner x 2 → F.Slight x
unfolding one
slight-end x s = let a = s.least in let b = s.most in F.slight (2 ^ 1074) one-pos x (over x) (under x) (own s.real) a b

-- ---- where a box of a cell lies
pub data Stands (p : Pos) (b : Aabb) (nx nz : ℕ) : Type 0 where
  near : (y : Numbered p.y (2 ^ 27)) → InCells b nx y.number nz → Stands p b nx nz
  far : F.Far b → Stands p b nx nz

pub record Settled (w : Window) (p : Pos) (b : Aabb) : Type 0 where
  pub place : InColumn w p
  pub stands : Stands p b place.x.at.number place.z.at.number

pub block : (records : List ℕ) (shapes : List Float) (words : List ℕ) (w : Window) → TypedShapes shapes → window_fits words w ≡ true → T (shapes_pass is_shape records shapes words w)
    → (p : Pos) (b : Aabb) → Memᴰ b (settled_boxes (look_at words w) records shapes p) → Settled w p b
block records shapes words w S W G p b m =
    let i = settled-place records shapes words w W is_shape G p b m in
    record { place = i; stands = by (leb (nat_abs p.y) (2 ^ 27)) (leb→le (nat_abs p.y) (2 ^ 27)) (nleb→lt (nat_abs p.y) (2 ^ 27)) i.x.at i.z.at }
  where
    by : (t : Bool) → (T t → nat_abs p.y ≤ 2 ^ 27) → (T (not t) → 2 ^ 27 < nat_abs p.y) → (x : Numbered p.x (2 ^ 26)) (z : Numbered p.z (2 ^ 26)) → Stands p b x.number z.number
    by true f f' x z =
        let y = number p.y (2 ^ 27) (f tt) (omega arith) in
        near y (settled-box records shapes words w W is_shape G p b (λ (u : Aabb). InCells u x.number y.number z.number) (cube-in p x y z)
        (λ first count k t. shape-in p x y z (to_aabb (box_at (boxes_at shapes first count) k)) (sides shapes first count k S t)) m)
    by false f f' x z =
        far (settled-box records shapes words w W is_shape G p b F.Far (F.far-cube p (f' tt))
        (λ first count k t.
        let s = sides shapes first count k S t in
        F.far-shape p (to_aabb (box_at (boxes_at shapes first count) k)) (f' tt) (slight-end _ s.y.low) (slight-end _ s.y.high)) m)
