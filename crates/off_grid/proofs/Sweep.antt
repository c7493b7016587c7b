-- The swept area, and that a move ends in it up to two roundings: so it reaches into no box that the area does not overlap by more. Assumes nothing.
use mathlib.Core.Path.{◌≡◌}
use mathlib.Core.Bool.{Bool, true, false, not}
use mathlib.Core.List.{List}
use Prim.Native.Nat.{ℕ, ◌+◌, ◌*◌, ◌^◌, ◌≤◌, ◌<◌}
use native.Mathlib.Nat.{lt_of_le_of_lt}
use native.Mathlib.Omega.{arith}
use lib.Dec.{T}
use lib.Ieee.{Float, binary64, add, neg, lt, le}
use Rattle.base.specs.Choose.{choose}
use Rattle.floats.specs.Numbers.{zero64}
use Rattle.boxes.specs.declared.Vec3.{Vec3}
use Rattle.boxes.specs.declared.Aabb.{Aabb}
use Rattle.sweeps.specs.declared.Swept.{Swept}
use Rattle.boxes.specs.Boxes.{vec, below0, above0, expand_towards}
use Rattle.sweeps.specs.Move.{clip_sequence, stepped_up, flat_square, tries_step, move_over}
use Rattle.base.proofs.Scaled.{over, under, Within, Sum, zero-real, zero-over, zero-under, zero_in, neg-over, neg-under, neg-within}
use Rattle.off_grid.proofs.Axis.{unit, sum_near, Way, fore, back, le→, nle→, zeros, All, Short, before, beyond}
use Rattle.off_grid.proofs.Passes.{Gone, BoxIn, VecIn, Clear, on_x, on_y, on_z, sum-in}
use Rattle.off_grid.proofs.Sequence.{Done, passed-y, off-y, plain, upward, not-down, not-up}

-- ---- d where it is below 0 or above it
record Under (d b : Float) (t : ℕ) : Type 0 where
  inside : Within b t
  sign : over b ≤ under b
  most : over b + under d ≤ over d + under b

below : (d : Float) (t : ℕ) → Within d t → Under d (below0 d) t
unfolding choose
below d t D = go (le d zero64) (le→ D.real zero-real) (nle→ D.real zero-real)
  where
    go : (b : Bool) → (T b → over d + under zero64 ≤ over zero64 + under d) → (T (not b) → over zero64 + under d < over d + under zero64) → Under d (choose b d zero64) t
    go true f g = let h = f tt in let a = zero-over in let b = zero-under in record { inside = D; sign = omega arith; most = omega arith }
    go false f g = let h = g tt in let a = zero-over in let b = zero-under in record { inside = zero_in t; sign = omega arith; most = omega arith }

record Over (d b : Float) (t : ℕ) : Type 0 where
  inside : Within b t
  sign : under b ≤ over b
  least : over d + under b ≤ over b + under d

above : (d : Float) (t : ℕ) → Within d t → Over d (above0 d) t
unfolding choose
above d t D = go (le zero64 d) (le→ zero-real D.real) (nle→ zero-real D.real)
  where
    go : (b : Bool) → (T b → over zero64 + under d ≤ over d + under zero64) → (T (not b) → over d + under zero64 < over zero64 + under d) → Over d (choose b d zero64) t
    go true f g = let h = f tt in let a = zero-over in let b = zero-under in record { inside = D; sign = omega arith; least = omega arith }
    go false f g = let h = g tt in let a = zero-over in let b = zero-under in record { inside = zero_in t; sign = omega arith; least = omega arith }

-- ---- the area on one axis, of a mover from a0 to a1: it holds the mover, and the mover after d and after e, up to one unit
pub record Side (z : ℕ) (a0 a1 d e s0 s1 : Float) : Type 0 where
  pub in0 : Within s0 z
  pub in1 : Within s1 z
  pub low : over s0 + under a0 ≤ over a0 + under s0
  pub low-d : over s0 + (under a0 + under d) ≤ over a0 + over d + under s0 + unit
  pub high : over a1 + under s1 ≤ over s1 + under a1
  pub high-d : over a1 + over d + under s1 ≤ over s1 + (under a1 + under d) + unit
  pub high-e : over a1 + over e + under s1 ≤ over s1 + (under a1 + under e) + unit

side : (a0 a1 d e : Float) (q t : ℕ) → Within a0 q → Within a1 q → Within d t → Within e t → q + t < 2 ^ 54 * unit → q + t + unit + t < 2 ^ 54 * unit
    → Side (q + t + unit + t + unit) a0 a1 d e (add binary64 (add binary64 a0 (below0 d)) (below0 e)) (add binary64 (add binary64 a1 (above0 d)) (above0 e))
side a0 a1 d e q t A0 A1 D E S S' =
    let bd = below d t D in
    let be = below e t E in
    let ad = above d t D in
    let ae = above e t E in
    let l1 = sum_near a0 (below0 d) q t A0 bd.inside S in
    let l2 = sum_near (add binary64 a0 (below0 d)) (below0 e) (q + t + unit) t (sum-in A0 bd.inside l1) be.inside S' in
    let h1 = sum_near a1 (above0 d) q t A1 ad.inside S in
    let h2 = sum_near (add binary64 a1 (above0 d)) (above0 e) (q + t + unit) t (sum-in A1 ad.inside h1) ae.inside S' in
    let b1 = bd.most in
    let c1 = ad.least in
    let c2 = ae.least in
    let x1 = l1.down bd.sign in
    let x2 = l2.down be.sign in
    let x3 = l1.high in
    let y1 = h1.up ad.sign in
    let y2 = h2.up ae.sign in
    let y3 = h1.low in
    let y4 = h2.low in
    record { in0 = sum-in (sum-in A0 bd.inside l1) be.inside l2; in1 = sum-in (sum-in A1 ad.inside h1) ae.inside h2; low = omega arith; low-d = omega arith; high = omega arith; high-d = omega arith; high-e = omega arith }

pub record Area (r : ℕ) (a : Aabb) (d : Vec3) (h : Float) (s : Aabb) : Type 0 where
  pub x : Side r a.min.x a.max.x d.x zero64 s.min.x s.max.x
  pub y : Side r a.min.y a.max.y d.y h s.min.y s.max.y
  pub z : Side r a.min.z a.max.z d.z zero64 s.min.z s.max.z

area : (a : Aabb) (d : Vec3) (h : Float) (q t : ℕ) → BoxIn q a → VecIn t d → Within h t → q + t < 2 ^ 54 * unit → q + t + unit + t < 2 ^ 54 * unit
    → Area (q + t + unit + t + unit) a d h (expand_towards (expand_towards a d) (vec zero64 h zero64))
area a d h q t A D H S S' = record {
  x = side a.min.x a.max.x d.x zero64 q t A.x0 A.x1 D.x (zero_in t) S S';
  y = side a.min.y a.max.y d.y h q t A.y0 A.y1 D.y H S S';
  z = side a.min.z a.max.z d.z zero64 q t A.z0 A.z1 D.z (zero_in t) S S';
}

-- ---- c is in the area, up to two units
pub record In (s0 s1 c0 c1 : Float) : Type 0 where
  pub low : over s0 + under c0 ≤ over c0 + under s0 + 2 * unit
  pub high : over c1 + under s1 ≤ over s1 + under c1 + 2 * unit

pub record Inside (s c : Aabb) : Type 0 where
  pub x : In s.min.x s.max.x c.min.x c.max.x
  pub y : In s.min.y s.max.y c.min.y c.max.y
  pub z : In s.min.z s.max.z c.min.z c.max.z

gone-in : {z : ℕ} {a0 a1 d e s0 s1 c0 c1 w : Float} → Side z a0 a1 d e s0 s1 → Way d w → Gone a0 w c0 → Gone a1 w c1 → In s0 s1 c0 c1
gone-in s (fore u v) f g =
    let a = s.low in
    let b = s.high-d in
    let c = f.low in
    let d = g.high in
    record { low = omega arith; high = omega arith }
gone-in s (back u v) f g =
    let a = s.low-d in
    let b = s.high in
    let c = f.low in
    let d = g.high in
    record { low = omega arith; high = omega arith }

-- +0 changes nothing
in_on : {s0 s1 c0 c1 e0 e1 : Float} → Sum c0 zero64 e0 unit → Sum c1 zero64 e1 unit → In s0 s1 c0 c1 → In s0 s1 e0 e1
in_on f g h =
    let a = zeros f in
    let b = zeros g in
    let c = h.low in
    let d = h.high in
    record { low = omega arith; high = omega arith }

-- up by w, and down again by v, of which the wish was n, w turned round
settle-in : {z : ℕ} {a0 a1 d h s0 s1 w c0 c1 n v e0 e1 : Float} → Side z a0 a1 d h s0 s1 → under h ≤ over h → Way h w → Gone a0 w c0 → Gone a1 w c1
    → over n ≡ under w → under n ≡ over w → Way n v → Sum c0 v e0 unit → Sum c1 v e1 unit → In s0 s1 e0 e1
settle-in {h = h} {w = w} {n = n} {v = v} s u W f g k l N F G =
    let up : under w ≤ over w = not-down u W in
    let dn : over v ≤ under v = not-up (omega arith) N in
    let a = s.low in
    let b = s.high-e in
    let c = f.low in
    let d = g.high in
    let i = F.low in
    let j = G.down dn in
    let m = most u W in
    let o = far (omega arith) N in
    record { low = omega arith; high = omega arith }
  where
    most : under h ≤ over h → Way h w → over w + under h ≤ over h + under w
    most u (fore x y) = y
    most u (back x y) = omega arith

    far : over n ≤ under n → Way n v → over n + under v ≤ over v + under n
    far u (fore x y) = omega arith
    far u (back x y) = y

module _ (bs : List Aabb) (a : Aabb) (r q t : ℕ) (B : All (BoxIn r) bs) (A : BoxIn q a) (C : All (Clear 0 0 0 0 a) bs)
    (S : r + (q + 4 * t + 4 * unit) < 2 ^ 55 * unit) (S' : q + 4 * t + 4 * unit < 2 ^ 54 * unit) (d : Vec3) (h : Float) (D : VecIn t d) (H : Within h t) (u : under h ≤ over h) where
  abbrev swept : Aabb
  swept = expand_towards (expand_towards a d) (vec zero64 h zero64)

  pub area-is : Area (q + t + unit + t + unit) a d h swept
  area-is = area a d h q t A D H (lt_of_le_of_lt (v0 q t unit) S') (lt_of_le_of_lt (v1 q t unit) S')
    where
      v0 : (q t u : ℕ) → q + t ≤ q + 4 * t + 4 * u
      v0 q t u = omega arith

      v1 : (q t u : ℕ) → q + t + u + t ≤ q + 4 * t + 4 * u
      v1 q t u = omega arith

  plain_in : Inside swept (clip_sequence bs a d).aabb
  plain_in =
      let o : Done bs a q t (3 * unit) d (clip_sequence bs a d) = plain bs a r q t B A C S S' d D in
      record {
        x = gone-in area-is.x o.way-x o.gone.x0 o.gone.x1;
        y = gone-in area-is.y o.way-y o.gone.y0 o.gone.y1;
        z = gone-in area-is.z o.way-z o.gone.z0 o.gone.z1;
      }

  stepped-in : Inside swept (stepped_up bs a d h).aabb
  unfolding stepped_up
  stepped-in =
      let s : Swept = clip_sequence bs a (vec d.x h d.z) in
      let o : Done bs a q t 0 (vec d.x h d.z) s = upward bs a r q t B A C S S' (vec d.x h d.z) (record { x = D.x; y = H; z = D.z }) u in
      let q' : ℕ = q + 3 * t + 3 * unit in
      let W : r + q' < 2 ^ 55 * unit = lt_of_le_of_lt (w3 r q t unit) S in
      let W' : q' + t < 2 ^ 54 * unit = lt_of_le_of_lt (v3 q t unit) S' in
      let N : Within (neg s.moved.y) t = neg-within o.within in
      let O = off-y bs s.aabb (neg s.moved.y) r q' t B o.box N W W' in
      let p = passed-y bs s.aabb (neg s.moved.y) r q' t B o.box N W W' in
      record {
        x = in_on O.x0 O.x1 (gone-in area-is.x o.way-x o.gone.x0 o.gone.x1);
        y = settle-in area-is.y u o.way-y o.gone.y0 o.gone.y1 (neg-over s.moved.y) (neg-under s.moved.y) p.way O.y0 O.y1;
        z = in_on O.z0 O.z1 (gone-in area-is.z o.way-z o.gone.z0 o.gone.z1);
      }
    where
      w3 : (r q t u : ℕ) → r + (q + 3 * t + 3 * u) ≤ r + (q + 4 * t + 4 * u)
      w3 r q t u = omega arith

      v3 : (q t u : ℕ) → q + 3 * t + 3 * u + t ≤ q + 4 * t + 4 * u
      v3 q t u = omega arith

  pub moved_in : (grounded : Bool) → Inside swept (move_over bs a d h grounded).aabb
  unfolding move_over choose
  moved_in grounded = go (tries_step d h grounded (clip_sequence bs a d).moved) (lt (flat_square (clip_sequence bs a d).moved) (flat_square (stepped_up bs a d h).moved))
    where
      go : (p q : Bool) → Inside swept (choose p (choose q (stepped_up bs a d h) (clip_sequence bs a d)) (clip_sequence bs a d)).aabb
      go true true = stepped-in
      go true false = plain_in
      go false q = plain_in

-- ---- a box that the area does not overlap
short-in : {lo hi s0 s1 c0 c1 : Float} → In s0 s1 c0 c1 → Short lo hi s0 s1 0 0 → Short lo hi c0 c1 (3 * unit) (3 * unit)
short-in h (before k) = let a = h.high in before (omega arith)
short-in h (beyond k) = let a = h.low in beyond (omega arith)

pub outside-clear : (s c b : Aabb) → Inside s c → Clear 0 0 0 0 s b → Clear (3 * unit) (3 * unit) (3 * unit) (3 * unit) c b
outside-clear s c b h (on_x k) = on_x (short-in h.x k)
outside-clear s c b h (on_y k) = on_y (short-in h.y k)
outside-clear s c b h (on_z k) = on_z (short-in h.z k)
