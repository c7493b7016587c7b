-- Three axes. Of each box, after each pass, the mover reaches into it only a little on some axis (`Clear`). Assumes nothing.
use mathlib.Core.Bool.{Bool, true, false, not, ◌&&◌, ◌||◌}
use Prim.Native.Nat.{ℕ, ◌+◌, ◌*◌, ◌^◌, ◌≤◌, ◌<◌}
use native.Mathlib.Omega.{arith}
use lib.Dec.{T}
use lib.Ieee.{Float, lt, le}
use Rattle.floats.specs.Numbers.{zero64}
use Rattle.boxes.specs.declared.Vec3.{Vec3}
use Rattle.boxes.specs.declared.Aabb.{Aabb}
use Rattle.boxes.specs.Boxes.{vec, offset_by, meet, overlap, apart}
use Rattle.base.proofs.Scaled.{over, under, Real, Within, widen, Sum}
use Rattle.off_grid.proofs.Axis.{unit, sum_near, Stops, le→, nlt→, Short, before, beyond, weaken, land, zeros, stay}

-- ---- a box whose ends are of size at most r
pub record BoxIn (r : ℕ) (b : Aabb) : Type 0 where
  pub x0 : Within b.min.x r
  pub y0 : Within b.min.y r
  pub z0 : Within b.min.z r
  pub x1 : Within b.max.x r
  pub y1 : Within b.max.y r
  pub z1 : Within b.max.z r

pub box-widen : {r q : ℕ} {b : Aabb} → r ≤ q → BoxIn r b → BoxIn q b
box-widen u h = record { x0 = widen u h.x0; y0 = widen u h.y0; z0 = widen u h.z0; x1 = widen u h.x1; y1 = widen u h.y1; z1 = widen u h.z1 }

-- ---- the box c is a moved by v
pub record Offset (a : Aabb) (v : Vec3) (c : Aabb) : Type 0 where
  pub x0 : Sum a.min.x v.x c.min.x unit
  pub y0 : Sum a.min.y v.y c.min.y unit
  pub z0 : Sum a.min.z v.z c.min.z unit
  pub x1 : Sum a.max.x v.x c.max.x unit
  pub y1 : Sum a.max.y v.y c.max.y unit
  pub z1 : Sum a.max.z v.z c.max.z unit

pub record VecIn (t : ℕ) (v : Vec3) : Type 0 where
  pub x : Within v.x t
  pub y : Within v.y t
  pub z : Within v.z t

pub offset : (a : Aabb) (v : Vec3) (q t : ℕ) → BoxIn q a → VecIn t v → q + t < 2 ^ 54 * unit → Offset a v (offset_by a v)
offset a v q t A B S = record {
  x0 = sum_near a.min.x v.x q t A.x0 B.x S;
  y0 = sum_near a.min.y v.y q t A.y0 B.y S;
  z0 = sum_near a.min.z v.z q t A.z0 B.z S;
  x1 = sum_near a.max.x v.x q t A.x1 B.x S;
  y1 = sum_near a.max.y v.y q t A.y1 B.y S;
  z1 = sum_near a.max.z v.z q t A.z1 B.z S;
}

pub sum-in : {x y z : Float} {q t : ℕ} → Within x q → Within y t → Sum x y z unit → Within z (q + t + unit)
sum-in X Y Z =
    let a = X.high in
    let b = X.low in
    let c = Y.high in
    let d = Y.low in
    let e = Z.high in
    let f = Z.low in
    record { real = Z.real; high = omega arith; low = omega arith }

pub offset-in : {a c : Aabb} {v : Vec3} {q t : ℕ} → BoxIn q a → VecIn t v → Offset a v c → BoxIn (q + t + unit) c
offset-in A B O = record {
  x0 = sum-in A.x0 B.x O.x0;
  y0 = sum-in A.y0 B.y O.y0;
  z0 = sum-in A.z0 B.z O.z0;
  x1 = sum-in A.x1 B.x O.x1;
  y1 = sum-in A.y1 B.y O.y1;
  z1 = sum-in A.z1 B.z O.z1;
}

-- ---- z is x + w, off by at most one unit; and so is every end of c, which has been moved along each axis once
pub record Gone (x w z : Float) : Type 0 where
  pub high : over z + (under x + under w) ≤ over x + over w + under z + unit
  pub low : over x + over w + under z ≤ over z + (under x + under w) + unit

pub record Trail (a : Aabb) (v : Vec3) (c : Aabb) : Type 0 where
  pub x0 : Gone a.min.x v.x c.min.x
  pub y0 : Gone a.min.y v.y c.min.y
  pub z0 : Gone a.min.z v.z c.min.z
  pub x1 : Gone a.max.x v.x c.max.x
  pub y1 : Gone a.max.y v.y c.max.y
  pub z1 : Gone a.max.z v.z c.max.z

trail-0 : {x w y z v : Float} → Sum x w y unit → Sum y zero64 z unit → Sum z zero64 v unit → Gone x w v
trail-0 f g h = let a = f.high in let b = f.low in let c = zeros g in let d = zeros h in record { high = omega arith; low = omega arith }

trail-1 : {x w y z v : Float} → Sum x zero64 y unit → Sum y w z unit → Sum z zero64 v unit → Gone x w v
trail-1 f g h = let a = g.high in let b = g.low in let c = zeros f in let d = zeros h in record { high = omega arith; low = omega arith }

trail-2 : {x w y z v : Float} → Sum x zero64 y unit → Sum y zero64 z unit → Sum z w v unit → Gone x w v
trail-2 f g h = let a = h.high in let b = h.low in let c = zeros f in let d = zeros g in record { high = omega arith; low = omega arith }

pub trail : {a b c d : Aabb} {x y z : Float} → Offset a (vec zero64 y zero64) b → Offset b (vec x zero64 zero64) c → Offset c (vec zero64 zero64 z) d → Trail a (vec x y z) d
trail f g h = record {
  x0 = trail-1 f.x0 g.x0 h.x0;
  y0 = trail-0 f.y0 g.y0 h.y0;
  z0 = trail-2 f.z0 g.z0 h.z0;
  x1 = trail-1 f.x1 g.x1 h.x1;
  y1 = trail-0 f.y1 g.y1 h.y1;
  z1 = trail-2 f.z1 g.z1 h.z1;
}

-- ---- what a mover a and a box b have to do with one another
abbrev pub ShortX : Aabb → Aabb → ℕ → ℕ → Type 0
ShortX a b e f = Short b.min.x b.max.x a.min.x a.max.x e f

abbrev pub ShortY : Aabb → Aabb → ℕ → ℕ → Type 0
ShortY a b e f = Short b.min.y b.max.y a.min.y a.max.y e f

abbrev pub ShortZ : Aabb → Aabb → ℕ → ℕ → Type 0
ShortZ a b e f = Short b.min.z b.max.z a.min.z a.max.z e f

pub data Clear (x y y' z : ℕ) (a b : Aabb) : Type 0 where
  on_x : ShortX a b x x → Clear x y y' z a b
  on_y : ShortY a b y y' → Clear x y y' z a b
  on_z : ShortZ a b z z → Clear x y y' z a b

-- ---- no overlap
pub no-meet : {al ah bl bh : Float} → Real al → Real ah → Real bl → Real bh → T (not (meet al ah bl bh)) → Short bl bh al ah 0 0
no-meet {al} {ah} {bl} {bh} P Q R S = go (lt al bh) (nlt→ P S) (lt bl ah) (nlt→ R Q)
  where
    go : (t : Bool) → (T (not t) → over bh + under al ≤ over al + under bh) → (u : Bool) → (T (not u) → over ah + under bl ≤ over bl + under ah) → T (not (t && u)) → Short bl bh al ah 0 0
    go false f u g h = let k = f tt in beyond (omega arith)
    go true f false g h = let k = g tt in before (omega arith)
    go true f true g h = absurd h

pub record BoxReal (b : Aabb) : Type 0 where
  pub x0 : Real b.min.x
  pub y0 : Real b.min.y
  pub z0 : Real b.min.z
  pub x1 : Real b.max.x
  pub y1 : Real b.max.y
  pub z1 : Real b.max.z

pub box-real : {r : ℕ} {b : Aabb} → BoxIn r b → BoxReal b
box-real h = record { x0 = h.x0.real; y0 = h.y0.real; z0 = h.z0.real; x1 = h.x1.real; y1 = h.y1.real; z1 = h.z1.real }

pub free-clear : (a b : Aabb) → BoxReal a → BoxReal b → T (not (overlap a b)) → Clear 0 0 0 0 a b
free-clear a b A B =
    go (meet a.min.x a.max.x b.min.x b.max.x) (no-meet A.x0 A.x1 B.x0 B.x1)
    (meet a.min.y a.max.y b.min.y b.max.y) (no-meet A.y0 A.y1 B.y0 B.y1)
    (meet a.min.z a.max.z b.min.z b.max.z) (no-meet A.z0 A.z1 B.z0 B.z1)
  where
    go : (t : Bool) → (T (not t) → ShortX a b 0 0) → (u : Bool) → (T (not u) → ShortY a b 0 0) → (v : Bool) → (T (not v) → ShortZ a b 0 0) → T (not (t && (u && v))) → Clear 0 0 0 0 a b
    go false f u g v h i = on_x (f tt)
    go true f false g v h i = on_y (g tt)
    go true f true g false h i = on_z (h tt)
    go true f true g true h i = absurd i

-- overlap is of both alike
pub overlap-turn : (a b : Aabb) → T (not (overlap a b)) → T (not (overlap b a))
overlap-turn a b t =
    go (lt a.min.x b.max.x) (lt b.min.x a.max.x) (lt a.min.y b.max.y) (lt b.min.y a.max.y) (lt a.min.z b.max.z) (lt b.min.z a.max.z) t
  where
    go : (x x' y y' z z' : Bool) → T (not ((x && x') && ((y && y') && (z && z')))) → T (not ((x' && x) && ((y' && y) && (z' && z))))
    go false true y y' z z' t = tt
    go false false y y' z z' t = tt
    go true false y y' z z' t = tt
    go true true false true z z' t = tt
    go true true false false z z' t = tt
    go true true true false z z' t = tt
    go true true true true false true t = tt
    go true true true true false false t = tt
    go true true true true true false t = tt
    go true true true true true true t = t

-- ---- a mover that passes a box by
apart-short : {lo hi from to : Float} → Real lo → Real hi → Real from → Real to → T (apart lo hi from to) → Short lo hi from to 0 0
apart-short {lo} {hi} {from} {to} P Q R S = go (le to lo) (le→ S P) (le hi from) (le→ Q R)
  where
    go : (t : Bool) → (T t → over to + under lo ≤ over lo + under to) → (u : Bool) → (T u → over hi + under from ≤ over from + under hi) → T (t || u) → Short lo hi from to 0 0
    go true f u g h = let k = f tt in before (omega arith)
    go false f true g h = let k = g tt in beyond (omega arith)
    go false f false g h = absurd h

abbrev pub beside_x : Aabb → Aabb → Bool
beside_x a b = apart b.min.y b.max.y a.min.y a.max.y || apart b.min.z b.max.z a.min.z a.max.z

abbrev pub beside_y : Aabb → Aabb → Bool
beside_y a b = apart b.min.x b.max.x a.min.x a.max.x || apart b.min.z b.max.z a.min.z a.max.z

abbrev pub beside_z : Aabb → Aabb → Bool
beside_z a b = apart b.min.x b.max.x a.min.x a.max.x || apart b.min.y b.max.y a.min.y a.max.y

any : (n : ℕ) → 0 ≤ n
any n = omega arith

-- ---- one pass and one box. `own` says what the pass makes of a box that it stops at
module _ {r q : ℕ} (a c b : Aabb) (w : Float) (x y y' z : ℕ) (A : BoxIn q a) (B : BoxIn r b) where
  pub pass-x : Offset a (vec w zero64 zero64) c → (T (not (beside_x a b)) → Stops b.min.x b.max.x a.min.x a.max.x w)
      → Clear 0 y y' z a b → Clear (3 * unit) y y' z c b
  pass-x O S (on_y s) = on_y (stay O.y0 O.y1 s)
  pass-x O S (on_z s) = on_z (stay O.z0 O.z1 s)
  pass-x O S (on_x s) =
      go (apart b.min.y b.max.y a.min.y a.max.y) (apart-short B.y0.real B.y1.real A.y0.real A.y1.real)
      (apart b.min.z b.max.z a.min.z a.max.z) (apart-short B.z0.real B.z1.real A.z0.real A.z1.real) S
    where
      go : (t : Bool) → (T t → ShortY a b 0 0) → (u : Bool) → (T u → ShortZ a b 0 0) → (T (not (t || u)) → Stops b.min.x b.max.x a.min.x a.max.x w) → Clear (3 * unit) y y' z c b
      go true f u g h = on_y (weaken (any y) (any y') (stay O.y0 O.y1 (f tt)))
      go false f true g h = on_z (weaken (any z) (any z) (stay O.z0 O.z1 (g tt)))
      go false f false g h = on_x (land (h tt) O.x0 O.x1 s)

  pub pass-z : Offset a (vec zero64 zero64 w) c → (T (not (beside_z a b)) → Stops b.min.z b.max.z a.min.z a.max.z w)
      → Clear x y y' 0 a b → Clear x y y' (3 * unit) c b
  pass-z O S (on_x s) = on_x (stay O.x0 O.x1 s)
  pass-z O S (on_y s) = on_y (stay O.y0 O.y1 s)
  pass-z O S (on_z s) =
      go (apart b.min.x b.max.x a.min.x a.max.x) (apart-short B.x0.real B.x1.real A.x0.real A.x1.real)
      (apart b.min.y b.max.y a.min.y a.max.y) (apart-short B.y0.real B.y1.real A.y0.real A.y1.real) S
    where
      go : (t : Bool) → (T t → ShortX a b 0 0) → (u : Bool) → (T u → ShortY a b 0 0) → (T (not (t || u)) → Stops b.min.z b.max.z a.min.z a.max.z w) → Clear x y y' (3 * unit) c b
      go true f u g h = on_x (weaken (any x) (any x) (stay O.x0 O.x1 (f tt)))
      go false f true g h = on_y (weaken (any y) (any y') (stay O.y0 O.y1 (g tt)))
      go false f false g h = on_z (land (h tt) O.z0 O.z1 s)

  -- own: what the pass makes of a box that it stops at, from (e, e') to (y, y')
  pub pass-y : {e e' : ℕ} → Offset a (vec zero64 w zero64) c → (T (not (beside_y a b)) → Stops b.min.y b.max.y a.min.y a.max.y w)
      → (Stops b.min.y b.max.y a.min.y a.max.y w → ShortY a b e e' → ShortY c b y y')
      → Clear x e e' z a b → Clear x y y' z c b
  pass-y O S own (on_x s) = on_x (stay O.x0 O.x1 s)
  pass-y O S own (on_z s) = on_z (stay O.z0 O.z1 s)
  pass-y O S own (on_y s) =
      go (apart b.min.x b.max.x a.min.x a.max.x) (apart-short B.x0.real B.x1.real A.x0.real A.x1.real)
      (apart b.min.z b.max.z a.min.z a.max.z) (apart-short B.z0.real B.z1.real A.z0.real A.z1.real) S
    where
      go : (t : Bool) → (T t → ShortX a b 0 0) → (u : Bool) → (T u → ShortZ a b 0 0) → (T (not (t || u)) → Stops b.min.y b.max.y a.min.y a.max.y w) → Clear x y y' z c b
      go true f u g h = on_x (weaken (any x) (any x) (stay O.x0 O.x1 (f tt)))
      go false f true g h = on_z (weaken (any z) (any z) (stay O.z0 O.z1 (g tt)))
      go false f false g h = on_y (own (h tt) s)
