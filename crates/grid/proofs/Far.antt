-- A cell far above or below all that a move reaches: its boxes overlap nothing there, however their corners are rounded (`far-clear`). Assumes nothing.
use mathlib.Core.Path.{◌≡◌, refl, subst}
use mathlib.Core.Bool.{Bool, true, false, not, ◌&&◌, cond, true≢false, false≢true}
use Prim.Native.Nat.{ℕ, suc, ◌+◌, ◌-◌, ◌*◌, ◌^◌, ◌≤◌, ◌<◌}
use native.Mathlib.Nat.{mul-le-mul_right, mul-pos, le_of_mul-le-mul_right}
use native.Mathlib.Omega.{arith}
use lib.IntN.{ℤ, pos, negsuc, nat_abs}
use lib.Dec.{T, ltb, ltb→lt, lt→ltb, lit<}
use lib.Ieee.{Float, nan, inf, fin, binary64, up, down, round, of_int, of_bits, sum, add, neg, lt, le}
use lib.Ieee.Fits.{and_l, and_r, down_pos}
use lib.Ieee.Exact.{HasValue}
use lib.Ieee.Back.{round_whole}
use lib.Ieee.Order.{round_mono}
use lib.Ieee.Positive.{above, positive_of_value, above_of_le, values_of_le}
use Rattle.base.proofs.Bounds.{neg-round}
use Rattle.base.proofs.Counts as C
use Rattle.floats.specs.Numbers.{one64}
use Rattle.boxes.specs.declared.Aabb.{Aabb}
use Rattle.boxes.specs.Boxes.{offset_by, meet, overlap}
use Rattle.window.specs.declared.Pos.{Pos}
use Rattle.collection.specs.Collect.{origin_of, cube_at}
use Rattle.grid.proofs.Units.{Signed}
use Rattle.grid.proofs.Axis.{Span}
use Rattle.grid.proofs.Counted.{base, OnSpan}

-- of the sign s, and at least L in size; an infinity too
abbrev pub Beyond : ℕ → Bool → Float → Type 0
Beyond L s nan = ⊥
Beyond L s (inf t) = t ≡ s
Beyond L s (fin t m e) = (t ≡ s) × (L * down e ≤ m * up e)

-- ---- rounding
above-beyond : (L : ℕ) (x y : Float) → 0 < L → HasValue x false L 1 → T (le x y) → Beyond L false y
above-beyond L x y P v t = go y (above_of_le x y (positive_of_value x L 1 v P) t) t
  where
    go : (y : Float) → T (above y) → T (le x y) → Beyond L false y
    go nan a t = absurd a
    go (inf true) a t = absurd a
    go (inf false) a t = refl
    go (fin true n d) a t = absurd a
    go (fin false n d) a t =
        let h : L * down d ≤ n * up d * 1 = values_of_le x (fin false n d) L 1 (n * up d) (down d) (positive_of_value x L 1 v P) a v (refl, refl) t in
        (refl, omega arith)

neg-beyond : (L : ℕ) (x : Float) → Beyond L false x → Beyond L true (neg x)
unfolding neg
neg-beyond L nan h = h
neg-beyond L (inf true) h = absurd (true≢false h)
neg-beyond L (inf false) h = refl
neg-beyond L (fin true m e) h = absurd (true≢false h.0)
neg-beyond L (fin false m e) h = (refl, h.1)

round-beyond : (L : ℕ) (s : Bool) (a c : ℕ) → 0 < L → L ≤ 2 ^ 53 → 0 < c → L * c ≤ a → Beyond L s (round binary64 s a c)
round-beyond L s a c P small C h = go s
  where
    up-side : Beyond L false (round binary64 false a c)
    up-side = above-beyond L (round binary64 false L 1) (round binary64 false a c) P (round_whole binary64 false L small) (round_mono binary64 L 1 a c (lit< tt) C (omega arith))

    go : (s : Bool) → Beyond L s (round binary64 s a c)
    go false = up-side
    go true = subst (Beyond L true) (neg-round binary64 true a c) (neg-beyond L (round binary64 false a c) up-side)

-- ---- a sum in which b outweighs a
module _ (a b c : ℕ) (C : 0 < c) (h : a + 2 ^ 26 * c ≤ b) where
  more : (s : Bool) → Beyond (2 ^ 26) s (round binary64 s (a + b) c)
  more s = round-beyond (2 ^ 26) s (a + b) c (omega arith) (omega arith) C (omega arith)

  less : (s : Bool) → Beyond (2 ^ 26) s (round binary64 s (b - a) c)
  less s = round-beyond (2 ^ 26) s (b - a) c (omega arith) (omega arith) C (omega arith)

  chosen : (t u : Bool) (x y : Float) → T u → Beyond (2 ^ 26) t x → Beyond (2 ^ 26) t (cond u x y)
  chosen t true x y k z = z
  chosen t false x y k z = absurd k

  below-b : T (ltb a b)
  below-b = lt→ltb a b (omega arith)

  sum-beyond : (s t : Bool) → Beyond (2 ^ 26) t (sum binary64 s a t b c)
  unfolding sum
  sum-beyond false false = more false
  sum-beyond true true = more true
  sum-beyond false true = chosen true (ltb a b) _ _ below-b (less true)
  sum-beyond true false = chosen false (ltb a b) _ _ below-b (less false)

  -- the other way round
  difference-beyond : Beyond (2 ^ 26) true (sum binary64 true b false a c)
  unfolding sum
  difference-beyond = go (ltb b a) (ltb a b) (ltb→lt b a) below-b
    where
      go : (u v : Bool) → (T u → b < a) → T v → Beyond (2 ^ 26) true (cond u (round binary64 false (a - b) c) (round binary64 v (b - a) c))
      go true v f k = absurd (let z : b < a = f tt in omega arith)
      go false true f k = less true
      go false false f k = absurd k

-- at most 2 in size
abbrev pub Slight : Float → Type 0
Slight nan = ⊥
Slight (inf s) = ⊥
Slight (fin s m e) = m * up e ≤ 2 * down e

pub slight : (c : ℕ) → 0 < c → (x : Float) (p n : ℕ) → C.At c x p n → n ≤ p → p ≤ n + 2 * c → Slight x
slight c P nan p n h low high = absurd h.value
slight c P (inf s) p n h low high = absurd h.value
slight c P (fin s m e) p n h low high =
    let k = h.size in
    let z : k ≤ 2 * c = go h.sign k h.units in
    let v : m * up e * c ≡ k * down e = h.value.1 in
    let q : k * down e ≤ 2 * c * down e = mul-le-mul_right (down e) z in
    le_of_mul-le-mul_right {m = m * up e} {n = 2 * down e} {k = c} (omega arith) P
  where
    go : (s : Bool) (k : ℕ) → Signed s k p n → k ≤ 2 * c
    go false k u = omega arith
    go true k u = omega arith

outweighs : (u v d e : ℕ) → u ≤ 2 * d → 2 ^ 27 * e ≤ v → u * e + 2 ^ 26 * (d * e) ≤ v * d
outweighs u v d e h k =
    let a : u * e ≤ 2 * d * e = mul-le-mul_right e h in
    let b : 2 ^ 27 * e * d ≤ v * d = mul-le-mul_right d k in
    omega arith

add-beyond : (t : Bool) (x o : Float) → Slight x → Beyond (2 ^ 27) t o → Beyond (2 ^ 26) t (add binary64 x o)
unfolding add
add-beyond t nan o h k = absurd h
add-beyond t (inf s) o h k = absurd h
add-beyond t (fin s m e) nan h k = absurd k
add-beyond t (fin s m e) (inf r) h k = k
add-beyond t (fin s m e) (fin r n d) h k =
    subst (λ (b : Bool). Beyond (2 ^ 26) b (sum binary64 s (m * up e * down d) r (n * up d * down e) (down e * down d))) k.0
    (sum-beyond (m * up e * down d) (n * up d * down e) (down e * down d) (mul-pos (down_pos e) (down_pos d)) (outweighs (m * up e) (n * up d) (down e) (down d) h k.1) s r)

one-beyond : (o : Float) → Beyond (2 ^ 27) true o → Beyond (2 ^ 26) true (add binary64 o one64)
unfolding add of_bits
one-beyond nan k = absurd k
one-beyond (inf r) k = k
one-beyond (fin false n d) k = absurd (false≢true k.0)
one-beyond (fin true n d) k =
    difference-beyond (1 * down d) (n * up d * 1) (down d * 1) (mul-pos (down_pos d) (lit< tt)) (let z : 2 ^ 27 * down d ≤ n * up d = k.1 in let p : 0 < down d = down_pos d in omega arith)

-- ---- cells
pub data Far (b : Aabb) : Type 0 where
  over : Beyond (2 ^ 26) false b.min.y → Far b
  under : Beyond (2 ^ 26) true b.max.y → Far b

high_origin : (L n : ℕ) → 0 < L → L ≤ 2 ^ 27 → 2 ^ 27 < n → Beyond L false (of_int binary64 (pos n))
unfolding of_int
high_origin L n P small h = round-beyond L false n 1 P (omega arith) (lit< tt) (omega arith)

low_origin : (n : ℕ) → 2 ^ 27 < suc n → Beyond (2 ^ 27) true (of_int binary64 (negsuc n))
unfolding of_int
low_origin n h = round-beyond (2 ^ 27) true (suc n) 1 (omega arith) (omega arith) (lit< tt) (omega arith)

pub far-cube : (p : Pos) → 2 ^ 27 < nat_abs p.y → Far (cube_at p)
far-cube p h = go p.y h
  where
    go : (y : ℤ) → 2 ^ 27 < nat_abs y → Far (cube_at record { x = p.x; y = y; z = p.z })
    go (pos n) h = over (high_origin (2 ^ 26) n (omega arith) (omega arith) h)
    go (negsuc n) h = under (one-beyond (of_int binary64 (negsuc n)) (low_origin n h))

pub far-shape : (p : Pos) (b : Aabb) → 2 ^ 27 < nat_abs p.y → Slight b.min.y → Slight b.max.y → Far (offset_by b (origin_of p))
far-shape p b h low high = go p.y h
  where
    go : (y : ℤ) → 2 ^ 27 < nat_abs y → Far (offset_by b (origin_of record { x = p.x; y = y; z = p.z }))
    go (pos n) h = over (add-beyond false b.min.y (of_int binary64 (pos n)) low (high_origin (2 ^ 27) n (omega arith) (omega arith) h))
    go (negsuc n) h = under (add-beyond true b.max.y (of_int binary64 (negsuc n)) high (low_origin n h))

-- ---- a box within 2 ^ 26 does not reach it, in any unit
module _ (c : ℕ) (positive : 0 < c) where
  outreached : (m n : ℕ) (e d : ℤ) (k : ℕ) → 2 ^ 26 * down e ≤ m * up e → n * up d * c ≡ k * down d → k ≤ 2 ^ 26 * c → m * up e * down d < n * up d * down e → ⊥
  outreached m n e d k M N K h =
      let p : k * down d ≤ 2 ^ 26 * c * down d = mul-le-mul_right (down d) K in
      let a : n * up d ≤ 2 ^ 26 * down d = le_of_mul-le-mul_right {m = n * up d} {n = 2 ^ 26 * down d} {k = c} (omega arith) positive in
      let b : n * up d * down e ≤ 2 ^ 26 * down d * down e = mul-le-mul_right (down e) a in
      let q : 2 ^ 26 * down e * down d ≤ m * up e * down d = mul-le-mul_right (down d) M in
      omega arith

  over-clear : (x y : Float) (p n : ℕ) → Beyond (2 ^ 26) false x → C.At c y p n → p ≤ n + 2 ^ 26 * c → T (lt x y) → ⊥
  unfolding lt
  over-clear nan y p n b h r t = absurd b
  over-clear (inf s) nan p n b h r t = absurd h.value
  over-clear (inf s) (inf u) p n b h r t = absurd h.value
  over-clear (inf s) (fin u a d) p n b h r t = subst T b t
  over-clear (fin q m e) nan p n b h r t = absurd h.value
  over-clear (fin q m e) (inf s) p n b h r t = absurd h.value
  over-clear (fin true m e) (fin u a d) p n b h r t = absurd (true≢false b.0)
  over-clear (fin false m e) (fin true a d) p n b h r t = absurd t
  over-clear (fin false m e) (fin false a d) p n b h r t =
      outreached m a e d h.size b.1 h.value.1 (go h.sign h.size h.value.0 h.units) (ltb→lt (m * up e * down d) (a * up d * down e) t)
    where
      go : (s : Bool) (k : ℕ) → false ≡ s → Signed s k p n → k ≤ 2 ^ 26 * c
      go true k q u = absurd (false≢true q)
      go false k q u = omega arith

  under-clear : (x y : Float) (p n : ℕ) → Beyond (2 ^ 26) true x → C.At c y p n → n ≤ p + 2 ^ 26 * c → T (lt y x) → ⊥
  unfolding lt
  under-clear nan y p n b h r t = absurd b
  under-clear (inf s) nan p n b h r t = absurd h.value
  under-clear (inf s) (inf u) p n b h r t = absurd h.value
  under-clear (inf s) (fin u a d) p n b h r t = T-no s b t
    where
      T-no : (s : Bool) → s ≡ true → T (not s) → ⊥
      T-no true q t = t
      T-no false q t = false≢true q
  under-clear (fin q m e) nan p n b h r t = absurd h.value
  under-clear (fin q m e) (inf s) p n b h r t = absurd h.value
  under-clear (fin false m e) (fin u a d) p n b h r t = absurd (false≢true b.0)
  under-clear (fin true m e) (fin false a d) p n b h r t = absurd t
  under-clear (fin true m e) (fin true a d) p n b h r t =
      outreached m a e d h.size b.1 h.value.1 (go h.sign h.size h.value.0 h.units) (ltb→lt (m * up e * down d) (a * up d * down e) t)
    where
      go : (s : Bool) (k : ℕ) → true ≡ s → Signed s k p n → k ≤ 2 ^ 26 * c
      go true k q u = omega arith
      go false k q u = absurd (true≢false q)

  pub far_apart : (a b : Aabb) (p n q m : ℕ) → C.At c a.min.y p n → C.At c a.max.y q m → n ≤ p + 2 ^ 26 * c → q ≤ m + 2 ^ 26 * c → Far b → T (overlap a b) → ⊥
  far_apart a b p n q m A B low high f t =
      let yz = and_r (meet a.min.x a.max.x b.min.x b.max.x) (meet a.min.y a.max.y b.min.y b.max.y && meet a.min.z a.max.z b.min.z b.max.z) t in
      go f (and_l (meet a.min.y a.max.y b.min.y b.max.y) (meet a.min.z a.max.z b.min.z b.max.z) yz)
    where
      go : Far b → T (meet a.min.y a.max.y b.min.y b.max.y) → ⊥
      go (over h) u = over-clear b.min.y a.max.y q m h B high (and_r (lt a.min.y b.max.y) (lt b.min.y a.max.y) u)
      go (under h) u = under-clear b.max.y a.min.y p n h A low (and_l (lt a.min.y b.max.y) (lt b.min.y a.max.y) u)

-- on the grid
pub far-clear : (a b : Aabb) (s : Span) → OnSpan a.min.y a.max.y s → base ≤ s.lo + 2 ^ 38 → s.hi ≤ base + 2 ^ 38 → Far b → T (overlap a b) → ⊥
far-clear a b s on deep room f t = far_apart 4096 (lit< tt) a b s.lo base s.hi base on.lo.at on.hi.at deep room f t
