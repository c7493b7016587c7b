-- Cells of the grid: the cell n of an axis stands for the whole number n - 2 ^ 28, and has the places from 4096 * n to 4096 * (n + 1). The cell of a
-- coordinate (`cell_at`), which cells a range holds (`in_cells`, `in-layers`), and where a cell's origin lies (`origin-at`). Assumes nothing.
use mathlib.Core.Path.{◌≡◌, refl, sym, ap, ◌∙◌, subst}
use mathlib.Core.Bool.{Bool, true, false, not, cond}
use Prim.Native.Nat.{ℕ, zero, suc, ◌+◌, ◌-◌, ◌*◌, ◌/◌, ◌%◌, ◌^◌, ◌≤◌, ◌<◌, min}
use native.Mathlib.Nat.{le_trans, le_of_eq, lt_of_lt_of_le, lt_of_le_of_lt, add-mul, mul_comm, mul_right_comm, div-add-mod', mod-lt, mul-le-mul_right, mul-lt-mul_of_pos_right, le_of_mul-le-mul_right, lt_of_mul-lt-mul_right}
use native.Mathlib.Omega.{arith}
use lib.IntN.{ℤ, pos, negsuc, neg_ℤ, nat_abs, sub_ℕ, ◌+ℤ◌, ◌-ℤ◌, +ℤ-neg_ℤ_cancel}
use lib.Signed.{le_z}
use lib.Dec.{T, ltb, leb, ltb→lt, nltb→le, le→leb, lit<}
use lib.Ieee.{Float, nan, inf, fin, binary64, up, down, round, of_int, le}
use lib.Ieee.Fits.{down_pos}
use lib.Ieee.Back.{round_whole}
use Rattle.base.specs.Choose.{choose}
use Rattle.base.proofs.Values.{rescaled}
use Rattle.base.proofs.Counts as C
use Rattle.base.proofs.Tests.{T_true}
use Rattle.base.proofs.Differences.{subℕ-pos, subℕ-neg, subℕ-add, subℕ-le, plus-minus}
use Rattle.wholes.specs.Whole.{floor_size, floor_int, signed_of, cell_of}
use Rattle.wholes.proofs.Cells.{cell-within, bottom}
use Rattle.wholes.proofs.Cells as W
use Rattle.ranges.specs.declared.Axis.{Axis}
use Rattle.ranges.specs.Ranges.{or_zero, span_of, on_from, cells_between, layers_between}
use Rattle.grid.proofs.Units.{At, Signed, le_is}
use Rattle.grid.proofs.Counted.{base}

abbrev pub numbered : ℕ → ℤ
numbered n = sub_ℕ n (2 ^ 28)

-- the number of a cell not far from 0
pub record Numbered (z : ℤ) (far : ℕ) : Type 0 where
  pub number : ℕ
  pub is : z ≡ numbered number
  pub low : 2 ^ 28 ≤ number + far
  pub high : number ≤ 2 ^ 28 + far

pub number : (z : ℤ) (far : ℕ) → nat_abs z ≤ far → far ≤ 2 ^ 28 → Numbered z far
number (pos k) far h small = record { number = 2 ^ 28 + k; is = sym (subℕ-pos (2 ^ 28 + k) (2 ^ 28) k refl); low = omega arith; high = omega arith }
number (negsuc k) far h small =
    let g : suc k ≤ far = h in
    record { number = 2 ^ 28 - suc k; is = sym (subℕ-neg (2 ^ 28 - suc k) (2 ^ 28) k (omega arith)); low = omega arith; high = omega arith }

-- ---- the cell of a coordinate
-- the whole part of a / c, which is k / l, and the least whole number that is not below it
record Part (k l q : ℕ) : Type 0 where
  low : q * l ≤ k
  high : k < q * l + l

record PartUp (k l q : ℕ) : Type 0 where
  low : k ≤ q * l
  high : q * l < k + l

part : (a c k l : ℕ) → 0 < c → 0 < l → a * l ≡ k * c → Part k l (a / c)
part a c k l C L e =
    let q = a / c in
    let r = a % c in
    let R : r < c = mod-lt a C in
    let x : q * c + r ≡ a = div-add-mod' a c in
    let y : q * c ≤ a = omega arith in
    let z : a < q * c + c = omega arith in
    record {
      low = le_of_mul-le-mul_right {m = q * l} {n = k} {k = c} (le_trans (le_of_eq (mul_right_comm q l c)) (le_trans (mul-le-mul_right l y) (le_of_eq e))) C;
      high = lt_of_mul-lt-mul_right c {m = k} {n = q * l + l}
          (lt_of_le_of_lt (le_of_eq (sym e)) (lt_of_lt_of_le (mul-lt-mul_of_pos_right z L) (le_of_eq (swap q c l))));
    }
  where
    swap : (q c l : ℕ) → (q * c + c) * l ≡ (q * l + l) * c
    swap q c l = omega arith

part_up : (a c k l : ℕ) → 0 < c → 0 < l → a * l ≡ k * c → PartUp k l ((a + (c - 1)) / c)
part_up a c k l C L e =
    let q = (a + (c - 1)) / c in
    let r = (a + (c - 1)) % c in
    let R : r < c = mod-lt (a + (c - 1)) C in
    let x : q * c + r ≡ a + (c - 1) = div-add-mod' (a + (c - 1)) c in
    let y : a ≤ q * c = omega arith in
    let z : q * c < a + c = omega arith in
    record {
      low = le_of_mul-le-mul_right {m = k} {n = q * l} {k = c} (le_trans (le_of_eq (sym e)) (le_trans (mul-le-mul_right l y) (le_of_eq (mul_right_comm q c l)))) C;
      high = lt_of_mul-lt-mul_right c {m = q * l} {n = k + l}
          (lt_of_le_of_lt (le_of_eq (mul_right_comm q l c)) (lt_of_lt_of_le (mul-lt-mul_of_pos_right z L) (le_of_eq (add-mul a c l ∙ ap (λ (w : ℕ). w + c * l) e ∙ ap (λ (w : ℕ). k * c + w) (mul_comm c l) ∙ sym (add-mul k l c)))));
    }

-- below by less than one
less : (q r l : ℕ) → q * l < r * l + l → q ≤ r
less q r l h = let g : q < r + 1 = lt_of_mul-lt-mul_right l {m = q} {n = r + 1} (omega arith) in omega arith

-- (v - base) / l, where the whole part of v / l is q
pub floor-by : (l : ℕ) → 0 < l → (x : Float) (v q : ℕ) → C.At l x v (2 ^ 28 * l) → q * l ≤ v → v < q * l + l → floor_int x ≡ numbered q
unfolding floor_int floor_size
floor-by l L nan v q h low high = absurd h.value
floor-by l L (inf s) v q h low high = absurd h.value
floor-by l L (fin t m e) v q h low high =
    ap (λ (s : Bool). signed_of s (floor_size s (m * up e) (down e))) h.value.0 ∙ go h.sign h.size h.units h.value.1
  where
    below : (n : ℕ) → q + n ≡ 2 ^ 28 → neg_ℤ (pos n) ≡ numbered q
    below zero z = sym (subℕ-pos q (2 ^ 28) 0 (omega arith))
    below (suc i) z = sym (subℕ-neg q (2 ^ 28) i z)

    go : (s : Bool) (k : ℕ) → Signed s k v (2 ^ 28 * l) → m * up e * l ≡ k * down e → signed_of s (floor_size s (m * up e) (down e)) ≡ numbered q
    go false k u w =
        let a = m * up e / down e in
        let p = part (m * up e) (down e) k l (down_pos e) L w in
        let pl : a * l ≤ k = p.low in
        let ph : k < a * l + l = p.high in
        let one : a + 2 ^ 28 ≤ q = less (a + 2 ^ 28) q l (omega arith) in
        let two : q ≤ a + 2 ^ 28 = less q (a + 2 ^ 28) l (omega arith) in
        sym (subℕ-pos q (2 ^ 28) a (omega arith))
    go true k u w =
        let a = (m * up e + (down e - 1)) / down e in
        let p = part_up (m * up e) (down e) k l (down_pos e) L w in
        let pl : k ≤ a * l = p.low in
        let ph : a * l < k + l = p.high in
        let one : q + a ≤ 2 ^ 28 = less (q + a) (2 ^ 28) l (omega arith) in
        let two : 2 ^ 28 ≤ q + a = less (2 ^ 28) (q + a) l (omega arith) in
        below a (omega arith)

floor-at : (x : Float) (v : ℕ) → At x v base → floor_int x ≡ numbered (v / 4096)
floor-at x v h = floor-by 4096 (lit< tt) x v (v / 4096) h (omega arith) (omega arith)

-- within 2 ^ 26, which is 2 ^ 38 units
cell_at : (x : Float) (v : ℕ) → At x v base → base ≤ v + 2 ^ 38 → v ≤ base + 2 ^ 38 → cell_of x ≡ numbered (v / 4096)
cell_at x v h lo hi =
    sym (cell-within x
    (le_is x W.top v base (2 ^ 38) 0 v (base + 2 ^ 38) h (record { sign = false; size = 2 ^ 38; value = (refl, refl); units = refl }) (omega arith) ∙ T_true (leb v (base + 2 ^ 38)) (le→leb v (base + 2 ^ 38) hi))
    (le_is bottom x 0 (2 ^ 38) v base base (v + 2 ^ 38) (record { sign = true; size = 2 ^ 38; value = (refl, refl); units = refl }) h (omega arith) ∙ T_true (leb base (v + 2 ^ 38)) (le→leb base (v + 2 ^ 38) lo)))
    ∙ floor-at x v h

-- ---- ranges
span-is : (l h : ℕ) → l ≤ h → h < l + 2 ^ 30 → span_of (numbered l) (numbered h) ≡ h - l + 1
unfolding span_of
span-is l h le lt =
    let k = h - l in
    let e : numbered h ≡ numbered l +ℤ pos k = ap numbered (let z : h ≡ l + (h - l) = omega arith in z) ∙ sym (subℕ-add l (2 ^ 28) k) in
    ap (λ (z : ℤ). min (or_zero (z -ℤ numbered l +ℤ pos 1)) 4294967295) e
    ∙ ap (λ (z : ℤ). min (or_zero (z +ℤ pos 1)) 4294967295) (plus-minus (numbered l) k)
    ∙ small k (omega arith)
  where
    small : (k : ℕ) → k < 2 ^ 30 → min (k + 1) 4294967295 ≡ k + 1
    small k h = omega arith

on-is : (l k : ℕ) → l + k ≤ 2 ^ 28 + 2 ^ 26 → on_from (numbered l) k ≡ numbered (l + k)
unfolding on_from choose
on-is l k h =
    let e : le_z (numbered l +ℤ pos k) (pos 67108864) ≡ true = ap (λ (z : ℤ). le_z z (pos 67108864)) (subℕ-add l (2 ^ 28) k) ∙ T_true (le_z (numbered (l + k)) (pos 67108864)) (subℕ-le (l + k) (2 ^ 28 + 2 ^ 26) (2 ^ 28) h) in
    rw e (subℕ-add l (2 ^ 28) k)

-- the cell c is one of the axis
pub record Held (a : Axis) (c : ℤ) : Type 0 where
  pub index : ℕ
  pub below : index < a.count
  pub is : on_from a.first index ≡ c

pub held : (f g : ℤ) (l h n : ℕ) → f ≡ numbered l → g ≡ numbered h → l ≤ n → n ≤ h → h < l + 2 ^ 30 → h ≤ 2 ^ 28 + 2 ^ 26 → Held record { first = f; count = span_of f g } (numbered n)
held f g l h n F G low high near small =
    let e : span_of f g ≡ h - l + 1 = ap (λ (z : ℤ). span_of z g) F ∙ ap (λ (z : ℤ). span_of (numbered l) z) G ∙ span-is l h (omega arith) near in
    let k = n - l in
    record {
      index = k;
      below = subst (λ (i : ℕ). k < i) (sym e) (omega arith);
      is = ap (λ (z : ℤ). on_from z k) F ∙ on-is l k (omega arith) ∙ ap numbered (let z : l + (n - l) ≡ n = omega arith in z);
    }

pub record Reached (x : Float) (v : ℕ) : Type 0 where
  pub at : At x v base
  pub low : base ≤ v + 2 ^ 38
  pub high : v ≤ base + 2 ^ 38

cell-of : (x : Float) (v : ℕ) → Reached x v → cell_of x ≡ numbered (v / 4096)
cell-of x v r = cell_at x v r.at r.low r.high

pub in_cells : (lo hi : Float) (a b n : ℕ) → Reached lo a → Reached hi b → a / 4096 ≤ n → n ≤ b / 4096 → Held (cells_between lo hi) (numbered n)
in_cells lo hi a b n A B low high =
    let al : base ≤ a + 2 ^ 38 = A.low in
    let bh : b ≤ base + 2 ^ 38 = B.high in
    held (cell_of lo) (cell_of hi) (a / 4096) (b / 4096) n (cell-of lo a A) (cell-of hi b B) low high (omega arith) (omega arith)

pub in-layers : (lo hi : Float) (a b n : ℕ) → Reached lo a → Reached hi b → a / 4096 ≤ n + 1 → n ≤ b / 4096 → Held (layers_between lo hi) (numbered n)
in-layers lo hi a b n A B low high =
    let al : base ≤ a + 2 ^ 38 = A.low in
    let bh : b ≤ base + 2 ^ 38 = B.high in
    let l = a / 4096 - 1 in
    let e : numbered (a / 4096) ≡ numbered l +ℤ pos 1 = ap numbered (let z : a / 4096 ≡ a / 4096 - 1 + 1 = omega arith in z) ∙ sym (subℕ-add l (2 ^ 28) 1) in
    held (cell_of lo -ℤ pos 1) (cell_of hi) l (b / 4096) n (ap (λ (z : ℤ). z -ℤ pos 1) (cell-of lo a A ∙ e) ∙ +ℤ-neg_ℤ_cancel (numbered l) (pos 1)) (cell-of hi b B) (omega arith) high (omega arith) (omega arith)

-- ---- the origin of a cell
pub origin-at : (n : ℕ) → n < 2 ^ 29 → At (of_int binary64 (numbered n)) (4096 * n) base
unfolding of_int
origin-at n h = go (ltb n (2 ^ 28)) (ltb→lt n (2 ^ 28)) (nltb→le n (2 ^ 28))
  where
    go : (u : Bool) → (T u → n < 2 ^ 28) → (T (not u) → 2 ^ 28 ≤ n) → At (of_int binary64 (cond u (negsuc (2 ^ 28 - suc n)) (pos (n - 2 ^ 28)))) (4096 * n) base
    go true f f' =
        let k = 2 ^ 28 - suc n in
        let z : n < 2 ^ 28 = f tt in
        record { sign = true; size = suc k * 4096; value = rescaled (round binary64 true (suc k) 1) true (suc k) 4096 (round_whole binary64 true (suc k) (omega arith)); units = omega arith }
    go false f f' =
        let k = n - 2 ^ 28 in
        let z : 2 ^ 28 ≤ n = f' tt in
        record { sign = false; size = k * 4096; value = rescaled (round binary64 false k 1) false k 4096 (round_whole binary64 false k (omega arith)); units = omega arith }
