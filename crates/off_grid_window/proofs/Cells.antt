-- Cells, and values by `over` and `under`: the cell n of an axis stands for the whole number n - 2 ^ 28, and `one` is how many units 1 is. The cell of a
-- coordinate (`floor-of`), whether a range holds a cell or lies aside of it (`in_cells`, `in-layers`), and a cell's origin (`origin-of`). Assumes nothing.
use mathlib.Core.Path.{◌≡◌, refl, sym, ap, ◌∙◌}
use mathlib.Core.Bool.{true}
use Prim.Native.Nat.{ℕ, ◌+◌, ◌-◌, ◌*◌, ◌/◌, ◌%◌, ◌^◌, ◌≤◌, ◌<◌}
use native.Mathlib.Nat.{div-add-mod', mod-lt, mul-le-mul_right, lt_of_mul-lt-mul_right}
use native.Mathlib.Decide.{dec_le}
use native.Mathlib.Omega.{arith}
use lib.IntN.{ℤ, pos, ◌+ℤ◌, ◌-ℤ◌, +ℤ-neg_ℤ_cancel}
use lib.Dec.{leb, le→leb}
use lib.Pow.{pow_pos}
use lib.Ieee.{Float, binary64, of_int, le, fits}
use lib.Ieee.Fits.{of_int-fits}
use Rattle.base.proofs.Tests.{T_true}
use Rattle.base.proofs.Differences.{subℕ-add}
use Rattle.base.proofs.Counts.{At, at_same, at-times, at-unique}
use Rattle.base.proofs.Scaled.{scaled_size, over, under, Real, Within, own, at-finite, le_is}
use Rattle.wholes.specs.Whole.{cell_of}
use Rattle.wholes.proofs.Cells.{cell-within, top, bottom}
use Rattle.ranges.specs.declared.Axis.{Axis}
use Rattle.ranges.specs.Ranges.{cells_between, layers_between}
use Rattle.grid.proofs.Counted.{base}
use Rattle.grid.proofs.Cells.{numbered, Held, held, floor-by, origin-at}
use Rattle.off_grid.proofs.Starts.{one}

pub one-pos : 0 < one
unfolding one
one-pos = pow_pos 1074

-- ---- the cell of a coordinate
pub record Floor (x : Float) : Type 0 where
  pub cell : ℕ
  pub is : cell_of x ≡ numbered cell
  pub low : cell * one + under x ≤ over x + 268435456 * one
  pub high : over x + 268435456 * one < cell * one + one + under x
  pub deep : 268435456 ≤ cell + 67108864
  pub small : cell ≤ 268435456 + 67108864

-- 2 ^ 26 either way, where `cell_of` stops
top-real : Real top
unfolding fits
top-real = record { fit = tt; finite = tt }

bottom-real : Real bottom
unfolding fits
bottom-real = record { fit = tt; finite = tt }

top-over : over top ≡ 67108864 * one
unfolding over scaled_size one
top-over = refl

top-under : under top ≡ 0
unfolding under
top-under = refl

bottom-over : over bottom ≡ 0
unfolding over
bottom-over = refl

bottom-under : under bottom ≡ 67108864 * one
unfolding under scaled_size one
bottom-under = refl

pub own-one : {x : Float} → Real x → At one x (over x) (under x)
unfolding one
own-one h = own h

-- of two whole numbers of 1
pub fewer : (q r : ℕ) → q * one < r * one + one → q ≤ r
fewer q r h = let l : q < r + 1 = lt_of_mul-lt-mul_right one {m = q} {n = r + 1} (omega arith) in omega arith

pub floor-of : (x : Float) → Within x (67108864 * one) → Floor x
floor-of x h =
    let a = top-over in
    let a' = top-under in
    let b = bottom-over in
    let b' = bottom-under in
    let c = h.high in
    let c' = h.low in
    let t : le x top ≡ true = le_is h.real top-real ∙ T_true (leb (over x + under top) (over top + under x)) (le→leb (over x + under top) (over top + under x) (omega arith)) in
    let u : le bottom x ≡ true = le_is bottom-real h.real ∙ T_true (leb (over bottom + under x) (over x + under bottom)) (le→leb (over bottom + under x) (over x + under bottom) (omega arith)) in
    let v = over x + 268435456 * one - under x in
    let q = v / one in
    let r = v % one in
    let R : r < one = mod-lt v one-pos in
    let e : q * one + r ≡ v = div-add-mod' v one in
    let f = floor-by one one-pos x v q (at_same (over x) (under x) v (268435456 * one) (omega arith) (own-one h.real)) (omega arith) (omega arith) in
    record {
      cell = q;
      is = sym (cell-within x t u) ∙ f;
      low = omega arith;
      high = omega arith;
      deep = let z : 201326592 ≤ q = fewer 201326592 q (omega arith) in omega arith;
      small = fewer q (268435456 + 67108864) (omega arith);
    }

-- ---- ranges: one holds the cell n, or the cell and `extra` cells above it end at or below the range's lower end, or the cell begins above its upper end
pub data Place (lo hi : Float) (a : Axis) (n extra : ℕ) : Type 0 where
  held_at : Held a (numbered n) → Place lo hi a n extra
  under-it : (n + extra) * one + under lo ≤ over lo + 268435456 * one → Place lo hi a n extra
  over-it : over hi + 268435456 * one ≤ n * one + under hi → Place lo hi a n extra

pub in_cells : (lo hi : Float) (n : ℕ) → Floor lo → Floor hi → Place lo hi (cells_between lo hi) n 1
in_cells lo hi n L H = go (dec_le L.cell n) (dec_le n H.cell)
  where
    go : Dec (L.cell ≤ n) → Dec (n ≤ H.cell) → Place lo hi (cells_between lo hi) n 1
    go (yes a) (yes b) =
        let s = H.small in
        let d = L.deep in
        held_at (held (cell_of lo) (cell_of hi) L.cell H.cell n L.is H.is a b (omega arith) (omega arith))
    go (no a) b = let l = L.low in let m : (n + 1) * one ≤ L.cell * one = mul-le-mul_right one (let z : n + 1 ≤ L.cell = omega arith in z) in under-it (omega arith)
    go (yes a) (no b) = let h = H.high in let m : (H.cell + 1) * one ≤ n * one = mul-le-mul_right one (let z : H.cell + 1 ≤ n = omega arith in z) in over-it (omega arith)

pub in-layers : (lo hi : Float) (n : ℕ) → Floor lo → Floor hi → Place lo hi (layers_between lo hi) n 2
in-layers lo hi n L H = go (dec_le L.cell (n + 1)) (dec_le n H.cell)
  where
    go : Dec (L.cell ≤ n + 1) → Dec (n ≤ H.cell) → Place lo hi (layers_between lo hi) n 2
    go (yes a) (yes b) =
        let s = H.small in
        let d = L.deep in
        let l = L.cell - 1 in
        let e : numbered L.cell ≡ numbered l +ℤ pos 1 = ap numbered (let z : L.cell ≡ L.cell - 1 + 1 = omega arith in z) ∙ sym (subℕ-add l (2 ^ 28) 1) in
        held_at (held (cell_of lo -ℤ pos 1) (cell_of hi) l H.cell n (ap (λ (z : ℤ). z -ℤ pos 1) (L.is ∙ e) ∙ +ℤ-neg_ℤ_cancel (numbered l) (pos 1)) H.is (omega arith) b (omega arith) (omega arith))
    go (no a) b = let l = L.low in let m : (n + 2) * one ≤ L.cell * one = mul-le-mul_right one (let z : n + 2 ≤ L.cell = omega arith in z) in under-it (omega arith)
    go (yes a) (no b) = let h = H.high in let m : (H.cell + 1) * one ≤ n * one = mul-le-mul_right one (let z : H.cell + 1 ≤ n = omega arith in z) in over-it (omega arith)

-- ---- the origin of a cell
pub record Origin (o : Float) (n : ℕ) : Type 0 where
  pub real : Real o
  pub is : over o + 268435456 * one ≡ n * one + under o

-- 4096 times 2 ^ 1062 is 2 ^ 1074
one_at : (x : Float) (p n : ℕ) → At 4096 x p n → At one x (p * 2 ^ 1062) (n * 2 ^ 1062)
unfolding one
one_at x p n h = at-times 4096 (2 ^ 1062) x p n h

one-parts : one ≡ 4096 * 2 ^ 1062
unfolding one
one-parts = refl

pub origin-of : (n : ℕ) → n < 2 ^ 29 → Origin (of_int binary64 (numbered n)) n
origin-of n h =
    let x : Float = of_int binary64 (numbered n) in
    let o = one_at x (4096 * n) base (origin-at n h) in
    let r : Real x = record { fit = of_int-fits binary64 (numbered n); finite = at-finite one x (4096 * n * 2 ^ 1062) (base * 2 ^ 1062) o } in
    record { real = r; is = same n (over x) (under x) one (2 ^ 1062) one-parts (at-unique one x (over x) (under x) (4096 * n * 2 ^ 1062) (base * 2 ^ 1062) (own-one r) o) }
  where
    same : (n p m c k : ℕ) → c ≡ 4096 * k → p + base * k ≡ 4096 * n * k + m → p + 268435456 * c ≡ n * c + m
    same n p m c k e f = let g : n * c ≡ n * (4096 * k) = ap (λ (z : ℕ). n * z) e in omega arith
