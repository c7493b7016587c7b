-- What the definitions of `specs/Whole.antt` come to: floor and ceiling are the whole numbers next to x (`floor-greatest`, `ceil-least`), exactly,
-- there is one such number (`brackets-one`), `cell_of` and `ceiling_of` are the same numbers as integers (`cell-is`, `ceiling-is`), and worked
-- examples. Assumes nothing.
use mathlib.Core.Path.{◌≡◌, refl, sym, ap, ◌∙◌, subst}
use Prim.Native.Nat.{ℕ, zero, suc, ◌+◌, ◌-◌, ◌*◌, ◌/◌, ◌^◌, ◌≤◌, ◌<◌}
use native.Mathlib.Nat.{zero-lt-suc, div-mul-le_self, lt-div-mul-add, div-one, div-le_self, le_trans, le_of_eq, le_of_lt, mul-one, add-zero, div-lt_iff_lt-mul, le_of_suc-le-suc, suc-mul, le-mul_of_pos_right, mul-le-mul_right}
use native.Mathlib.Decide.{dec_le}
use native.Mathlib.Omega.{arith}
use mathlib.Core.Bool.{Bool, true, false, not, ◌&&◌, ◌||◌, beq}
use lib.IntN.{ℤ, pos, negsuc, neg_ℤ, neg_ℤ-neg_ℤ, +ℤ_idl}
use lib.Dec.{T, eqb, lit≤}
use lib.Pow.{pow_pos}
use lib.Ieee.{Float, nan, inf, fin, binary64, up, down, round, neg, eq, of_int, fits}
use lib.Ieee.Fits.{down_pos}
use lib.Ieee.Exact.{HasValue}
use lib.Ieee.Back.{round_whole}
use Rattle.base.specs.Choose.{choose}
use borrow.Author.Tests.{eq-eqb}
use Rattle.base.proofs.Every.{and-true}
use Rattle.base.proofs.Values.{round-back, eq-common}
use Rattle.wholes.specs.Whole.{floor_size, ceil_size, floor_of, ceil_of, signed_of, floor_int, cell_of, ceiling_of, whole_f}
use Rattle.wholes.proofs.Rounding.{small}
use Rattle.wholes.proofs.Cells.{within, in_reach, reached, size-reach, cell-in-reach}

-- n is the size of the greatest whole number that is not above a / c; for the sign true, not above -(a / c): then -n ≤ -a / c < -n + 1
pub Brackets : Bool → ℕ → ℕ → ℕ → Type 0
Brackets false a c n = (n * c ≤ a) × (a < n * c + c)
Brackets true a c n = (a ≤ n * c) × (n * c < a + c)

pub brackets : (s : Bool) (a c : ℕ) → 0 < c → Brackets s a c (floor_size s a c)
unfolding Brackets floor_size
brackets false a c C = (div-mul-le_self a c, lt-div-mul-add C)
brackets true a c C =
    let b = a + (c - 1) in
    let lo : b / c * c ≤ b = div-mul-le_self b c in
    let hi : b < b / c * c + c = lt-div-mul-add C in
    (omega arith, omega arith)

pub brackets-one : (s : Bool) (a c n k : ℕ) → 0 < c → Brackets s a c n → Brackets s a c k → n ≡ k
unfolding Brackets
brackets-one s a c n k C p q = either (dec_le n k) (dec_le k n)
  where
    apart : (s : Bool) (n k : ℕ) → n < k → Brackets s a c n → Brackets s a c k → ⊥
    apart false n k h p q = let l : suc n * c ≤ k * c = mul-le-mul_right c h in omega arith
    apart true n k h p q = let l : suc n * c ≤ k * c = mul-le-mul_right c h in omega arith

    either : Dec (n ≤ k) → Dec (k ≤ n) → n ≡ k
    either (yes l) (yes g) = omega arith
    either (yes l) (no g) = absurd (apart s n k (omega arith) p q)
    either (no l) _ = absurd (apart s k n (omega arith) q p)

-- ---- nothing is rounded: t is the side, below or above
raised-le : (m c : ℕ) → 0 < c → (m + (c - 1)) / c ≤ m
raised-le m c C = le_of_suc-le-suc ((div-lt_iff_lt-mul C).1 (fit m c (m * c) (suc m * c) (suc-mul m c) (le-mul_of_pos_right m C) C))
  where
    fit : (m c p q : ℕ) → q ≡ p + c → m ≤ p → 0 < c → m + (c - 1) < q
    fit m c p q e h C = omega arith

size-le : (t : Bool) (m k : ℕ) → floor_size t (m * 1) (2 ^ suc k) ≤ m
unfolding floor_size
size-le false m k = le_trans (div-le_self (m * 1) (2 ^ suc k)) (le_of_eq (mul-one m))
size-le true m k = subst (λ (x : ℕ). (x + (2 ^ suc k - 1)) / 2 ^ suc k ≤ m) (sym (mul-one m)) (raised-le m (2 ^ suc k) (pow_pos (suc k)))

size-one : (t : Bool) (a : ℕ) → floor_size t a 1 ≡ a
unfolding floor_size
size-one false a = div-one a
size-one true a = div-one (a + 0) ∙ add-zero a

exact : (s t : Bool) (m : ℕ) (e : ℤ) → T (fits binary64 (fin s m e)) → HasValue (whole_f s (floor_size t (m * up e) (down e))) s (floor_size t (m * up e) (down e)) 1
exact s t m (pos k) h =
    subst (λ (n : ℕ). HasValue (round binary64 s n 1) s n 1) (sym (size-one t (m * 2 ^ k)))
    (subst (λ (x : Float). HasValue x s (m * 2 ^ k) 1) (sym (round-back binary64 s m (pos k) h)) (refl, refl))
exact s t m (negsuc k) h = round_whole binary64 s (floor_size t (m * 1) (2 ^ suc k)) (le_trans (size-le t m k) (le_of_lt (small binary64 s m (negsuc k) h)))

-- r is ±n, exactly, and of the sign s also where n is 0; n is the whole number next to ±a / c on the side t
pub record NextTo (t s : Bool) (a c : ℕ) (r : Float) : Type 0 where
  pub n : ℕ
  pub value : HasValue r s n 1
  pub next : Brackets t a c n

pub floor-greatest : (s : Bool) (m : ℕ) (e : ℤ) → T (fits binary64 (fin s m e)) → NextTo s s (m * up e) (down e) (floor_of (fin s m e))
unfolding floor_of
floor-greatest s m e h = record { n = floor_size s (m * up e) (down e); value = exact s s m e h; next = brackets s (m * up e) (down e) (down_pos e) }

pub ceil-least : (s : Bool) (m : ℕ) (e : ℤ) → T (fits binary64 (fin s m e)) → NextTo (not s) s (m * up e) (down e) (ceil_of (fin s m e))
unfolding ceil_of
ceil-least s m e h = record { n = floor_size (not s) (m * up e) (down e); value = exact s (not s) m e h; next = brackets (not s) (m * up e) (down e) (down_pos e) }

-- ---- the cell and the ceiling as integers are the floats' own whole numbers: equal as IEEE 754 has it, which is up to the sign of zero
same-level : (s : Bool) (n : ℕ) → eqb n n && (beq s s || eqb n 0) ≡ true
same-level true n = and-true (eqb n n) true (eq-eqb n n refl) refl
same-level false n = and-true (eqb n n) true (eq-eqb n n refl) refl

whole-int : (s : Bool) (n : ℕ) → n ≤ 2 ^ 53 → eq (of_int binary64 (signed_of s n)) (whole_f s n) ≡ true
unfolding of_int
whole-int false n h = eq-common (whole_f false n) (whole_f false n) false n false n 1 (zero-lt-suc 0) (round_whole binary64 false n h) (round_whole binary64 false n h) ∙ same-level false n
whole-int true zero h = eq-common (whole_f false 0) (whole_f true 0) false 0 true 0 1 (zero-lt-suc 0) (round_whole binary64 false 0 h) (round_whole binary64 true 0 h)
whole-int true (suc n) h =
    eq-common (whole_f true (suc n)) (whole_f true (suc n)) true (suc n) true (suc n) 1 (zero-lt-suc 0) (round_whole binary64 true (suc n) h) (round_whole binary64 true (suc n) h)
    ∙ same-level true (suc n)

whole-reach : (t s : Bool) (m : ℕ) (e : ℤ) → T (in_reach (fin s m e)) → floor_size t (m * up e) (down e) ≤ 2 ^ 53
whole-reach t s m e h = le_trans (size-reach t (m * up e) (down e) (down_pos e) (reached s m e h)) (lit≤ tt)

floor-int : (x : Float) → T (in_reach x) → eq (of_int binary64 (floor_int x)) (floor_of x) ≡ true
unfolding floor_int floor_of
floor-int nan t = unfold within in absurd t
floor-int (inf s) t = unfold within in absurd t
floor-int (fin s m e) t = whole-int s (floor_size s (m * up e) (down e)) (whole-reach s s m e t)

pub cell-is : (x : Float) → T (in_reach x) → eq (of_int binary64 (cell_of x)) (floor_of x) ≡ true
cell-is x t = ap (λ (i : ℤ). eq (of_int binary64 i) (floor_of x)) (sym (cell-in-reach x t)) ∙ floor-int x t

turned : (s : Bool) (n : ℕ) → neg_ℤ (signed_of (not s) n) ≡ signed_of s n
turned true n = refl
turned false n = neg_ℤ-neg_ℤ (pos n)

ceiling-at : (s : Bool) (m : ℕ) (e : ℤ) → T (in_reach (fin s m e)) → ceiling_of (fin s m e) ≡ signed_of s (ceil_size s (m * up e) (down e))
unfolding neg floor_int within
ceiling-at s m e t = +ℤ_idl (neg_ℤ (cell_of (fin (not s) m e))) ∙ ap neg_ℤ (sym (cell-in-reach (fin (not s) m e) t)) ∙ turned s (ceil_size s (m * up e) (down e))

pub ceiling-is : (x : Float) → T (in_reach x) → eq (of_int binary64 (ceiling_of x)) (ceil_of x) ≡ true
unfolding ceil_of
ceiling-is nan t = unfold within in absurd t
ceiling-is (inf s) t = unfold within in absurd t
ceiling-is (fin s m e) t =
    ap (λ (i : ℤ). eq (of_int binary64 i) (ceil_of (fin s m e))) (ceiling-at s m e t)
    ∙ whole-int s (ceil_size s (m * up e) (down e)) (whole-reach (not s) s m e t)

-- ---- worked examples

-- -0.25, -1, -0, and the largest half
quarter : floor_of (fin true 1 (negsuc 1)) ≡ fin true 1 (pos 0)
unfolding floor_of floor_size round
quarter = refl

minus_one : floor_of (fin true 1 (pos 0)) ≡ fin true 1 (pos 0)
unfolding floor_of floor_size round
minus_one = refl

minus-zero : floor_of (fin true 0 (pos 0)) ≡ fin true 0 (pos 0)
unfolding floor_of floor_size round
minus-zero = refl

largest-half : floor_of (fin true 9007199254740991 (negsuc 0)) ≡ fin true 1 (pos 52)
unfolding floor_of floor_size round
largest-half = refl

ceil-quarter : ceil_of (fin true 1 (negsuc 1)) ≡ fin true 0 (pos 0)
unfolding ceil_of floor_size round
ceil-quarter = refl

-- -0.25 as an integer, and 2.5
ceiling-quarter : ceiling_of (fin true 1 (negsuc 1)) ≡ pos 0
unfolding cell_of choose floor_int floor_size lib.Ieee.neg lib.Ieee.le lib.Ieee.lt lib.Ieee.eq
ceiling-quarter = refl

ceiling-above : ceiling_of (fin false 5 (negsuc 0)) ≡ pos 3
unfolding cell_of choose floor_int floor_size lib.Ieee.neg lib.Ieee.le lib.Ieee.lt lib.Ieee.eq
ceiling-above = refl

-- the cell of -2.5, and of what no window holds
cell_below : cell_of (fin true 5 (negsuc 0)) ≡ negsuc 2
unfolding cell_of choose floor_int floor_size lib.Ieee.le lib.Ieee.lt lib.Ieee.eq
cell_below = refl

cell-of-nan : cell_of nan ≡ pos 67108864
unfolding cell_of choose lib.Ieee.le lib.Ieee.lt lib.Ieee.eq
cell-of-nan = refl
