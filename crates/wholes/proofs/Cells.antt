-- The reach of `cell`, and its definition's four ways; what two tests against a power of two say of a number's size. Assumes nothing.
use mathlib.Core.Path.{◌≡◌, refl, sym, ap, ◌∙◌, subst}
use Prim.Native.Nat.{ℕ, zero, suc, ◌+◌, ◌-◌, ◌*◌, ◌^◌, ◌≤◌, ◌<◌}
use mathlib.Core.Logic.{inl, inr}
use native.Mathlib.Nat.{zero-lt-suc, mul-one, mul-pos, le_of_mul-le-mul_right, le_trans, le_refl, le-suc, le_of_lt, lt_of_lt_of_le, lt_of_le_of_lt, lt_irrefl, eq-or-lt_of_le, le-add_right, le-add_left, le_of_suc-le-suc, div-lt_iff_lt-mul, div-mul-le_self}
use native.Mathlib.Omega.{arith}
use mathlib.Core.Bool.{Bool, true, false, not, ◌&&◌, ◌||◌, true≢false, false≢true}
use lib.IntN.{ℤ, pos, negsuc}
use lib.Signed.{mag}
use lib.Dec.{T, ltb, leb, eqb, leb→le, nleb→lt, lit≤, lit<}
use lib.Ieee.{Float, nan, inf, fin, up, down, le}
use lib.Ieee.Fits.{down_pos}
use lib.Pow.{pow_pos}
use mir.Syntax.{w32}
use mir.Val.{SFits}
use borrow.Author.Rules.{sfits_of}
use borrow.Author.Tests.{le-ltb, lt-ltb, eq-eqb, ne_eqb}
use Rattle.base.specs.Choose.{choose}
use Rattle.wholes.specs.Whole.{floor_size, floor_int, signed_of, cell_of}

abbrev pub reach : ℕ
reach = 67108864

-- ---- finite, and of size at most n
unfoldable pub within : ℕ → Float → Bool
within n nan = false
within n (inf s) = false
within n (fin s m e) = leb (m * up e) (n * down e)

abbrev pub in_reach : Float → Bool
in_reach x = within 67108864 x

abbrev pub top : Float
top = fin false 1 (pos 26)

abbrev pub bottom : Float
bottom = fin true 1 (pos 26)

or-true : (p : Bool) → p ≡ true → (q : Bool) → p || q ≡ true
or-true true h q = refl
or-true false h q = absurd (false≢true h)

or-last : (p q : Bool) → q ≡ true → p || (q && true) ≡ true
or-last true q h = refl
or-last false true h = refl
or-last false false h = h

or-none : (p q : Bool) → p ≡ false → q ≡ false → p || (q && true) ≡ false
or-none true q h k = absurd (true≢false h)
or-none false true h k = absurd (true≢false k)
or-none false false h k = refl

-- a ≤ b as `le` has it of two values that are not negative, and of two that are
le_is : (a b p q : ℕ) → (a ≡ b → p ≡ q) → (p ≡ q → a ≡ b) → ltb a b || (eqb p q && true) ≡ leb a b
le_is a b p q f g = go (leb a b) (leb→le a b) (nleb→lt a b)
  where
    go : (r : Bool) → (T r → a ≤ b) → (T (not r) → b < a) → ltb a b || (eqb p q && true) ≡ r
    go true y n = elim (eq-or-lt_of_le (y tt)) [ inl e ↦ or-last (ltb a b) (eqb p q) (eq-eqb p q (f e)) | inr l ↦ or-true (ltb a b) (lt-ltb a b l) (eqb p q && true) ]
    go false y n = or-none (ltb a b) (eqb p q) (le-ltb a b (le_of_lt (n tt))) (ne_eqb p q (λ (e : p ≡ q). lt_irrefl b (subst (λ (z : ℕ). b < z) (g e) (n tt))))

holds : (b : Bool) → T b → b ≡ true
holds true t = refl
holds false t = absurd t

-- tests against 2 ^ k, on either side
module _ (k : ℕ) where
  within-under : (x : Float) → le x (fin false 1 (pos k)) ≡ true → le (fin true 1 (pos k)) x ≡ within (1 * 2 ^ k) x
  unfolding le within
  within-under nan h = refl
  within-under (inf true) h = refl
  within-under (inf false) h = absurd (false≢true h)
  within-under (fin false m e) h =
      let a = m * up e in
      let b = 1 * 2 ^ k * down e in
      let p : 0 < b = mul-pos (mul-pos (zero-lt-suc 0) (pow_pos k)) (down_pos e) in
      or-true (ltb 0 (b + a * 1)) (lt-ltb 0 (b + a * 1) (lt_of_lt_of_le p (le-add_right b (a * 1)))) (eqb b (a * 1) && (false || eqb b 0))
      ∙ sym h
      ∙ le_is (a * 1) b (a * 1) b (λ h. h) (λ h. h)
      ∙ ap (λ (x : ℕ). leb x b) (mul-one a)
  within-under (fin true m e) h =
      let a = m * up e in
      let b = 1 * 2 ^ k * down e in
      le_is (a * 1) b b (a * 1) sym sym ∙ ap (λ (x : ℕ). leb x b) (mul-one a)

  pub within_by : (x : Float) → le x (fin false 1 (pos k)) ≡ true → le (fin true 1 (pos k)) x ≡ true → T (within (1 * 2 ^ k) x)
  within_by x h g = subst T (sym (sym (within-under x h) ∙ g)) tt

  -- and the other way round
  pub tests-of : (x : Float) → T (within (1 * 2 ^ k) x) → (le x (fin false 1 (pos k)) ≡ true) × (le (fin true 1 (pos k)) x ≡ true)
  unfolding le within
  tests-of nan t = absurd t
  tests-of (inf s) t = absurd t
  tests-of (fin false m e) t =
      let l : le (fin false m e) (fin false 1 (pos k)) ≡ true = le_is (m * up e * 1) (1 * 2 ^ k * down e) (m * up e * 1) (1 * 2 ^ k * down e) (λ h. h) (λ h. h) ∙ ap (λ (x : ℕ). leb x (1 * 2 ^ k * down e)) (mul-one (m * up e)) ∙ holds (leb (m * up e) (1 * 2 ^ k * down e)) t in
      (l, within-under (fin false m e) l ∙ holds (leb (m * up e) (1 * 2 ^ k * down e)) t)
  tests-of (fin true m e) t =
      let a = m * up e in
      let b = 1 * 2 ^ k * down e in
      let p : 0 < b = mul-pos (mul-pos (zero-lt-suc 0) (pow_pos k)) (down_pos e) in
      let l : le (fin true m e) (fin false 1 (pos k)) ≡ true = or-true (ltb 0 (a * 1 + b)) (lt-ltb 0 (a * 1 + b) (lt_of_lt_of_le p (le-add_left b (a * 1)))) (eqb (a * 1) b && (false || eqb (a * 1) 0)) in
      (l, within-under (fin true m e) l ∙ holds (leb a b) t)

pub reached-by : (x : Float) → le x top ≡ true → le bottom x ≡ true → T (in_reach x)
reached-by x h k = within_by 26 x h k

-- ---- for a caller that narrows the index
pub reached : (s : Bool) (m : ℕ) (e : ℤ) → T (in_reach (fin s m e)) → m * up e ≤ reach * down e
unfolding within
reached s m e t = leb→le (m * up e) (reach * down e) t

mag-signed : (s : Bool) (n : ℕ) → mag (signed_of s n) ≤ n
mag-signed false n = le_refl n
mag-signed true zero = le_refl 0
mag-signed true (suc n) = le-suc n

pub size-reach : (s : Bool) (a c : ℕ) → 0 < c → a ≤ reach * c → floor_size s a c ≤ reach
unfolding floor_size
size-reach false a c C h = le_of_mul-le-mul_right (le_trans (div-mul-le_self a c) h) C
size-reach true a c C h =
    let l : a + (c - 1) < 67108865 * c = omega arith in
    le_of_suc-le-suc ((div-lt_iff_lt-mul C).1 l)

pub floor-reach : (x : Float) → T (in_reach x) → mag (floor_int x) ≤ reach
unfolding floor_int
floor-reach nan t = unfold within in absurd t
floor-reach (inf s) t = unfold within in absurd t
floor-reach (fin s m e) t =
    le_trans (mag-signed s (floor_size s (m * up e) (down e))) (size-reach s (m * up e) (down e) (down_pos e) (reached s m e t))

pub narrow : (x : Float) → T (in_reach x) → SFits w32 (floor_int x)
narrow x t = sfits_of (lt_of_le_of_lt (floor-reach x t) (lit< tt))

-- ---- the definition's four ways
pub cell-within : (x : Float) → le x top ≡ true → le bottom x ≡ true → floor_int x ≡ cell_of x
unfolding cell_of choose
cell-within x h k = rw (h, k)

pub cell-in-reach : (x : Float) → T (in_reach x) → floor_int x ≡ cell_of x
cell-in-reach x t = let l = tests-of 26 x t in cell-within x l.0 l.1

pub cell-before : (x : Float) → le x top ≡ true → le bottom x ≡ false → negsuc 67108863 ≡ cell_of x
unfolding cell_of choose
cell-before x h k = rw (h, k)

pub cell-beyond : (x : Float) → le x top ≡ false → pos 67108864 ≡ cell_of x
unfolding cell_of choose
cell-beyond x h = rw h

-- a cell lies within the reach
pub cell-reach : (x : Float) → mag (cell_of x) ≤ 67108864
unfolding cell_of choose
cell-reach x = go (le x top) (le bottom x) refl refl
  where
    go : (p q : Bool) → le x top ≡ p → le bottom x ≡ q → mag (choose p (choose q (floor_int x) (negsuc 67108863)) (pos 67108864)) ≤ 67108864
    go true true h k = floor-reach x (reached-by x h k)
    go true false h k = lit≤ tt
    go false q h k = lit≤ tt
