-- Tests against zero, of a value that is ±a / c. Assumes nothing.
use mathlib.Core.Path.{◌≡◌, refl, sym, ap, ◌∙◌, subst}
use Prim.Native.Nat.{ℕ, ◌+◌, ◌*◌, ◌≤◌, ◌<◌}
use native.Mathlib.Nat.{mul-one, zero-mul, eq_of_mul-eq-mul_right}
use native.Mathlib.Omega.{arith}
use mathlib.Core.Bool.{Bool, true, false, ◌&&◌, ◌||◌, beq, true≢false}
use lib.IntN.{pos}
use lib.Dec.{T, ltb, eqb, eqb→eq, ltb→lt}
use lib.Ieee.{Float, nan, inf, fin, up, down, eq, lt}
use lib.Ieee.Fits.{down_pos, and_l}
use lib.Ieee.Exact.{HasValue}
use borrow.Author.Tests.{ltb-false, eq-eqb}

abbrev pub zero_f : Float
zero_f = fin false 0 (pos 0)

zero-num : (a c p d : ℕ) → 0 < d → p * c ≡ a * d → p ≡ 0 → a ≡ 0
zero-num a c p d D h z = eq_of_mul-eq-mul_right d D a 0 (sym h ∙ ap (λ (x : ℕ). x * c) z ∙ zero-mul c ∙ sym (zero-mul d))

both : (p q r : Bool) → p ≡ true → r ≡ true → p && (q || r) ≡ true
both true true r h k = refl
both true false r h k = k
both false q r h k = h

holds : (b : Bool) → b ≡ true → T b
holds b h = subst T (sym h) tt

pub is_zero : (x : Float) (s : Bool) (a c : ℕ) → HasValue x s a c → eq x zero_f ≡ true → a ≡ 0
unfolding eq
is_zero nan s a c v h = absurd v
is_zero (inf t) s a c v h = absurd v
is_zero (fin t m e) s a c v h =
    let p : Bool = eqb (m * up e * 1) (0 * down e) in
    let q : Bool = beq t false || eqb (m * up e * 1) 0 in
    zero-num a c (m * up e) (down e) (down_pos e) v.1 (sym (mul-one (m * up e)) ∙ eqb→eq (m * up e * 1) (0 * down e) (and_l p q (holds (p && q) h)) ∙ zero-mul (down e))

pub not-zero : (x : Float) (s : Bool) (a c : ℕ) → 0 < c → HasValue x s a c → eq x zero_f ≡ false → a ≡ 0 → ⊥
unfolding eq
not-zero nan s a c C v h z = absurd v
not-zero (inf t) s a c C v h z = absurd v
not-zero (fin t m e) s a c C v h z =
    let y : m * up e * 1 ≡ 0 = mul-one (m * up e) ∙ zero-num (m * up e) (down e) a c C (sym v.1) z in
    true≢false (sym (both (eqb (m * up e * 1) (0 * down e)) (beq t false) (eqb (m * up e * 1) 0) (eq-eqb (m * up e * 1) (0 * down e) (y ∙ sym (zero-mul (down e)))) (eq-eqb (m * up e * 1) 0 y)) ∙ h)

pub below-zero : (x : Float) (s : Bool) (a c : ℕ) → HasValue x s a c → lt x zero_f ≡ true → s ≡ true
unfolding lt
below-zero nan s a c v h = absurd v
below-zero (inf t) s a c v h = absurd v
below-zero (fin true m e) s a c v h = sym v.0
below-zero (fin false m e) s a c v h = absurd (none (m * up e * 1) (0 * down e) (zero-mul (down e)) (ltb→lt (m * up e * 1) (0 * down e) (holds (ltb (m * up e * 1) (0 * down e)) h)))
  where
    none : (x y : ℕ) → y ≡ 0 → x < y → ⊥
    none x y z l = omega arith

pub not-below-zero : (x : Float) (s : Bool) (a c : ℕ) → HasValue x s a c → lt x zero_f ≡ false → (a ≡ 0 → ⊥) → s ≡ false
unfolding lt
not-below-zero nan s a c v h n = absurd v
not-below-zero (inf t) s a c v h n = absurd v
not-below-zero (fin false m e) s a c v h n = sym v.0
not-below-zero (fin true m e) s a c v h n =
    absurd (n (zero-num a c (m * up e) (down e) (down_pos e) v.1 (none (m * up e) (m * up e * 1) (0 * down e) (mul-one (m * up e)) (ltb-false 0 (m * up e * 1 + 0 * down e) h))))
  where
    none : (z x y : ℕ) → x ≡ z → x + y ≤ 0 → z ≡ 0
    none z x y e l = omega arith
