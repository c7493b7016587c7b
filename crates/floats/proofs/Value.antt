-- The value of a bit pattern by its fields, in units of 2 ^ -1074, and which patterns are no NaN's. Assumes nothing.
use mathlib.Core.Path.{◌≡◌, refl, sym, ap, subst, ◌∙◌}
use mathlib.Core.Logic.{◌⊎◌, inl, inr}
use Prim.Native.Nat.{ℕ, suc, ◌+◌, ◌-◌, ◌*◌, ◌/◌, ◌%◌, ◌^◌, ◌≤◌, ◌<◌}
use native.Mathlib.Nat.{eq-or-lt_of_le, pow-succ', mod-eq_of_lt}
use native.Mathlib.Omega.{arith}
use mathlib.Core.Bool.{Bool, true, false, not, cond}
use lib.Dec.{T, leb, ltb, eqb, eqb→eq, not_T, ltb→lt}
use lib.Arith.{lt→nleb}
use lib.Ieee.{Float, nan, inf, binary64, odd, of_fields, of_bits, nan_bits}
use lib.Ieee.Bits.{is_false, nan_bits_above}
use lib.Ieee.Exact.{HasValue, odd_sign}

normal : (x t : ℕ) → suc x < 2047 → HasValue (of_fields binary64 false (suc x) t) false ((2 ^ 52 + t) * 2 ^ x) (2 ^ 1074)
unfolding of_fields
normal x t h = go (eqb (suc x) 2047) refl
  where
    never : suc x ≡ 2047 → ⊥
    never p = omega arith

    go : (b : Bool) → eqb (suc x) 2047 ≡ b → HasValue (cond b (cond (eqb t 0) (inf false) nan) (odd 53 false (2 ^ 52 + t) x 1074)) false ((2 ^ 52 + t) * 2 ^ x) (2 ^ 1074)
    go true q = absurd (never (eqb→eq (suc x) 2047 (subst T (sym q) tt)))
    go false q = odd_sign 53 false (2 ^ 52 + t) x 1074

-- by its fields
by-fields : (r x t v : ℕ) → r < 2 ^ 63 → r / 2 ^ 52 ≡ suc x → r % 2 ^ 52 ≡ t → suc x < 2047 → (2 ^ 52 + t) * 2 ^ x ≡ v → HasValue (of_bits binary64 r) false v (2 ^ 1074)
unfolding of_bits
by-fields r x t v h p q l w =
    let is : of_fields binary64 (leb (2 ^ 63) r) (r % 2 ^ 63 / 2 ^ 52) (r % 2 ^ 52) ≡ of_fields binary64 false (suc x) t =
    ap (λ (y : Bool). of_fields binary64 y (r % 2 ^ 63 / 2 ^ 52) (r % 2 ^ 52)) (is_false (leb (2 ^ 63) r) (lt→nleb (2 ^ 63) r h))
    ∙ ap (λ (y : ℕ). of_fields binary64 false (y / 2 ^ 52) (r % 2 ^ 52)) (mod-eq_of_lt h)
    ∙ ap (λ (y : ℕ). of_fields binary64 false y (r % 2 ^ 52)) p
    ∙ ap (λ (y : ℕ). of_fields binary64 false (suc x) y) q in
    subst (λ (y : ℕ). HasValue (of_fields binary64 (leb (2 ^ 63) r) (r % 2 ^ 63 / 2 ^ 52) (r % 2 ^ 52)) false y (2 ^ 1074)) w
    (subst (λ (y : Float). HasValue y false ((2 ^ 52 + t) * 2 ^ x) (2 ^ 1074)) (sym is) (normal x t l))

pub written : (r k q : ℕ) → r ≡ k * 2 ^ 52 + q → 2 ^ 52 ≤ q → q ≤ 2 ^ 53 → k < 2000 → HasValue (of_bits binary64 r) false (q * 2 ^ k) (2 ^ 1074)
written r k q e lo hi s = go (eq-or-lt_of_le hi)
  where
    double : (p : ℕ) → (2 ^ 52 + 0) * (2 * p) ≡ 2 ^ 53 * p
    double p = omega arith

    go : (q ≡ 2 ^ 53) ⊎ (q < 2 ^ 53) → HasValue (of_bits binary64 r) false (q * 2 ^ k) (2 ^ 1074)
    go (inl z) =
        by-fields r (suc k) 0 (q * 2 ^ k) (omega arith) (omega arith) (omega arith) (omega arith)
        (ap (λ (y : ℕ). (2 ^ 52 + 0) * y) (pow-succ' 2 k) ∙ double (2 ^ k) ∙ ap (λ (y : ℕ). y * 2 ^ k) (sym z))
    go (inr l) =
        let b : 2 ^ 52 + (q - 2 ^ 52) ≡ q = omega arith in
        by-fields r k (q - 2 ^ 52) (q * 2 ^ k) (omega arith) (omega arith) (omega arith) (omega arith) (ap (λ (y : ℕ). y * 2 ^ k) b)

-- what `from_bits` asks
pub no_nan : (r : ℕ) → r ≤ 2001 * 2 ^ 52 → T (not (nan_bits binary64 r))
no_nan r h = subst (λ (y : Bool). T (not y)) (sym (nan_bits_above binary64 r)) (not_T (ltb (2047 * 2 ^ 52) (r % 2 ^ 63)) (λ t. at (ltb→lt (2047 * 2 ^ 52) (r % 2 ^ 63) t)))
  where
    at : 2047 * 2 ^ 52 < r % 2 ^ 63 → ⊥
    at l = omega arith
