-- The value of the bit pattern that `sqrt` reads, in units of 2 ^ -1074. Assumes nothing.
use mathlib.Core.Path.{◌≡◌, refl, sym, ap, subst, ◌∙◌}
use Prim.Native.Nat.{ℕ, zero, suc, ◌+◌, ◌*◌, ◌/◌, ◌%◌, ◌^◌, ◌<◌}
use native.Mathlib.Nat.{mul-one, mod-eq_of_lt, mul-pos}
use lib.Pow.{pow_pos}
use lib.Ieee.Fits.{up_pos}
use native.Mathlib.Omega.{arith}
use mathlib.Core.Bool.{Bool, true, false, not, cond}
use lib.IntN.{ℤ}
use lib.Dec.{T, leb, eqb, nleb→lt, lit<}
use lib.Ieee.{Float, nan, inf, fin, binary64, up, down, odd, of_fields, of_bits, to_bits, fits}
use lib.Ieee.Bits.{of_bits-to_bits, to_bits-lt}
use lib.Ieee.Exact.{HasValue, odd_sign}
use lib.Ieee.Scale.{finite}
use Rattle.roots.specs.Steps.{units_at, units_of}

no_number : (b s : Bool) (m : ℕ) (e : ℤ) → cond b (inf s) nan ≡ fin false (suc m) e → ⊥
no_number true s m e p = subst (λ (y : Float). T (finite y)) (sym p) tt
no_number false s m e p = subst (λ (y : Float). T (finite y)) (sym p) tt

not-ones : (x : ℕ) → suc x < 2048 → eqb (suc x) 2047 ≡ false → suc x < 2047
not-ones x h q = at (λ p. subst T (sym (ap (λ (y : ℕ). eqb y 2047) p) ∙ q) tt)
  where
    at : (suc x ≡ 2047 → ⊥) → suc x < 2047
    at f = omega arith

-- what the fields of a number above zero are
pub read : (s : Bool) (E t m : ℕ) (e : ℤ) → E < 2048 → of_fields binary64 s E t ≡ fin false (suc m) e → (s ≡ false) × (E < 2047) × (suc m * up e * 2 ^ 1074 ≡ units_at E t * down e)
unfolding of_fields units_at
read s zero t m e h p =
    let v : HasValue (fin false (suc m) e) s (t * 2 ^ 0) (2 ^ 1074) = subst (λ (y : Float). HasValue y s (t * 2 ^ 0) (2 ^ 1074)) p (odd_sign 53 s t 0 1074) in
    (sym v.0, lit< tt, v.1 ∙ ap (λ (y : ℕ). y * down e) (mul-one t))
read s (suc x) t m e h p = go (eqb (suc x) 2047) refl p
  where
    go : (b : Bool) → eqb (suc x) 2047 ≡ b → cond b (cond (eqb t 0) (inf s) nan) (odd 53 s (2 ^ 52 + t) x 1074) ≡ fin false (suc m) e
        → (s ≡ false) × (suc x < 2047) × (suc m * up e * 2 ^ 1074 ≡ (2 ^ 52 + t) * 2 ^ x * down e)
    go true q p = absurd (no_number (eqb t 0) s m e p)
    go false q p =
        let v : HasValue (fin false (suc m) e) s ((2 ^ 52 + t) * 2 ^ x) (2 ^ 1074) = subst (λ (y : Float). HasValue y s ((2 ^ 52 + t) * 2 ^ x) (2 ^ 1074)) p (odd_sign 53 s (2 ^ 52 + t) x 1074) in
        (sym v.0, not-ones x h q, v.1)

pub record Pattern (b m : ℕ) (e : ℤ) : Type 0 where
  pub positive : 0 < b
  pub finite : b < 2047 * 2 ^ 52
  pub value : suc m * up e * 2 ^ 1074 ≡ units_of b * down e

units-none : (b : ℕ) → b ≡ 0 → units_of b ≡ 0
unfolding units_at
units-none b h = ap units_of h

some : (m : ℕ) (u d x l : ℕ) → 0 < u → 0 < l → suc m * u * l ≡ x * d → x ≡ 0 → ⊥
some m u d x l p q e z = let f : 0 < u * l = mul-pos p q in omega (arith, ap (λ (y : ℕ). y * d) z)

pub pattern : (m : ℕ) (e : ℤ) → T (fits binary64 (fin false (suc m) e)) → Pattern (to_bits binary64 (fin false (suc m) e)) m e
unfolding of_bits
pattern m e h = at (to_bits binary64 (fin false (suc m) e)) (to_bits-lt binary64 (fin false (suc m) e) h) (of_bits-to_bits binary64 (fin false (suc m) e) h)
  where
    at : (b : ℕ) → b < 2 ^ 64 → of_fields binary64 (leb (2 ^ 63) b) (b % 2 ^ 63 / 2 ^ 52) (b % 2 ^ 52) ≡ fin false (suc m) e → Pattern b m e
    at b l p =
        let r = read (leb (2 ^ 63) b) (b % 2 ^ 63 / 2 ^ 52) (b % 2 ^ 52) m e (omega arith) p in
        let small : b < 2 ^ 63 = nleb→lt (2 ^ 63) b (subst (λ (y : Bool). T (not y)) (sym r.0) tt) in
        let same : b % 2 ^ 63 ≡ b = mod-eq_of_lt small in
        let value : suc m * up e * 2 ^ 1074 ≡ units_of b * down e = r.2 ∙ ap (λ (y : ℕ). units_at (y / 2 ^ 52) (b % 2 ^ 52) * down e) same in
        let E : b % 2 ^ 63 / 2 ^ 52 < 2047 = r.1 in
        record {
          positive = pos_of (λ z. some m (up e) (down e) (units_of b) (2 ^ 1074) (up_pos e) (pow_pos 1074) value (units-none b z));
          finite = fin-of b (b % 2 ^ 63) same E;
          value = value;
        }
      where
        pos_of : (b ≡ 0 → ⊥) → 0 < b
        pos_of f = omega arith

        fin-of : (b y : ℕ) → y ≡ b → y / 2 ^ 52 < 2047 → b < 2047 * 2 ^ 52
        fin-of b y p q = omega arith
