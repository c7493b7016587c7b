-- What `halved_at` does with a number m * 2 ^ k of the smallest number's units: m's highest bit is brought to bit 52, and the exponent is halved. Assumes nothing.
use mathlib.Core.Path.{◌≡◌, refl, sym, ap, subst, ◌∙◌}
use Prim.Native.Nat.{ℕ, zero, suc, ◌+◌, ◌-◌, ◌*◌, ◌/◌, ◌%◌, ◌^◌, ◌≤◌, ◌<◌}
use native.Mathlib.Nat.{mul-le-mul_left, mul-le-mul_right, le_trans, le_of_lt, le_of_eq, lt_of_not-le, lt_of_lt_of_le, lt_of_le_of_lt, not-le_of_lt, mul_assoc, mod-eq_of_lt, mul-lt-mul_of_pos_right}
use native.Mathlib.Omega.{arith}
use lib.Pow.{pow-add, pow_mono, pow_pos, shl_lt}
use lib.Count.{count_leading_zeros, leading_top}
use Rattle.roots.specs.Steps.{Nearest, Halves, RootBits}

pow_lt_cancel : (a b : ℕ) → 2 ^ a < 2 ^ b → a < b
pow_lt_cancel a b h = lt_of_not-le (λ (g : b ≤ a). not-le_of_lt h (pow_mono g))

-- m's highest bit is z places below bit 52, for z eleven less than the count of its leading zeros among 64 bits
pub record Norm (m l : ℕ) : Type 0 where
  pub eleven : 11 ≤ l
  pub small : l - 11 ≤ 52
  pub low : 2 ^ 52 ≤ m * 2 ^ (l - 11)
  pub high : m * 2 ^ (l - 11) < 2 ^ 53

pub norm : (m : ℕ) → 0 < m → m < 2 ^ 53 → Norm m (count_leading_zeros 64 m)
norm m p h =
    let l = count_leading_zeros 64 m in
    let top = leading_top 64 m p (omega arith) in
    let j = top.0 in
    let jl : j < 53 = pow_lt_cancel j 53 (lt_of_le_of_lt top.2 h) in
    let e : l + suc j ≡ 64 = top.1 in
    let up : 52 ≤ j + (l - 11) = omega arith in
    let down : suc j + (l - 11) ≤ 53 = omega arith in
    record {
      eleven = omega arith;
      small = omega arith;
      low = le_trans (pow_mono up) (le_trans (le_of_eq (pow-add 2 j (l - 11))) (mul-le-mul_right (2 ^ (l - 11)) top.2));
      high = lt_of_lt_of_le (shl_lt {a = m} (suc j) (l - 11) top.3) (pow_mono down);
    }

-- one place further, or none
once_more : (x o : ℕ) → 2 ^ 52 ≤ x → x < 2 ^ 53 → o < 2 → (2 ^ 52 ≤ x * 2 ^ o) × (x * 2 ^ o < 2 ^ 54)
once_more x zero l h q = (omega arith, omega arith)
once_more x (suc zero) l h q = (omega arith, omega arith)
once_more x (suc (suc o)) l h q = let no : ⊥ = omega arith in absurd no

same : (m k z a : ℕ) → k + 1074 ≡ z + 52 + (a + a) → m * 2 ^ k * 2 ^ 1074 ≡ m * 2 ^ z * 2 ^ 52 * (2 ^ a * 2 ^ a)
same m k z a h =
    mul_assoc m (2 ^ k) (2 ^ 1074)
    ∙ ap (λ (x : ℕ). m * x) (sym (pow-add 2 k 1074) ∙ ap (λ (x : ℕ). 2 ^ x) h ∙ pow-add 2 (z + 52) (a + a) ∙ ap (λ (x : ℕ). x * 2 ^ (a + a)) (pow-add 2 z 52) ∙ ap (λ (x : ℕ). 2 ^ z * 2 ^ 52 * x) (pow-add 2 a a))
    ∙ sym (mul_assoc m (2 ^ z * 2 ^ 52) (2 ^ a * 2 ^ a))
    ∙ ap (λ (x : ℕ). x * (2 ^ a * 2 ^ a)) (sym (mul_assoc m (2 ^ z) (2 ^ 52)))

-- ---- the bounds of a nearest root

pub nearest-low : (m q : ℕ) → 2 ^ 104 ≤ m → Nearest m q → 2 ^ 52 ≤ q
nearest-low m q l r = lt-of-not-le' (λ g. no g r.above)
  where
    lt-of-not-le' : (q < 2 ^ 52 → ⊥) → 2 ^ 52 ≤ q
    lt-of-not-le' f = omega arith

    no : q < 2 ^ 52 → m ≤ q * q + q → ⊥
    no g a = let p : q * q ≤ (2 ^ 52 - 1) * q = mul-le-mul_right q (omega arith) in omega arith

-- D stands for 2 ^ 53: `omega` does not go far with numerals of 30 digits
not-above : (D m q : ℕ) → m < D * D → q * q < m + q → D < q → ⊥
not-above D m q h b g =
    let p : suc D * q ≤ q * q = mul-le-mul_right q g in
    let r : D * D ≤ D * q = mul-le-mul_left D (le_of_lt g) in
    omega arith

pub nearest-high : (m q : ℕ) → m < 2 ^ 106 → Nearest m q → q ≤ 2 ^ 53
nearest-high m q l r = only (not-above (2 ^ 53) m q l r.below)
  where
    only : (2 ^ 53 < q → ⊥) → q ≤ 2 ^ 53
    only f = omega arith

-- ---- what `halved_at` and `root_bits` return

-- the shifted m, which the machine cuts to 64 bits, with half of the exponent
pub halves : (m k z : ℕ) → z ≤ 52 → 2 ^ 52 ≤ m * 2 ^ z → m * 2 ^ z < 2 ^ 53 → k < 2046
    → Halves (m * 2 ^ k) ((m * 2 ^ (z + (k + 1074 - z) % 2)) % 2 ^ 64) ((k + 1074 - z) / 2 - 26)
halves m k z f l h s =
    let o = (k + 1074 - z) % 2 in
    let a = (k + 1074 - z) / 2 - 26 in
    let two : o < 2 = omega arith in
    let d : m * 2 ^ (z + o) ≡ m * 2 ^ z * 2 ^ o = ap (λ (x : ℕ). m * x) (pow-add 2 z o) ∙ sym (mul_assoc m (2 ^ z) (2 ^ o)) in
    let n = once_more (m * 2 ^ z) o l h two in
    let low : 2 ^ 52 ≤ m * 2 ^ (z + o) = subst (λ (x : ℕ). 2 ^ 52 ≤ x) (sym d) n.0 in
    let high : m * 2 ^ (z + o) < 2 ^ 54 = subst (λ (x : ℕ). x < 2 ^ 54) (sym d) n.1 in
    let whole : (m * 2 ^ (z + o)) % 2 ^ 64 ≡ m * 2 ^ (z + o) = mod-eq_of_lt (omega arith) in
    subst (λ (x : ℕ). Halves (m * 2 ^ k) x a) (sym whole) record {
      same = same m k (z + o) a (halved (k + 1074) z f (omega arith));
      low = low;
      high = high;
      small = omega arith;
    }
  where
    halved : (c z : ℕ) → z ≤ 52 → 1074 ≤ c → c ≡ z + (c - z) % 2 + 52 + ((c - z) / 2 - 26 + ((c - z) / 2 - 26))
    halved c z h l = omega arith

pub root-bits : (x n k q : ℕ) → Halves x n k → Nearest (n * 2 ^ 52) q → RootBits x (k * 2 ^ 52 + q)
root-bits x n k q h r =
    record {
      m = n * 2 ^ 52;
      q = q;
      k = k;
      bits = refl;
      is = record {
        same = h.same;
        root = r;
        low = mul-le-mul_right (2 ^ 52) h.low;
        high = mul-lt-mul_of_pos_right h.high (pow_pos 52);
        small = h.small;
      };
    }

-- the bits of a root are those of a finite number
pub bits-le : (x r : ℕ) → RootBits x r → r ≤ 2001 * 2 ^ 52
bits-le x r p = at p.q p.k (nearest-high p.m p.q p.is.high p.is.root) p.is.small p.bits
  where
    at : (q k : ℕ) → q ≤ 2 ^ 53 → k < 2000 → r ≡ k * 2 ^ 52 + q → r ≤ 2001 * 2 ^ 52
    at q k a b c = omega arith
