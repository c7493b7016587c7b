-- What confirms a proposed whole root or quotient, or a neighbour of it, and the turns of `root_by_bits`, which needs no proposal. Assumes nothing.
use mathlib.Core.Path.{◌≡◌, sym, ap, subst, ◌∙◌}
use Prim.Native.Nat.{ℕ, zero, suc, ◌+◌, ◌-◌, ◌*◌, ◌/◌, ◌%◌, ◌^◌, ◌≤◌, ◌<◌}
use native.Mathlib.Nat.{mul-le-mul_right, le_of_lt, zero-lt-suc, pow-succ', mod-eq_of_lt, one-mul, div-mul-le_self, lt-div-mul-add}
use native.Mathlib.Omega.{arith}
use lib.Pow.{pow_pos, pow-lt}

-- ---- squares

pub square-fits : (r : ℕ) → r < 2 ^ 32 → r * r < 2 ^ 64
square-fits r h = let l : r * r ≤ (2 ^ 32 - 1) * r = mul-le-mul_right r (omega arith) in omega arith

-- r is the whole part of the root of m
abbrev pub IsRoot : ℕ → ℕ → Type 0
IsRoot m r = (r * r ≤ m) × (m < (r + 1) * (r + 1))

pub root_below : (m s : ℕ) → m < s * s → s * s - m < s + s → IsRoot m (s - 1)
root_below m zero l h = omega arith
root_below m (suc s) l h = let e : suc s - 1 ≡ s = omega arith in subst (IsRoot m) (sym e) (omega arith, omega arith)

-- ---- the root bit by bit: the bits from k on stand in r
pub record Bits (m r k : ℕ) : Type 0 where
  pub low : r * r ≤ m
  pub high : m < (r + 2 ^ k) * (r + 2 ^ k)
  pub room : r + 2 ^ k ≤ 2 ^ 32
  pub few : k ≤ 32

pub no_bits : (m : ℕ) → m < 2 ^ 64 → Bits m 0 32
no_bits m h = record { low = omega arith; high = omega arith; room = omega arith; few = omega arith }

pub all-bits : (m r k : ℕ) → k ≤ 0 → Bits m r k → IsRoot m r
all-bits m r zero h b = (b.low, b.high)
all-bits m r (suc k) h b = omega arith

-- r with bit j, as the code has it
abbrev pub with_bit : ℕ → ℕ → ℕ
with_bit r j = r + 1 * 2 ^ j % 2 ^ 64

record Halved (r j : ℕ) : Type 0 where
  bit : with_bit r j ≡ r + 2 ^ j
  twice : 2 ^ suc j ≡ 2 ^ j + 2 ^ j
  some : 0 < 2 ^ j

halved : (r j : ℕ) → suc j ≤ 32 → Halved r j
halved r j l =
    let i : j < 64 = omega arith in
    let p : 2 ^ j < 2 ^ 64 = pow-lt i in
    let d : 2 ^ suc j ≡ 2 * 2 ^ j = pow-succ' 2 j in
    record {
      bit = ap (λ (x : ℕ). r + x % 2 ^ 64) (one-mul (2 ^ j)) ∙ ap (λ (x : ℕ). r + x) (mod-eq_of_lt p);
      twice = omega arith;
      some = pow_pos j;
    }

-- a turn at bit j, after those at the bits from k on
module _ (m r k j : ℕ) (J : k ≡ suc j) (before : Bits m r k) where
  at : Bits m r (suc j)
  at = subst (Bits m r) J before

  pub bit-room : with_bit r j < 2 ^ 32
  bit-room =
      let h = halved r j at.few in
      let l = at.room in
      omega arith

  -- n is j, as the loop counts it afterwards
  module _ (n : ℕ) (N : n ≡ j) where
    pub bit-set : with_bit r j * with_bit r j ≤ m → Bits m (with_bit r j) n
    bit-set l =
        let h = halved r j at.few in
        let e : r + 2 ^ suc j ≡ with_bit r j + 2 ^ j = omega arith in
        subst (Bits m (with_bit r j)) (sym N)
        record { low = l; high = subst (λ (x : ℕ). m < x * x) e at.high; room = subst (λ (x : ℕ). x ≤ 2 ^ 32) e at.room; few = let f = at.few in omega arith }

    pub bit-clear : m < with_bit r j * with_bit r j → Bits m r n
    bit-clear l =
        let h = halved r j at.few in
        let q = at.room in
        subst (Bits m r) (sym N)
        record { low = at.low; high = subst (λ (x : ℕ). m < x * x) h.bit l; room = omega arith; few = let f = at.few in omega arith }

-- ---- multiples

pub multiple-fits : (q d : ℕ) → q < 2 ^ 23 → d < 2 ^ 33 → q * d < 2 ^ 64
multiple-fits q d h l = let p : q * d ≤ 2 ^ 23 * d = mul-le-mul_right d (le_of_lt h) in omega arith

-- q is the whole part of a / d
abbrev pub IsQuotient : ℕ → ℕ → ℕ → Type 0
IsQuotient a d q = (q * d ≤ a) × (a < q * d + d)

pub quotient-below : (a d q : ℕ) → a < q * d → q * d - a ≤ d → IsQuotient a d (q - 1)
quotient-below a d zero l h = omega arith
quotient-below a d (suc q) l h = let e : suc q - 1 ≡ q = omega arith in subst (IsQuotient a d) (sym e) (omega arith, omega arith)

pub multiple-pos : (a d q : ℕ) → a < q * d → 0 < q
multiple-pos a d zero l = omega arith
multiple-pos a d (suc q) l = zero-lt-suc q

pub divided : (a d : ℕ) → 0 < d → IsQuotient a d (a / d)
divided a d D = (div-mul-le_self a d, lt-div-mul-add D)
