-- The root of n * 2 ^ 52 from the whole root s of n * 2 ^ 10, by one quotient: what `rounded_root` computes. Assumes nothing.
use mathlib.Core.Path.{◌≡◌, refl}
use Prim.Native.Nat.{ℕ, ◌+◌, ◌-◌, ◌*◌, ◌^◌, ◌≤◌, ◌<◌}
use native.Mathlib.Nat.{mul-le-mul_left, mul-le-mul_right, le_of_mul-le-mul_right, le_trans, lt_of_not-le, lt_irrefl, lt_of_lt_of_le}
use native.Mathlib.Omega.{arith}
use Rattle.roots.specs.Steps.{Nearest}

square-mono : (a b : ℕ) → a ≤ b → a * a ≤ b * b
square-mono a b h = le_trans (mul-le-mul_left a h) (mul-le-mul_right b h)

-- a number whose square is below another's is below it
pub square-lt : (a b : ℕ) → a * a < b * b → a < b
square-lt a b h = lt_of_not-le (λ (g : b ≤ a). lt_irrefl (a * a) (lt_of_lt_of_le h (square-mono b a g)))

-- with s the whole root of n * 2 ^ 10
pub record Whole (n s : ℕ) : Type 0 where
  pub s-low : 2 ^ 31 ≤ s
  pub s-high : s < 2 ^ 32
  pub reached : s * s ≤ n * 1024
  pub rest : n * 1024 - s * s ≤ s + s

-- with q the quotient and u what is left: all that `rounded_root` asks and says
pub record Split (n s q : ℕ) : Type 0 where
  pub of : Whole n s
  pub under : q * (s + s) ≤ (n * 1024 - s * s) * 2 ^ 21
  pub left : (n * 1024 - s * s) * 2 ^ 21 - q * (s + s) < s + s
  pub q-le : q ≤ 2 ^ 21
  pub square : q * q ≤ 2 ^ 21 * q
  pub whole : n * 2 ^ 52 + q * q ≡ (s * 2 ^ 21 + q) * (s * 2 ^ 21 + q) + ((n * 1024 - s * s) * 2 ^ 21 - q * (s + s)) * 2 ^ 21

pub whole-root : (n s : ℕ) → 2 ^ 52 ≤ n → n < 2 ^ 54 → s * s ≤ n * 1024 → n * 1024 < (s + 1) * (s + 1) → Whole n s
whole-root n s lo hi a b =
    let l : 2 ^ 31 < s + 1 = square-lt (2 ^ 31) (s + 1) (omega arith) in
    record { s-low = omega arith; s-high = square-lt s (2 ^ 32) (omega arith); reached = a; rest = omega arith }

identity : (n s q r u : ℕ) → n * 1024 ≡ s * s + r → r * 2 ^ 21 ≡ q * (s + s) + u → n * 2 ^ 52 + q * q ≡ (s * 2 ^ 21 + q) * (s * 2 ^ 21 + q) + u * 2 ^ 21
identity n s q r u e f = omega arith

pub split : (n s q : ℕ) → Whole n s → q * (s + s) ≤ (n * 1024 - s * s) * 2 ^ 21 → (n * 1024 - s * s) * 2 ^ 21 < q * (s + s) + (s + s) → Split n s q
split n s q w a b =
    let r = n * 1024 - s * s in
    let d = s + s in
    let sl : 2 ^ 31 ≤ s = w.s-low in
    let dp : 0 < d = omega arith in
    let rr : r ≤ d = w.rest in
    let fit : s * s ≤ n * 1024 = w.reached in
    let ql : q * d ≤ 2 ^ 21 * d = omega arith in
    let qm : q ≤ 2 ^ 21 = le_of_mul-le-mul_right ql dp in
    record {
      of = w;
      under = a;
      left = omega arith;
      q-le = qm;
      square = mul-le-mul_right q qm;
      whole = identity n s q r (r * 2 ^ 21 - q * d) (omega arith) (omega arith);
    }

-- t or t + 1, with t = s * 2 ^ 21 + q, by whether what is left over passes t's next half-way point
pub down : (n s q : ℕ) → Split n s q → ((n * 1024 - s * s) * 2 ^ 21 - q * (s + s)) * 2 ^ 21 ≤ s * 2 ^ 21 + q + q * q → Nearest (n * 2 ^ 52) (s * 2 ^ 21 + q)
down n s q p h =
    let t = s * 2 ^ 21 + q in
    let z = at (n * 2 ^ 52) s q (t * t) (((n * 1024 - s * s) * 2 ^ 21 - q * (s + s)) * 2 ^ 21) (q * q) p.of.s-low p.q-le p.square p.whole h in
    record { above = z.0; below = z.1 }
  where
    at : (m s q sq u qq : ℕ) → 2 ^ 31 ≤ s → q ≤ 2 ^ 21 → qq ≤ 2 ^ 21 * q → m + qq ≡ sq + u → u ≤ s * 2 ^ 21 + q + qq → (m ≤ sq + (s * 2 ^ 21 + q)) × (sq < m + (s * 2 ^ 21 + q))
    at m s q sq u qq a b c d e = omega arith

pub up : (n s q : ℕ) → Split n s q → s * 2 ^ 21 + q + q * q < ((n * 1024 - s * s) * 2 ^ 21 - q * (s + s)) * 2 ^ 21 → Nearest (n * 2 ^ 52) (s * 2 ^ 21 + q + 1)
up n s q p h =
    let z = at (n * 2 ^ 52) s (s * 2 ^ 21 + q) q ((n * 1024 - s * s) * 2 ^ 21 - q * (s + s)) (q * q) refl p.left p.whole h in
    record { above = z.0; below = z.1 }
  where
    at : (m s t q v qq : ℕ) → t ≡ s * 2 ^ 21 + q → v < s + s → m + qq ≡ t * t + v * 2 ^ 21 → t + qq < v * 2 ^ 21 → (m ≤ (t + 1) * (t + 1) + (t + 1)) × ((t + 1) * (t + 1) < m + (t + 1))
    at m s t q v qq a b c d = omega arith
