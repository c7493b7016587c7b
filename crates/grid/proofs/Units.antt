-- Values on the grid of multiples of 1/4096, and that sums, differences and comparisons of them are exact. `At x p n` says that x is finite and is
-- (p - n) / 4096, either sign of zero allowed. Assumes nothing.
use mathlib.Core.Path.{◌≡◌, sym, ◌∙◌}
use mathlib.Core.Bool.{Bool, true, false}
use Prim.Native.Nat.{ℕ, ◌+◌, ◌^◌, ◌≤◌, ◌<◌}
use native.Mathlib.Nat.{lt_of_lt_of_le, mul_assoc}
use native.Mathlib.Omega.{arith}
use lib.Dec.{ltb, leb, eqb, lit<, lit≤}
use lib.Pow.{pow_mono, shl_lt}
use lib.Ieee.{Float, binary64, round, add, sub, neg, lt, le, eq}
use lib.Ieee.Exact.{HasValue, round_exact}
use Rattle.base.proofs.Tests.{ltb_iff, leb-iff}
use Rattle.base.proofs.Counts as C
pub use Rattle.base.proofs.Counts.{Signed, at_same}

abbrev pub At : Float → ℕ → ℕ → Type 0
At x p n = C.At 4096 x p n

-- fewer than 2 ^ 53 units are not rounded
round-units : (s : Bool) (k : ℕ) → k < 2 ^ 53 → HasValue (round binary64 s k 4096) s k 4096
round-units s k K =
    round_exact binary64 s k 4096 k 1062 (lit< tt) K (lt_of_lt_of_le (shl_lt 53 1062 K) (pow_mono {i = 53 + 1062} {j = 1074 + 1024} (lit≤ tt)))
    (sym (mul_assoc k (2 ^ 1062) 4096))

-- ---- the sum
pub add_at : (x y : Float) (p n q m : ℕ) → At x p n → At y q m → p + q < n + m + 2 ^ 53 → n + m < p + q + 2 ^ 53 → At (add binary64 x y) (p + q) (n + m)
add_at x y p n q m h j hi lo =
    C.add-by binary64 4096 (λ (z : Float). At z (p + q) (n + m)) p n q m
    (λ k e. record { sign = false; size = k; value = round-units false k (omega arith); units = e })
    (λ k e. record { sign = true; size = k; value = round-units true k (omega arith); units = e })
    x y (lit< tt) h j

-- ---- the sign, and the difference
pub neg-at : (x : Float) (p n : ℕ) → At x p n → At (neg x) n p
neg-at x p n h = C.neg-at 4096 x p n h

pub sub_at : (x y : Float) (p n q m : ℕ) → At x p n → At y q m → p + m < n + q + 2 ^ 53 → n + q < p + m + 2 ^ 53 → At (sub binary64 x y) (p + m) (n + q)
unfolding sub
sub_at x y p n q m h j hi lo = add_at x (neg y) p n m q h (neg-at y q m j) hi lo

-- ---- the order: each test on floats is the test on whole numbers
pub lt_at : (x y : Float) (p n q m : ℕ) → At x p n → At y q m → lt x y ≡ ltb (p + m) (q + n)
lt_at x y p n q m h j = C.lt_at 4096 (lit< tt) x y p n q m h j

pub eq-at : (x y : Float) (p n q m : ℕ) → At x p n → At y q m → eq x y ≡ eqb (p + m) (q + n)
eq-at x y p n q m h j = C.eq-at 4096 (lit< tt) x y p n q m h j

pub le-at : (x y : Float) (p n q m : ℕ) → At x p n → At y q m → le x y ≡ leb (p + m) (q + n)
le-at x y p n q m h j = C.le-at 4096 (lit< tt) x y p n q m h j

-- ---- the same where both are told from a common place
pub lt-is : (x y : Float) (p n q m a b : ℕ) → At x p n → At y q m → p + m + b ≡ a + (q + n) → lt x y ≡ ltb a b
lt-is x y p n q m a b h j e = lt_at x y p n q m h j ∙ ltb_iff (p + m) (q + n) a b (λ (z : p + m < q + n). omega arith) (λ (z : a < b). omega arith)

pub le_is : (x y : Float) (p n q m a b : ℕ) → At x p n → At y q m → p + m + b ≡ a + (q + n) → le x y ≡ leb a b
le_is x y p n q m a b h j e = le-at x y p n q m h j ∙ leb-iff (p + m) (q + n) a b (λ (z : p + m ≤ q + n). omega arith) (λ (z : a ≤ b). omega arith)
