-- The square root: `root_of` computes it, `Root` says what it is, and `proofs/Roots.antt` shows that `Root` holds of `root_of` and of nothing else.
use Rattle.std.specs.Prelude.{ℕ, zero, suc, ◌+◌, ◌-◌, ◌*◌, ◌/◌, ◌%◌, ◌^◌, ◌<◌, Bool, true, false, ℤ, pos, negsuc, T, leb, ltb, Float}
use Rattle.std.specs.Float.{nan, inf, fin, binary64}
use Rattle.std.specs.Float.Ieee.{up, down, round, fits}
use Rattle.std.specs.Float.Ieee.Positive.{num, den, positive}
use Rattle.base.specs.Choose.{choose}

-- finite, and not below zero
unfoldable pub has_root : Float → Bool
has_root nan = false
has_root (inf s) = false
has_root (fin s zero e) = true
has_root (fin true (suc m) e) = false
has_root (fin false (suc m) e) = true

-- ---- what the root is

-- The half-way point of y and r lies below, or above, the root of x: ((y + r) / 2)² < x, x < ((y + r) / 2)², as squares of whole numbers.
-- num and den are a number's numerator and denominator; y, r and x are finite and not negative.
abbrev pub MidBelow : Float → Float → Float → Type 0
MidBelow x y r = (num y * den r + num r * den y) * (num y * den r + num r * den y) * den x < 4 * num x * ((den y * den r) * (den y * den r))

abbrev pub MidAbove : Float → Float → Float → Type 0
MidAbove x y r = 4 * num x * ((den y * den r) * (den y * den r)) < (num y * den r + num r * den y) * (num y * den r + num r * den y) * den x

-- r is the f64 nearest to the root of x: the root lies on r's side of the half-way point between r and any other f64.
pub record Root (x r : Float) : Type 0 where
  pub is : T (positive r)
  pub held : T (fits binary64 r)
  pub less : (n : ℕ) (d : ℤ) → T (fits binary64 (fin false n d)) → n * up d * den r < num r * down d → MidBelow x (fin false n d) r
  pub more : (n : ℕ) (d : ℤ) → T (fits binary64 (fin false n d)) → num r * down d < n * up d * den r → MidAbove x (fin false n d) r

-- ---- how it is computed

-- the whole part of the root of n, for n below 4 ^ k, where r is known of it: bit by bit from the top
unfoldable pub root_from : ℕ → ℕ → ℕ → ℕ
root_from zero n r = r
root_from (suc k) n r = root_from k n (choose (leb ((r + 2 ^ k) * (r + 2 ^ k)) n) (r + 2 ^ k) r)

-- the whole number nearest to the root of n: r² ≤ n, and n ≤ r² + r is n < (r + 1/2)²
unfoldable pub nearest_from : ℕ → ℕ → ℕ
nearest_from r n = choose (leb n (r * r + r)) r (r + 1)

abbrev pub nearest_root : ℕ → ℕ
nearest_root n = nearest_from (root_from 53 n 0) n

-- The root of n * 4 ^ k, counted in the smallest f64 (2 ^ -1074), where n counts its squares. n is raised by fours to 2 ^ 104 or more:
-- then its nearest whole root has the 53 bits of an f64.
unfoldable pub root_raised : ℕ → ℕ → ℕ → Float
root_raised zero n k = round binary64 false (nearest_root n * 2 ^ k) (2 ^ 1074)
root_raised (suc f) n k = choose (ltb n (2 ^ 104)) (root_raised f (4 * n) (k - 1)) (round binary64 false (nearest_root n * 2 ^ k) (2 ^ 1074))

-- fin false m e is m * 2 ^ j squares of the smallest f64
abbrev pub squares_exp : ℤ → ℕ
squares_exp (pos k) = 2148 + k
squares_exp (negsuc k) = 2147 - k

-- a zero is its own root, with its sign
unfoldable pub root_of : Float → Float
root_of nan = nan
root_of (inf s) = nan
root_of (fin s zero e) = fin s zero e
root_of (fin true (suc m) e) = nan
root_of (fin false (suc m) e) = root_raised 52 (suc m * 2 ^ (squares_exp e % 2)) (squares_exp e / 2)
