-- What the steps of the root's program hand on to each other. No contract of a public function cites this file.
use Rattle.std.specs.Prelude.{◌≡◌, ℕ, zero, suc, ◌+◌, ◌*◌, ◌/◌, ◌%◌, ◌^◌, ◌≤◌, ◌<◌}

-- q is the whole number nearest to the root of m: (q - 1/2)² < m < (q + 1/2)², multiplied out. No whole m lies on a half-way point.
pub record Nearest (m q : ℕ) : Type 0 where
  pub above : m ≤ q * q + q
  pub below : q * q < m + q

-- how many times the smallest number, 2 ^ -1074, the number with the bits b is, for a finite one that is not negative
unfoldable pub units_at : ℕ → ℕ → ℕ
units_at zero t = t
units_at (suc e) t = (2 ^ 52 + t) * 2 ^ e

abbrev pub units_of : ℕ → ℕ
units_of b = units_at (b / 2 ^ 52) (b % 2 ^ 52)

-- the root of x units is that of m squared units times 2 ^ k: q * 2 ^ k units, to the nearest
pub record Scaled (x m q k : ℕ) : Type 0 where
  pub same : x * 2 ^ 1074 ≡ m * (2 ^ k * 2 ^ k)
  pub root : Nearest m q
  pub low : 2 ^ 104 ≤ m
  pub high : m < 2 ^ 106
  pub small : k < 2000

-- x units are n * 2 ^ 52 squared units times 4 ^ k, and n has its highest bit at 52 or 53
pub record Halves (x n k : ℕ) : Type 0 where
  pub same : x * 2 ^ 1074 ≡ n * 2 ^ 52 * (2 ^ k * 2 ^ k)
  pub low : 2 ^ 52 ≤ n
  pub high : n < 2 ^ 54
  pub small : k < 2000

-- r is the bits of the nearest root of x units
pub record RootBits (x r : ℕ) : Type 0 where
  pub m : ℕ
  pub q : ℕ
  pub k : ℕ
  pub bits : r ≡ k * 2 ^ 52 + q
  pub is : Scaled x m q k
