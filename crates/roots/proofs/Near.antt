-- From the whole-number root to the contract of `sqrt`. x, r and y are X / L, R / L and Y / L, in units of 1 / L, with L = 2 ^ 1074. Assumes nothing.
use mathlib.Core.Path.{◌≡◌, refl, sym, ap, subst, ◌∙◌}
use Prim.Native.Nat.{ℕ, zero, suc, ◌+◌, ◌*◌, ◌^◌, ◌≤◌, ◌<◌}
use native.Mathlib.Nat.{mul-pos, mul-le-mul_left, mul-le-mul_right, le_trans, le_of_eq, lt_of_lt_of_le, lt_of_le_of_lt, lt_of_mul-lt-mul_right, mul-lt-mul_of_pos_right}
use native.Mathlib.Decide.{dec_le}
use native.Mathlib.Omega.{arith}
use mathlib.Core.Bool.{false}
use lib.IntN.{ℤ}
use lib.Dec.{T, lit<}
use lib.Pow.{pow_pos}
use lib.Ieee.{Float, fin, binary64, up, down, fits}
use lib.Ieee.Fits.{down_pos}
use lib.Ieee.Exact.{HasValue}
use lib.Ieee.Positive.{num, den, den_pos, value→cross, positive_of_value}
use Rattle.roots.specs.Root.{Root, MidBelow, MidAbove}
use Rattle.roots.specs.Steps.{Nearest, Scaled}
use Rattle.roots.proofs.Halves.{square-lt}
use Rattle.roots.proofs.Shift.{nearest-low}
use Rattle.roots.proofs.Gap.{in-units, gap_below, gap-above}

square-mono : (a b : ℕ) → a ≤ b → a * a ≤ b * b
square-mono a b h = le_trans (mul-le-mul_left a h) (mul-le-mul_right b h)

-- a larger number's square is larger
square-up : (a b : ℕ) → a < b → a * a < b * b
square-up a b h = let p : suc a * suc a ≤ b * b = square-mono (suc a) b h in omega arith

-- ---- in units: R is q * p, with p = 2 ^ k, and x times L is m * p * p

-- y below r
mid-below : (m q p Y : ℕ) → 0 < p → Nearest m q → Y < q * p → (m < q * q → Y + p ≤ q * p) → (Y + q * p) * (Y + q * p) < 4 * (m * (p * p))
mid-below m q p Y pp r l gap = either (dec_le (q * q) m)
  where
    twice : q * q ≤ m → (q * p + q * p) * (q * p + q * p) ≤ 4 * (m * (p * p))
    twice h = let z : q * q * (p * p) ≤ m * (p * p) = mul-le-mul_right (p * p) h in omega arith

    near : (s : ℕ) → s + p ≤ q * p + q * p → s * s + 2 * (s * p) + p * p ≤ (q * p + q * p) * (q * p + q * p)
    near s h = le_trans (le_of_eq (at s p)) (square-mono (s + p) (q * p + q * p) h)
      where
        at : (s p : ℕ) → s * s + 2 * (s * p) + p * p ≡ (s + p) * (s + p)
        at s p = omega arith

    lt_of : (q * q ≤ m → ⊥) → m < q * q
    lt_of f = omega arith

    -- q is a + 1, and the sum is at most (2 a + 1) p
    close : (a : ℕ) → q ≡ suc a → Y + p ≤ q * p → (Y + q * p) * (Y + q * p) < 4 * (m * (p * p))
    close a e g =
        let g' : Y + q * p ≤ (a + a + 1) * p = subst (λ (x : ℕ). Y + x * p ≤ (a + a + 1) * p) (sym e) (omega (arith, subst (λ (x : ℕ). Y + p ≤ x * p) e g)) in
        let b : (a + a + 1) * (a + a + 1) < 4 * m = omega (arith, subst (λ (x : ℕ). x * x < m + x) e r.below) in
        lt_of_le_of_lt (square-mono (Y + q * p) ((a + a + 1) * p) g')
        (lt_of_le_of_lt (le_of_eq (at (a + a + 1) p))
        (lt_of_lt_of_le (mul-lt-mul_of_pos_right b (mul-pos pp pp)) (le_of_eq (at' m (p * p)))))
      where
        at : (c p : ℕ) → (c * p) * (c * p) ≡ c * c * (p * p)
        at c p = omega arith

        at' : (m w : ℕ) → 4 * m * w ≡ 4 * (m * w)
        at' m w = omega arith

    pick : (a : ℕ) → q ≡ a → (m < q * q) → (Y + q * p) * (Y + q * p) < 4 * (m * (p * p))
    pick zero e h = absurd (none (subst (λ (x : ℕ). Y < x * p) e l))
      where
        none : Y < 0 * p → ⊥
        none g = omega arith
    pick (suc a) e h = close a e (gap h)

    either : Dec (q * q ≤ m) → (Y + q * p) * (Y + q * p) < 4 * (m * (p * p))
    either (yes h) = lt_of_lt_of_le (square-up (Y + q * p) (q * p + q * p) (omega arith)) (twice h)
    either (no f) = pick q refl (lt_of f)

-- y above r
mid-above : (m q p Y : ℕ) → 0 < p → Nearest m q → q * p < Y → (q * q < m → (q + 1) * p ≤ Y) → 4 * (m * (p * p)) < (Y + q * p) * (Y + q * p)
mid-above m q p Y pp r l gap = either (dec_le m (q * q))
  where
    twice : m ≤ q * q → 4 * (m * (p * p)) ≤ (q * p + q * p) * (q * p + q * p)
    twice h = let z : m * (p * p) ≤ q * q * (p * p) = mul-le-mul_right (p * p) h in omega arith

    lt_of : (m ≤ q * q → ⊥) → q * q < m
    lt_of f = omega arith

    close : (q + 1) * p ≤ Y → 4 * (m * (p * p)) < (Y + q * p) * (Y + q * p)
    close g =
        let g' : (q + q + 1) * p ≤ Y + q * p = omega arith in
        let b : 4 * m < (q + q + 1) * (q + q + 1) = omega (arith, r.above) in
        lt_of_lt_of_le (lt_of_le_of_lt (le_of_eq (at' m (p * p))) (mul-lt-mul_of_pos_right b (mul-pos pp pp)))
        (le_trans (le_of_eq (at (q + q + 1) p)) (square-mono ((q + q + 1) * p) (Y + q * p) g'))
      where
        at : (c p : ℕ) → c * c * (p * p) ≡ (c * p) * (c * p)
        at c p = omega arith

        at' : (m w : ℕ) → 4 * (m * w) ≡ 4 * m * w
        at' m w = omega arith

    either : Dec (m ≤ q * q) → 4 * (m * (p * p)) < (Y + q * p) * (Y + q * p)
    either (yes h) = lt_of_le_of_lt (twice h) (square-up (q * p + q * p) (Y + q * p) (omega arith))
    either (no f) = close (gap (lt_of f))

-- ---- from units to fractions: a / A = X / L, b / B = R / L and c / C = Y / L

module _ (a A b B c C X R Y L : ℕ) (lp : 0 < L) (pa : 0 < A) (pb : 0 < B) (pc : 0 < C) (x : a * L ≡ X * A) (r : b * L ≡ R * B) (y : c * L ≡ Y * C) where
  sum : (c * B + b * C) * L ≡ (Y + R) * (C * B)
  sum = omega (arith, ap (λ (z : ℕ). z * B) y, ap (λ (z : ℕ). z * C) r)

  pub less-units : c * B < b * C → Y < R
  less-units h = lt_of_mul-lt-mul_right (C * B) (omega (arith, mul-lt-mul_of_pos_right h lp, ap (λ (z : ℕ). z * B) y, ap (λ (z : ℕ). z * C) r))

  pub more-units : b * C < c * B → R < Y
  more-units h = lt_of_mul-lt-mul_right (C * B) (omega (arith, mul-lt-mul_of_pos_right h lp, ap (λ (z : ℕ). z * B) y, ap (λ (z : ℕ). z * C) r))

  weight : 0 < C * B * (C * B) * A
  weight = mul-pos (mul-pos (mul-pos pc pb) (mul-pos pc pb)) pa

  -- the two sides of the contract's inequality, times L * L
  squares : (c * B + b * C) * (c * B + b * C) * A * (L * L) ≡ (Y + R) * (Y + R) * (C * B * (C * B) * A)
  squares = before (c * B + b * C) A L ∙ ap (λ (z : ℕ). z * z * A) sum ∙ after (Y + R) (C * B) A
    where
      before : (s A L : ℕ) → s * s * A * (L * L) ≡ (s * L) * (s * L) * A
      before s A L = omega arith

      after : (s d A : ℕ) → (s * d) * (s * d) * A ≡ s * s * (d * d * A)
      after s d A = omega arith

  fours : 4 * a * (C * B * (C * B)) * (L * L) ≡ 4 * (X * L) * (C * B * (C * B) * A)
  fours = before a (C * B * (C * B)) L ∙ ap (λ (z : ℕ). 4 * (z * L) * (C * B * (C * B))) x ∙ after X A L (C * B * (C * B))
    where
      before : (a w L : ℕ) → 4 * a * w * (L * L) ≡ 4 * (a * L * L) * w
      before a w L = omega arith

      after : (X A L w : ℕ) → 4 * (X * A * L) * w ≡ 4 * (X * L) * (w * A)
      after X A L w = omega arith

  pub below-units : (Y + R) * (Y + R) < 4 * (X * L) → (c * B + b * C) * (c * B + b * C) * A < 4 * a * (C * B * (C * B))
  below-units h =
      lt_of_mul-lt-mul_right (L * L)
      (lt_of_le_of_lt (le_of_eq squares) (lt_of_lt_of_le (mul-lt-mul_of_pos_right h weight) (le_of_eq (sym fours))))

  pub above-units : 4 * (X * L) < (Y + R) * (Y + R) → 4 * a * (C * B * (C * B)) < (c * B + b * C) * (c * B + b * C) * A
  above-units h =
      lt_of_mul-lt-mul_right (L * L)
      (lt_of_le_of_lt (le_of_eq fours) (lt_of_lt_of_le (mul-lt-mul_of_pos_right h weight) (le_of_eq (sym squares))))

-- ---- the gaps on either side of q * 2 ^ k

under : (n j m q k : ℕ) → n < 2 ^ 53 → 2 ^ 104 ≤ m → n * 2 ^ j < q * 2 ^ k → m < q * q → n * 2 ^ j + 2 ^ k ≤ q * 2 ^ k
under n j m zero k h lo l g = absurd (none (2 ^ k) l)
  where
    none : (p : ℕ) → n * 2 ^ j < 0 * p → ⊥
    none p l = omega arith
under n j m (suc a) k h lo l g =
    let w : 2 ^ 52 < suc a = square-lt (2 ^ 52) (suc a) (lt_of_le_of_lt lo g) in
    let t : n * 2 ^ j ≤ a * 2 ^ k = gap_below n j a k h (omega arith) (subst (λ (x : ℕ). n * 2 ^ j < x * 2 ^ k) one l) in
    at (n * 2 ^ j) (2 ^ k) t
  where
    one : suc a ≡ a + 1
    one = omega arith

    at : (y p : ℕ) → y ≤ a * p → y + p ≤ suc a * p
    at y p t = omega arith

-- ---- the result

-- v is the nearest root of x = fin false (suc m) e, which is U units, where v is q * 2 ^ k units
module _ (m : ℕ) (e : ℤ) (U : ℕ) (units : suc m * up e * 2 ^ 1074 ≡ U * down e) (M q k : ℕ) (B : Scaled U M q k) (v : Float) (held : T (fits binary64 v)) (val : HasValue v false (q * 2 ^ k) (2 ^ 1074)) where
  lo : 2 ^ 52 ≤ q
  lo = nearest-low M q B.low B.root

  cross : num v * 2 ^ 1074 ≡ q * 2 ^ k * den v
  cross = value→cross v (q * 2 ^ k) (2 ^ 1074) val

  -- y is n * 2 ^ d, and n * 2 ^ j units
  module _ (n j : ℕ) (d : ℤ) (s : n < 2 ^ 53) (u : n * up d * 2 ^ 1074 ≡ n * 2 ^ j * down d) where
    is-less : n * up d * den v < num v * down d → MidBelow (fin false (suc m) e) (fin false n d) v
    is-less h =
        let Y = n * 2 ^ j in
        let R = q * 2 ^ k in
        let l : Y < R = less-units (suc m * up e) (down e) (num v) (den v) (n * up d) (down d) U R Y (2 ^ 1074) (pow_pos 1074) (down_pos e) (den_pos v) (down_pos d) units cross u h in
        below-units (suc m * up e) (down e) (num v) (den v) (n * up d) (down d) U R Y (2 ^ 1074) (pow_pos 1074) (down_pos e) (den_pos v) (down_pos d) units cross u
        (subst (λ (z : ℕ). (Y + R) * (Y + R) < 4 * z) (sym B.same) (mid-below M q (2 ^ k) Y (pow_pos k) B.root l (under n j M q k s B.low l)))

    is-more : num v * down d < n * up d * den v → MidAbove (fin false (suc m) e) (fin false n d) v
    is-more h =
        let Y = n * 2 ^ j in
        let R = q * 2 ^ k in
        let l : R < Y = more-units (suc m * up e) (down e) (num v) (den v) (n * up d) (down d) U R Y (2 ^ 1074) (pow_pos 1074) (down_pos e) (den_pos v) (down_pos d) units cross u h in
        above-units (suc m * up e) (down e) (num v) (den v) (n * up d) (down d) U R Y (2 ^ 1074) (pow_pos 1074) (down_pos e) (den_pos v) (down_pos d) units cross u
        (subst (λ (z : ℕ). 4 * z < (Y + R) * (Y + R)) (sym B.same) (mid-above M q (2 ^ k) Y (pow_pos k) B.root l (λ _. gap-above n j q k s lo l)))

  pub root_is : Root (fin false (suc m) e) v
  root_is = record {
    held = held;
    is = positive_of_value v (q * 2 ^ k) (2 ^ 1074) val (mul-pos (lt_of_lt_of_le (lit< tt) lo) (pow_pos k));
    less = λ n d f. let u = in-units n d f in is-less n u.0 d u.1 u.2;
    more = λ n d f. let u = in-units n d f in is-more n u.0 d u.1 u.2;
  }
