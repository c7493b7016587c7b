-- A normalised vector's numbers are of size at most 2 (`normal-within`), whatever bounded vector it is made of. Let b be 2 ^ 537: a number's square is at
-- least that of the greatest 2 ^ p / b not above it, so the sum is, its root is at least 2 ^ p / b, and one over that is at most b / 2 ^ p. A sum
-- above zero is at least 1 / b². Assumes nothing.
use mathlib.Core.Path.{◌≡◌, refl, sym, ap, ◌∙◌, subst}
use mathlib.Core.Bool.{Bool, true, false, ◌&&◌, true≢false}
use Prim.Native.Nat.{ℕ, zero, suc, ◌+◌, ◌-◌, ◌*◌, ◌/◌, ◌^◌, ◌≤◌, ◌<◌}
use native.Mathlib.Nat.{le_of_eq, le_trans, lt_of_le_of_lt, lt_of_lt_of_le, not-le_of_lt, mul-pos, mul-one, one-mul, mul_comm, mul-le-mul_left, mul-le-mul_right, le_of_mul-le-mul_right, lt_of_mul-lt-mul_right, mul-lt-mul_of_pos_right, div-mul-le_self, lt-div-mul-add, zero-lt-suc, pow-succ'}
use native.Mathlib.Decide.{dec_le}
use native.Mathlib.Omega.{arith}
use lib.IntN.{ℤ}
use lib.Dec.{T, lit≤, lit<}
use lib.Pow.{pow-add, pow_pos, pow-lt}
use lib.Ieee.{Float, nan, inf, fin, binary64, up, down, size, round, sum, add, mul, div, lt, fits, of_bits}
use lib.Ieee.Digits.{size-lt, size_reaches}
use lib.Ieee.Fits.{up_pos, down_pos, round-fits, add-fits}
use lib.Ieee.Exact.{HasValue, round_exact}
use lib.Ieee.Positive.{positive}
use Rattle.base.specs.Choose.{choose}
use Rattle.base.proofs.Values.{fitting, div-common}
use Rattle.base.proofs.Bounds.{Most, Least, Within, Rounds, round-most, round-least, whole, mul_most}
use Rattle.floats.specs.Numbers.{zero64, one64, is_finite, answer_where}
use Rattle.roots.specs.Root.{Root, has_root, root_of}
use Rattle.roots.proofs.Roots.{root-nearest}
use Rattle.boxes.specs.declared.Vec3.{Vec3}
use Rattle.boxes.specs.Vectors.{zero_vec, scaled, squared, normalised}
use Rattle.finite.proofs.Moves.{Vec, zero-within}

-- ---- the root of a number that is at least the square of a / b is at least a / b
module _ (a A b B c C : ℕ) where
  clash : b * C < c * B → c * c * A ≤ a * (C * C) → 4 * a * (C * B * (C * B)) < (c * B + b * C) * (c * B + b * C) * A → ⊥
  clash l h g =
      let u : c * B + b * C ≤ 2 * (c * B) = omega arith in
      let v : (c * B + b * C) * (c * B + b * C) * A ≤ 2 * (c * B) * (2 * (c * B)) * A = mul-le-mul_right A (le_trans (mul-le-mul_left (c * B + b * C) u) (mul-le-mul_right (2 * (c * B)) u)) in
      let w : c * c * A * (B * B) ≤ a * (C * C) * (B * B) = mul-le-mul_right (B * B) h in
      not-le_of_lt g (le_trans v (le_trans (le_of_eq first) (le_trans (mul-le-mul_left 4 w) (le_of_eq last))))
    where
      first : 2 * (c * B) * (2 * (c * B)) * A ≡ 4 * (c * c * A * (B * B))
      first = omega arith

      last : 4 * (a * (C * C) * (B * B)) ≡ 4 * a * (C * B * (C * B))
      last = omega arith

-- y is P / Q, and so c / C
square-least : (a A P Q c C : ℕ) → 0 < Q → c * Q ≡ P * C → P * P * A ≤ a * (Q * Q) → c * c * A ≤ a * (C * C)
square-least a A P Q c C q e h =
    le_of_mul-le-mul_right {k = Q * Q}
    (le_trans (le_of_eq (one c Q A)) (le_trans (le_of_eq (ap (λ (z : ℕ). z * z * A) e)) (le_trans (le_of_eq (two P C A)) (le_trans (mul-le-mul_right (C * C) h) (le_of_eq (three a Q C)))))) (mul-pos q q)
  where
    one : (c Q A : ℕ) → c * c * A * (Q * Q) ≡ c * Q * (c * Q) * A
    one c Q A = omega arith

    two : (P C A : ℕ) → P * C * (P * C) * A ≡ P * P * A * (C * C)
    two P C A = omega arith

    three : (a Q C : ℕ) → a * (Q * Q) * (C * C) ≡ a * (C * C) * (Q * Q)
    three a Q C = omega arith

below-cross : (b B c C P Q : ℕ) → 0 < C → 0 < Q → c * Q ≡ P * C → b * Q < P * B → b * C < c * B
below-cross b B c C P Q p q e l =
    lt_of_mul-lt-mul_right Q
    (lt_of_le_of_lt (le_of_eq (one b C Q)) (lt_of_lt_of_le (mul-lt-mul_of_pos_right l p) (le_of_eq (two P B C ∙ ap (λ (z : ℕ). z * B) (sym e) ∙ three c Q B))))
  where
    one : (b C Q : ℕ) → b * C * Q ≡ b * Q * C
    one b C Q = omega arith

    two : (P B C : ℕ) → P * B * C ≡ P * C * B
    two P B C = omega arith

    three : (c Q B : ℕ) → c * Q * B ≡ c * B * Q
    three c Q B = omega arith

module _ (m : ℕ) (e : ℤ) (P Q : ℕ) (q : 0 < Q) (h : P * P * down e ≤ suc m * up e * (Q * Q)) where
  above-value : (y r : Float) → T (fits binary64 y) → HasValue y false P Q → Root (fin false (suc m) e) r → Least r P Q
  above-value nan r f v R = absurd v
  above-value (inf t) r f v R = absurd v
  above-value (fin true n d) r f v R = absurd (true≢false v.0)
  above-value (fin false n d) nan f v R = absurd R.is
  above-value (fin false n d) (inf t) f v R = absurd R.is
  above-value (fin false n d) (fin true k g) f v R = absurd R.is
  above-value (fin false n d) (fin false k g) f v R = go (dec_le (P * down g) (k * up g * Q))
    where
      lower : (x y : ℕ) → (x ≤ y → ⊥) → y < x
      lower x y n = omega arith

      go : Dec (P * down g ≤ k * up g * Q) → Least (fin false k g) P Q
      go (yes l) = record { is = (refl, l) }
      go (no l) =
          let b : k * up g * down d < n * up d * down g = below-cross (k * up g) (down g) (n * up d) (down d) P Q (down_pos d) q v.1 (lower _ _ l) in
          absurd (clash (suc m * up e) (down e) (k * up g) (down g) (n * up d) (down d) b
          (square-least (suc m * up e) (down e) P Q (n * up d) (down d) q v.1 h) (R.more n d f b))

-- ---- powers of two over b
abbrev b : ℕ
b = 2 ^ 537

room : (p : ℕ) → p ≤ 597 → p + p < 1074 + 1024
room p h = omega arith

-- 2 ^ p / b, its square, and one over it
module _ (p : ℕ) (h : p ≤ 597) where
  step_value : HasValue (round binary64 false (2 ^ p) b) false (2 ^ p) b
  step_value =
      round_exact binary64 false (2 ^ p) b 1 (p + 537) (pow_pos 537) (lit< tt) (subst (λ (z : ℕ). z < 2 ^ (1074 + 1024)) (sym (one-mul (2 ^ (p + 537)))) (pow-lt (few p h)))
      (sym (pow-add 2 p 1074) ∙ ap (λ (z : ℕ). 2 ^ z) (halves p) ∙ pow-add 2 (p + 537) 537 ∙ ap (λ (z : ℕ). z * b) (sym (one-mul (2 ^ (p + 537)))))
    where
      few : (p : ℕ) → p ≤ 597 → p + 537 < 1074 + 1024
      few p h = omega arith

      halves : (p : ℕ) → p + 1074 ≡ p + 537 + 537
      halves p = omega arith

  square-rounds : Rounds (2 ^ p * 2 ^ p) (b * b) (2 ^ p * 2 ^ p) (b * b)
  square-rounds =
      record {
        below = mul-pos (pow_pos 537) (pow_pos 537);
        value = round_exact binary64 false (2 ^ p * 2 ^ p) (b * b) 1 (p + p) (mul-pos (pow_pos 537) (pow_pos 537)) (lit< tt)
            (subst (λ (z : ℕ). z < 2 ^ (1074 + 1024)) (sym (one-mul (2 ^ (p + p)))) (pow-lt (room p h)))
            (ap (λ (z : ℕ). z * 2 ^ 1074) (sym (pow-add 2 p p) ∙ sym (one-mul (2 ^ (p + p)))) ∙ ap (λ (z : ℕ). 1 * 2 ^ (p + p) * z) (pow-add 2 537 537));
      }

  over-rounds : Rounds b (2 ^ p) b (2 ^ p)
  over-rounds =
      record {
        below = pow_pos p;
        value = round_exact binary64 false b (2 ^ p) 1 (1611 - p) (pow_pos p) (lit< tt)
            (subst (λ (z : ℕ). z < 2 ^ (1074 + 1024)) (sym (one-mul (2 ^ (1611 - p)))) (pow-lt (few p)))
            (sym (pow-add 2 537 1074) ∙ ap (λ (z : ℕ). 2 ^ z) (back p h) ∙ pow-add 2 (1611 - p) p ∙ ap (λ (z : ℕ). z * 2 ^ p) (sym (one-mul (2 ^ (1611 - p)))));
      }
    where
      few : (p : ℕ) → 1611 - p < 1074 + 1024
      few p = omega arith

      back : (p : ℕ) → p ≤ 597 → 537 + 1074 ≡ 1611 - p + p
      back p h = omega arith

-- ---- which power of two lies below a number n / d, and no more than a half below it
pub record Near (n d : ℕ) : Type 0 where
  pub p : ℕ
  pub most : p ≤ 597
  pub above : n * b ≤ 2 * 2 ^ p * d
  -- and it lies below, but for a number below 1 / b
  pub below : (n * b < d → ⊥) → 2 ^ p * d ≤ n * b

module _ (n d : ℕ) (D : 0 < d) (l : n ≤ 2 ^ 60 * d) where
  abbrev q : ℕ
  q = n * b / d

  low : q * d ≤ n * b
  low = div-mul-le_self (n * b) d

  high : n * b < q * d + d
  high = lt-div-mul-add D

  none : (x y d : ℕ) → x < y * d + d → y < 1 → x < d
  none x y d h k = let z : y ≡ 0 = omega arith in subst (λ (z : ℕ). x < z) (zeroed z) h
    where
      zeroed : y ≡ 0 → y * d + d ≡ d
      zeroed z = ap (λ (t : ℕ). t * d + d) z ∙ naught d
        where
          naught : (d : ℕ) → 0 * d + d ≡ d
          naught d = omega arith

  doubled : (x y d : ℕ) → x < d → x ≤ 2 * 1 * d
  doubled x y d h = omega arith

  twice : (x y d w : ℕ) → x < y * d + d → y < w → x ≤ w * d
  twice x y d w h k = let z : suc y * d ≤ w * d = mul-le-mul_right d k in omega arith

  few : (p : ℕ) → 2 ^ p ≤ q → p ≤ 597
  few p k = elim (dec_le p 597) [ yes u ↦ u | no u ↦ absurd (not-le_of_lt (pow-lt {i = 597} {j = p} (more p u)) (le_of_mul-le-mul_right {k = d} (le_trans (mul-le-mul_right d k) (le_trans low (le_trans (mul-le-mul_right b l) (le_of_eq (turn (2 ^ 60) d b ∙ ap (λ (z : ℕ). z * d) (sym (pow-add 2 60 537))))))) D)) ]
    where
      more : (p : ℕ) → (p ≤ 597 → ⊥) → 597 < p
      more p u = omega arith

      turn : (x d y : ℕ) → x * d * y ≡ x * y * d
      turn x d y = omega arith

  go : (t : ℕ) → q < 2 ^ t → ((j : ℕ) → j < t → 2 ^ j ≤ q) → Near n d
  go zero s r = record { p = 0; most = lit≤ tt; above = doubled (n * b) q d (none (n * b) q d high s); below = λ k. absurd (k (none (n * b) q d high s)) }
  go (suc p) s r =
      let k : 2 ^ p ≤ q = r p (le_of_eq refl) in
      record {
        p = p;
        most = few p k;
        above = twice (n * b) q d (2 * 2 ^ p) high (subst (λ (z : ℕ). q < z) (pow-succ' 2 p) s);
        below = λ _. le_trans (mul-le-mul_right d k) low;
      }

  near : Near n d
  near = go (size q) (size-lt q) (size_reaches q)

-- ---- squares and their sum
abbrev Sizes : Float → ℕ → ℕ → Type 0
Sizes nan n k = ⊥
Sizes (inf s) n k = ⊥
Sizes (fin s m e) n k = n * down e ≤ m * up e * k

-- c is of size n / k or more
record Reach (c : Float) (n k : ℕ) : Type 0 where
  is : Sizes c n k

squares : (x e n k : ℕ) → n * e ≤ x * k → n * n * (e * e) ≤ x * x * (k * k)
squares x e n k h =
    let u : n * e * (n * e) ≤ x * k * (x * k) = le_trans (mul-le-mul_left (n * e) h) (mul-le-mul_right (x * k) h) in
    le_trans (le_of_eq (pairs n e)) (le_trans u (le_of_eq (sym (pairs x k))))
  where
    pairs : (n e : ℕ) → n * n * (e * e) ≡ n * e * (n * e)
    pairs n e = omega arith

square-least-of : (c : Float) (n k : ℕ) → Rounds (n * n) (k * k) (n * n) (k * k) → Reach c n k → Least (mul binary64 c c) (n * n) (k * k)
unfolding mul
square-least-of nan n k r h = absurd h.is
square-least-of (inf s) n k r h = absurd h.is
square-least-of (fin true m e) n k r h = round-least (m * up e * (m * up e)) (down e * down e) (mul-pos (down_pos e) (down_pos e)) r (squares (m * up e) (down e) n k h.is)
square-least-of (fin false m e) n k r h = round-least (m * up e * (m * up e)) (down e * down e) (mul-pos (down_pos e) (down_pos e)) r (squares (m * up e) (down e) n k h.is)

zero-rounds : Rounds 0 1 0 1
zero-rounds = whole 0 (lit≤ tt)

-- a square is not below zero
square-plus : (c : Float) (n k : ℕ) → Most c n k → Least (mul binary64 c c) 0 1
square-plus c n k h = square-least-of c 0 1 zero-rounds (reach c h)
  where
    reach : (c : Float) → Most c n k → Reach c 0 1
    reach nan h = absurd h.is
    reach (inf s) h = absurd h.is
    reach (fin s m e) h = record { is = none (down e) (m * up e) }
      where
        none : (d x : ℕ) → 0 * d ≤ x * 1
        none d x = omega arith

module _ (n k : ℕ) (r : Rounds n k n k) where
  joint : (x e y d : ℕ) → n * e ≤ x * k → n * (e * d) ≤ (x * d + y) * k
  joint x e y d h = let u : n * e * d ≤ x * k * d = mul-le-mul_right d h in omega arith

  least-left : (x y : Float) → Least x n k → Least y 0 1 → Least (add binary64 x y) n k
  unfolding add sum
  least-left nan y h g = absurd h.is
  least-left (inf true) y h g = absurd (true≢false h.is)
  least-left (inf false) nan h g = absurd g.is
  least-left (inf false) (inf true) h g = absurd (true≢false g.is)
  least-left (inf false) (inf false) h g = record { is = refl }
  least-left (inf false) (fin t j d) h g = record { is = refl }
  least-left (fin s i e) nan h g = absurd g.is
  least-left (fin s i e) (inf t) h g = record { is = g.is }
  least-left (fin true i e) (fin t j d) h g = absurd (true≢false h.is.0)
  least-left (fin false i e) (fin true j d) h g = absurd (true≢false g.is.0)
  least-left (fin false i e) (fin false j d) h g =
      round-least (i * up e * down d + j * up d * down e) (down e * down d) (mul-pos (down_pos e) (down_pos d)) r (joint (i * up e) (down e) (j * up d * down e) (down d) h.is.1)

  least-right : (x y : Float) → Least x 0 1 → Least y n k → Least (add binary64 x y) n k
  unfolding add sum
  least-right nan y h g = absurd h.is
  least-right (inf true) y h g = absurd (true≢false h.is)
  least-right (inf false) nan h g = absurd g.is
  least-right (inf false) (inf true) h g = absurd (true≢false g.is)
  least-right (inf false) (inf false) h g = record { is = refl }
  least-right (inf false) (fin t j d) h g = record { is = refl }
  least-right (fin s i e) nan h g = absurd g.is
  least-right (fin s i e) (inf t) h g = record { is = g.is }
  least-right (fin true i e) (fin t j d) h g = absurd (true≢false h.is.0)
  least-right (fin false i e) (fin true j d) h g = absurd (true≢false g.is.0)
  least-right (fin false i e) (fin false j d) h g =
      round-least (i * up e * down d + j * up d * down e) (down e * down d) (mul-pos (down_pos e) (down_pos d)) r
      (subst (λ (z : ℕ). n * z ≤ (i * up e * down d + j * up d * down e) * k) (mul_comm (down d) (down e))
      (subst (λ (z : ℕ). n * (down d * down e) ≤ z * k) (turn (j * up d * down e) (i * up e * down d)) (joint (j * up d) (down d) (i * up e * down d) (down e) g.is.1)))
    where
      turn : (x y : ℕ) → x + y ≡ y + x
      turn x y = omega arith

-- x is not below the square of what c reaches
record Among (c x : Float) : Type 0 where
  all : (p : ℕ) → p ≤ 597 → Reach c (2 ^ p) b → Least x (2 ^ p * 2 ^ p) (b * b)

module _ (v : Vec3) (n : ℕ) (B : Vec v n) where
  abbrev X : Float
  X = mul binary64 v.x v.x

  abbrev Y : Float
  Y = mul binary64 v.y v.y

  abbrev Z : Float
  Z = mul binary64 v.z v.z

  x-plus : Least X 0 1
  x-plus = square-plus v.x n 1 B.x

  y-plus : Least Y 0 1
  y-plus = square-plus v.y n 1 B.y

  z-plus : Least Z 0 1
  z-plus = square-plus v.z n 1 B.z

  x-among : Among v.x (squared v)
  x-among = record {
    all = λ p h r. let s = square-rounds p h in
        least-left (2 ^ p * 2 ^ p) (b * b) s (add binary64 X Y) Z (least-left (2 ^ p * 2 ^ p) (b * b) s X Y (square-least-of v.x (2 ^ p) b s r) y-plus) z-plus;
  }

  y-among : Among v.y (squared v)
  y-among = record {
    all = λ p h r. let s = square-rounds p h in
        least-left (2 ^ p * 2 ^ p) (b * b) s (add binary64 X Y) Z (least-right (2 ^ p * 2 ^ p) (b * b) s X Y x-plus (square-least-of v.y (2 ^ p) b s r)) z-plus;
  }

  z-among : Among v.z (squared v)
  z-among = record {
    all = λ p h r. let s = square-rounds p h in
        least-right (2 ^ p * 2 ^ p) (b * b) s (add binary64 X Y) Z (least-left 0 1 zero-rounds X Y x-plus y-plus) (square-least-of v.z (2 ^ p) b s r);
  }

-- ---- one over a length, and a number times that
over-most : (r : Float) (n k : ℕ) → 0 < n → 0 < k → Rounds k n k n → T (positive r) → Least r n k → Most (div binary64 one64 r) k n
unfolding of_bits
over-most nan n k N K s t h = absurd t
over-most (inf u) n k N K s t h = absurd t
over-most (fin true m e) n k N K s t h = absurd t
over-most (fin false zero e) n k N K s t h = absurd t
over-most (fin false (suc m) e) n k N K s t h =
    subst (λ (z : Float). Most z k n)
    (sym (div-common binary64 one64 (fin false (suc m) e) false 1 1 false (suc m * up e) (down e) (zero-lt-suc 0) (down_pos e) (mul-pos (zero-lt-suc m) (up_pos e)) (refl, refl) (refl, refl)))
    (round-most false (1 * down e) (suc m * up e * 1) (mul-pos (mul-pos (zero-lt-suc m) (up_pos e)) (zero-lt-suc 0)) s (turn n k (down e) (suc m * up e) h.is.1))
  where
    turn : (n k e x : ℕ) → n * e ≤ x * k → 1 * e * n ≤ k * (x * 1)
    turn n k e x h = omega arith

two-rounds : Rounds 2 1 2 1
two-rounds = whole 2 (lit≤ tt)

units : (P k : ℕ) → 2 * P * k * 1 ≤ 2 * (k * P)
units P k = omega arith

-- a number and a length that is not below what the number reaches
times-most : (c r : Float) (p : ℕ) → p ≤ 597 → Most c (2 * 2 ^ p) b → T (positive r) → Least r (2 ^ p) b → Within (mul binary64 c (div binary64 one64 r)) 2
times-most c r p h C t l =
    mul_most c (div binary64 one64 r) (2 * 2 ^ p) b b (2 ^ p) (pow_pos 537) (pow_pos p) C (over-most r (2 ^ p) b (pow_pos p) (pow_pos 537) (over-rounds p h) t l) two-rounds (units (2 ^ p) b)

-- the sum x of the squares is above zero
module _ (m : ℕ) (e : ℤ) (f : T (fits binary64 (fin false (suc m) e))) where
  abbrev sum_is : Float
  sum_is = fin false (suc m) e

  -- then it is at least 1 / b²
  deepest : 1 * 1 * down e ≤ suc m * up e * (b * b)
  deepest =
      le_trans (le_of_eq (ones (down e))) (le_trans (fitting binary64 false m e f).deep
      (le_trans (le_of_eq (pow-add 2 537 537)) (le-mul (suc m * up e) (b * b) (mul-pos (zero-lt-suc m) (up_pos e)))))
    where
      ones : (d : ℕ) → 1 * 1 * d ≡ d
      ones d = omega arith

      le-mul : (x y : ℕ) → 0 < x → y ≤ x * y
      le-mul zero y h = elim h [ ]
      le-mul (suc x) y h = omega arith

  root-least : (p : ℕ) → p ≤ 597 → 2 ^ p * 2 ^ p * down e ≤ suc m * up e * (b * b) → Least (root_of sum_is) (2 ^ p) b
  root-least p h l =
      above-value m e (2 ^ p) b (pow_pos 537) l (round binary64 false (2 ^ p) b) (root_of sum_is) (round-fits binary64 false (2 ^ p) b) (step_value p h) (root-nearest m e f)

  unit-within : (c : Float) → Within c (2 ^ 60) → Among c sum_is → Within (mul binary64 c (div binary64 one64 (root_of sum_is))) 2
  unit-within nan h a = absurd h.is
  unit-within (inf s) h a = absurd h.is
  unit-within (fin s k g) h a =
      let N : Near (k * up g) (down g) = near (k * up g) (down g) (down_pos g) (subst (λ (z : ℕ). z ≤ 2 ^ 60 * down g) (mul-one (k * up g)) h.is) in
      let M : Most (fin s k g) (2 * 2 ^ N.p) b = record { is = N.above } in
      go N M (dec_le (down g) (k * up g * b))
    where
      positive-root : T (positive (root_of sum_is))
      positive-root = (root-nearest m e f).is

      go : (N : Near (k * up g) (down g)) → Most (fin s k g) (2 * 2 ^ N.p) b → Dec (down g ≤ k * up g * b) → Within (mul binary64 (fin s k g) (div binary64 one64 (root_of sum_is))) 2
      go N M (yes l) =
          times-most (fin s k g) (root_of sum_is) N.p N.most M positive-root
          (root-least N.p N.most (a.all N.p N.most record { is = N.below (λ u. not-le_of_lt u l) }).is.1)
      go N M (no l) =
          times-most (fin s k g) (root_of sum_is) 0 (lit≤ tt) record { is = small (k * up g * b) (down g) l } positive-root (root-least 0 (lit≤ tt) deepest)
        where
          small : (x d : ℕ) → (d ≤ x → ⊥) → x ≤ 2 * 1 * d
          small x d l = omega arith

-- ---- the vector
abbrev over : Float → Float
over sq = div binary64 one64 (answer_where (has_root sq) (root_of sq)).value

module _ (v : Vec3) (B : Vec v (2 ^ 60)) where
  naught : Vec zero_vec 2
  naught = record { x = zero-within 2; y = zero-within 2; z = zero-within 2 }

  either-of : (t : Bool) (u : Vec3) → Vec u 2 → Vec (choose t u zero_vec) 2
  unfolding choose
  either-of true u h = h
  either-of false u h = naught

  units-within : (m : ℕ) (e : ℤ) → T (fits binary64 (fin false (suc m) e)) → Among v.x (fin false (suc m) e) → Among v.y (fin false (suc m) e) → Among v.z (fin false (suc m) e)
      → Vec (scaled v (div binary64 one64 (root_of (fin false (suc m) e)))) 2
  units-within m e f x y z = record { x = unit-within m e f v.x B.x x; y = unit-within m e f v.y B.y y; z = unit-within m e f v.z B.z z }

  by-sum : (sq : Float) → T (fits binary64 sq) → Among v.x sq → Among v.y sq → Among v.z sq → Vec (choose (is_finite (over sq) && lt zero64 (over sq)) (scaled v (over sq)) zero_vec) 2
  unfolding choose has_root root_of div of_bits
  by-sum nan f x y z = naught
  by-sum (inf s) f x y z = naught
  by-sum (fin s zero e) f x y z = naught
  by-sum (fin true (suc m) e) f x y z = naught
  by-sum (fin false (suc m) e) f x y z = either-of (is_finite (over (fin false (suc m) e)) && lt zero64 (over (fin false (suc m) e))) _ (units-within m e f x y z)

  pub normal-within : Vec (normalised v) 2
  unfolding normalised
  normal-within = by-sum (squared v) (add-fits binary64 _ _) (x-among v (2 ^ 60) B) (y-among v (2 ^ 60) B) (z-among v (2 ^ 60) B)
