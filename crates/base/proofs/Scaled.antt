-- f64 values by their exact scaled values: x is over x less under x, in units of 2 ^ -1074, of which every finite f64 is a whole number. Tests are tests on
-- whole numbers (`lt-is`, `le_is`), and a sum is the exact sum rounded (`sum_is`): off by at most half of the last place, no lower than a value that the
-- exact sum is not below, and no higher than one that it is not above. Assumes nothing.
use mathlib.Core.Path.{◌≡◌, refl, sym, ap, ◌∙◌, subst}
use mathlib.Core.Bool.{Bool, true, false}
use Prim.Native.Nat.{ℕ, zero, suc, ◌+◌, ◌-◌, ◌*◌, ◌/◌, ◌^◌, ◌≤◌, ◌<◌}
use native.Mathlib.Nat.{lt_of_le_of_lt, mul_assoc, mul-div_cancel, pow-succ'}
use native.Mathlib.Decide.{dec_le}
use native.Mathlib.Omega.{arith}
use lib.IntN.{ℤ}
use lib.Dec.{T, ltb, leb}
use lib.Pow.{pow-add, pow_pos}
use lib.Ieee.{Float, nan, inf, fin, binary64, up, down, add, neg, lt, le, fits, of_bits}
use lib.Ieee.Fits.{down_pos, add-fits, neg-fits}
use lib.Ieee.Exact.{HasValue}
use lib.Ieee.Scale.{overflow}
use Rattle.base.proofs.Values.{fitting, zero_exp, divides}
use Rattle.base.proofs.Counts.{Signed, At, at-unique, neg-at, add-by, lt_at, le-at}
use Rattle.base.proofs.Rounding.{near, near-high, near-low, near-under, near-value, near-mono, near-own, near-zero}

-- The size of x, and x itself as the difference of two whole numbers, over x less under x, one of which is 0. An infinity counts as 2 ^ 1024.
unfoldable pub scaled_size : Float → ℕ
scaled_size nan = 0
scaled_size (inf s) = 2 ^ 2098
scaled_size (fin s m e) = m * up e * 2 ^ 1074 / down e

unfoldable pub over : Float → ℕ
over nan = 0
over (inf false) = scaled_size (inf false)
over (inf true) = 0
over (fin false m e) = scaled_size (fin false m e)
over (fin true m e) = 0

unfoldable pub under : Float → ℕ
under nan = 0
under (inf false) = 0
under (inf true) = scaled_size (inf true)
under (fin false m e) = 0
under (fin true m e) = scaled_size (fin true m e)

-- ---- a finite value of the format
abbrev pub Finite : Float → Type 0
Finite nan = ⊥
Finite (inf s) = ⊥
Finite (fin s m e) = Unit {0}

pub record Real (x : Float) : Type 0 where
  pub fit : T (fits binary64 x)
  pub finite : Finite x

-- of size at most r units
pub record Within (x : Float) (r : ℕ) : Type 0 where
  pub real : Real x
  pub high : over x ≤ under x + r
  pub low : under x ≤ over x + r

pub widen : {x : Float} {r q : ℕ} → r ≤ q → Within x r → Within x q
widen u h = let a = h.high in let b = h.low in record { real = h.real; high = omega arith; low = omega arith }

-- it is a whole number of units
deep : (s : Bool) (m : ℕ) (e : ℤ) → T (fits binary64 (fin s m e)) → down e ≤ 2 ^ 1074
deep s zero e t = subst (λ (z : ℤ). down z ≤ 2 ^ 1074) (sym (zero_exp binary64 s e t)) (pow_pos 1074)
deep s (suc m) e t = (fitting binary64 s m e t).deep

parts : (a d r l : ℕ) → 0 < d → r * d ≡ l → a * l ≡ a * l / d * d
parts a d r l D e =
    let q : a * l ≡ a * r * d = ap (λ (z : ℕ). a * z) (sym e) ∙ sym (mul_assoc a r d) in
    q ∙ ap (λ (z : ℕ). z * d) (sym (mul-div_cancel (a * r) D) ∙ ap (λ (z : ℕ). z / d) (sym q))

size-value : (s : Bool) (m : ℕ) (e : ℤ) → T (fits binary64 (fin s m e)) → HasValue (fin s m e) s (scaled_size (fin s m e)) (2 ^ 1074)
unfolding scaled_size
size-value s m e t = let d = divides e 1074 (deep s m e t) in (refl, parts (m * up e) (down e) (2 ^ d.rest) (2 ^ 1074) (down_pos e) d.whole)

pub own : {x : Float} → Real x → At (2 ^ 1074) x (over x) (under x)
unfolding over under
own {x} h = go x h.fit h.finite
  where
    go : (x : Float) → T (fits binary64 x) → Finite x → At (2 ^ 1074) x (over x) (under x)
    go nan t u = absurd u
    go (inf s) t u = absurd u
    go (fin false m e) t u = record { sign = false; size = scaled_size (fin false m e); value = size-value false m e t; units = omega arith }
    go (fin true m e) t u = record { sign = true; size = scaled_size (fin true m e); value = size-value true m e t; units = omega arith }

pub at-finite : (c : ℕ) (x : Float) (p n : ℕ) → At c x p n → Finite x
at-finite c nan p n h = h.value
at-finite c (inf s) p n h = h.value
at-finite c (fin s m e) p n h = tt

-- ---- tests
pub lt-is : {x y : Float} → Real x → Real y → lt x y ≡ ltb (over x + under y) (over y + under x)
lt-is {x} {y} h j = lt_at (2 ^ 1074) (pow_pos 1074) x y (over x) (under x) (over y) (under y) (own h) (own j)

pub le_is : {x y : Float} → Real x → Real y → le x y ≡ leb (over x + under y) (over y + under x)
le_is {x} {y} h j = le-at (2 ^ 1074) (pow_pos 1074) x y (over x) (under x) (over y) (under y) (own h) (own j)

-- ---- +0, and the sign
abbrev pub plus_zero : Float
plus_zero = of_bits binary64 0

pub zero-real : Real plus_zero
unfolding of_bits fits
zero-real = record { fit = tt; finite = tt }

pub zero-over : over plus_zero ≡ 0
unfolding of_bits over scaled_size
zero-over = refl

pub zero-under : under plus_zero ≡ 0
unfolding of_bits under
zero-under = refl

pub zero_in : (t : ℕ) → Within plus_zero t
zero_in t = let a = zero-over in let b = zero-under in record { real = zero-real; high = omega arith; low = omega arith }

pub neg-over : (x : Float) → over (neg x) ≡ under x
unfolding neg over under scaled_size
neg-over nan = refl
neg-over (inf false) = refl
neg-over (inf true) = refl
neg-over (fin false m e) = refl
neg-over (fin true m e) = refl

pub neg-under : (x : Float) → under (neg x) ≡ over x
unfolding neg over under scaled_size
neg-under nan = refl
neg-under (inf false) = refl
neg-under (inf true) = refl
neg-under (fin false m e) = refl
neg-under (fin true m e) = refl

pub neg-real : {x : Float} → Real x → Real (neg x)
unfolding neg
neg-real {x} h = record { fit = neg-fits binary64 x h.fit; finite = go x h.finite }
  where
    go : (x : Float) → Finite x → Finite (neg x)
    go nan t = t
    go (inf s) t = t
    go (fin s m e) t = t

pub neg-within : {x : Float} {r : ℕ} → Within x r → Within (neg x) r
neg-within {x} {r} h =
    let a : over (neg x) ≡ under x = neg-over x in
    let b : under (neg x) ≡ over x = neg-under x in
    record { real = neg-real h.real; high = omega (arith, h.low); low = omega (arith, h.high) }

-- ---- the sum: z is x + y rounded, off by at most h
pub record Sum (x y z : Float) (h : ℕ) : Type 0 where
  pub real : Real z
  pub high : over z + (under x + under y) ≤ over x + over y + under z + h
  pub low : over x + over y + under z ≤ over z + (under x + under y) + h
  pub least : (w : Float) (q : ℕ) → Within w q → q < 2 ^ 54 * h → over w + (under x + under y) ≤ over x + over y + under w → over w + under z ≤ over z + under w
  pub most : (w : Float) (q : ℕ) → Within w q → q < 2 ^ 54 * h → over x + over y + under w ≤ over w + (under x + under y) → over z + under w ≤ over w + under z
  pub up : under y ≤ over y → over x + under z ≤ over z + under x
  pub down : over y ≤ under y → over z + under x ≤ over x + under z
  pub plus : under x + under y ≤ over x + over y → under z ≤ over z
  pub minus : over x + over y ≤ under x + under y → over z ≤ under z

-- the arithmetic of it, with p - n for the exact sum, a - b for what it is rounded to, and z - z' for the result
first : (r q : ℕ) → r ≤ r + q
first r q = omega arith

together : (x y x' y' r q : ℕ) → x ≤ x' + r → y ≤ y' + q → x + y - (x' + y') ≤ r + q
together x y x' y' r q h k = omega arith

cut : (a b r : ℕ) → a ≤ b + r → a - b ≤ r
cut a b r h = omega arith

gone : (p n : ℕ) → p ≤ n → p - n ≡ 0
gone p n k = omega arith

module _ (p n z z' a b h : ℕ) (e : a + z' ≡ z + b) where
  high-of : a ≤ p - n + h → n - p ≤ b + h → (p ≤ n → a ≡ 0) → (n ≤ p → b ≡ 0) → z + n ≤ p + z' + h
  high-of u v f g = elim (dec_le p n) [ yes k ↦ (let w : a ≡ 0 = f k in omega arith) | no k ↦ (let w : b ≡ 0 = g (omega arith) in omega arith) ]

  low_of : p - n ≤ a + h → b ≤ n - p + h → (p ≤ n → a ≡ 0) → (n ≤ p → b ≡ 0) → p + z' ≤ z + n + h
  low_of u v f g = elim (dec_le p n) [ yes k ↦ (let w : a ≡ 0 = f k in omega arith) | no k ↦ (let w : b ≡ 0 = g (omega arith) in omega arith) ]

module _ (x x' z z' a b : ℕ) (e : a + z' ≡ z + b) where
  least-of : x - x' ≤ a → b ≤ x' - x → x + z' ≤ z + x'
  least-of u v = omega arith

  most-of : a ≤ x - x' → x' - x ≤ b → z + x' ≤ x + z'
  most-of u v = omega arith

half : (a b c : ℕ) → 2 * a ≤ 2 * b + 2 * c → a ≤ b + c
half a b c h = omega arith

module _ (j : ℕ) (J : j ≤ 1100) where
  exponent : (n : ℕ) → n < 2 ^ 54 * 2 ^ j → n < 2 ^ (53 + suc j)
  exponent n h = subst (λ (z : ℕ). n < z) (sym (pow-add 2 54 j) ∙ ap (λ (z : ℕ). 2 ^ z) (shift j)) h
    where
      shift : (j : ℕ) → 54 + j ≡ 53 + suc j
      shift j = omega arith

  under_all : (n : ℕ) → n < 2 ^ 54 * 2 ^ j → near binary64 n < overflow binary64
  under_all n h = near-under binary64 n (suc j) (exponent n h) (room j J)
    where
      room : (j : ℕ) → j ≤ 1100 → 53 + suc j < 1074 + 1024
      room j J = omega arith

  high-all : (n : ℕ) → n < 2 ^ 54 * 2 ^ j → near binary64 n ≤ n + 2 ^ j
  high-all n h = half (near binary64 n) n (2 ^ j) (subst (λ (z : ℕ). 2 * near binary64 n ≤ 2 * n + z) (pow-succ' 2 j) (near-high binary64 n (suc j) (exponent n h)))

  low-all : (n : ℕ) → n < 2 ^ 54 * 2 ^ j → n ≤ near binary64 n + 2 ^ j
  low-all n h = half n (near binary64 n) (2 ^ j) (subst (λ (z : ℕ). 2 * n ≤ 2 * near binary64 n + z) (pow-succ' 2 j) (near-low binary64 n (suc j) (exponent n h)))

  -- a value of the format is not rounded
  own-near : (x : Float) (p n : ℕ) → T (fits binary64 x) → At (2 ^ 1074) x p n → p - n < 2 ^ 54 * 2 ^ j → near binary64 (p - n) ≡ p - n
  own-near x p n t h S = go h.sign h.size h.value h.units
    where
      go : (s : Bool) (k : ℕ) → HasValue x s k (2 ^ 1074) → Signed s k p n → near binary64 (p - n) ≡ p - n
      go false k v u = let e : k ≡ p - n = omega arith in near-own binary64 x false (p - n) t (subst (λ (z : ℕ). HasValue x false z (2 ^ 1074)) e v) (under_all (p - n) S)
      go true k v u = let e : p - n ≡ 0 = omega arith in subst (λ (z : ℕ). near binary64 z ≡ z) (sym e) (near-zero binary64)

  module _ (x y : Float) (r q : ℕ) (X : Within x r) (Y : Within y q) (S : r + q < 2 ^ 54 * 2 ^ j) where
    -- the exact sum, and what it is rounded to: of each the part above 0 and that below
    abbrev exact_over : ℕ
    exact_over = over x + over y - (under x + under y)

    abbrev exact_under : ℕ
    exact_under = under x + under y - (over x + over y)

    abbrev near_over : ℕ
    near_over = near binary64 exact_over

    abbrev near_under : ℕ
    near_under = near binary64 exact_under

    small-over : exact_over < 2 ^ 54 * 2 ^ j
    small-over = lt_of_le_of_lt (together (over x) (over y) (under x) (under y) r q X.high Y.high) S

    small-under : exact_under < 2 ^ 54 * 2 ^ j
    small-under = lt_of_le_of_lt (together (under x) (under y) (over x) (over y) r q X.low Y.low) S

    none_over : over x + over y ≤ under x + under y → near_over ≡ 0
    none_over k = ap (near binary64) (gone (over x + over y) (under x + under y) k) ∙ near-zero binary64

    none-under : under x + under y ≤ over x + over y → near_under ≡ 0
    none-under k = ap (near binary64) (gone (under x + under y) (over x + over y) k) ∙ near-zero binary64

    sum-at : At (2 ^ 1074) (add binary64 x y) near_over near_under
    sum-at =
        add-by binary64 (2 ^ 1074) (λ (z : Float). At (2 ^ 1074) z near_over near_under) (over x) (under x) (over y) (under y)
        (λ k e.
        let a : k ≡ exact_over = omega arith in
        let z : near_under ≡ 0 = none-under (omega arith) in
        let w : near binary64 k ≡ near_over = ap (near binary64) a in
        record { sign = false; size = near binary64 k; value = near-value binary64 false k (subst (λ (i : ℕ). near binary64 i < overflow binary64) (sym a) (under_all exact_over small-over)); units = omega (arith, z, w) })
        (λ k e.
        let a : k ≡ exact_under = omega arith in
        let z : near_over ≡ 0 = none_over (omega arith) in
        let w : near binary64 k ≡ near_under = ap (near binary64) a in
        record { sign = true; size = near binary64 k; value = near-value binary64 true k (subst (λ (i : ℕ). near binary64 i < overflow binary64) (sym a) (under_all exact_under small-under)); units = omega (arith, z, w) })
        x y (pow_pos 1074) (own X.real) (own Y.real)

    sum-real : Real (add binary64 x y)
    sum-real = record { fit = add-fits binary64 x y; finite = at-finite (2 ^ 1074) (add binary64 x y) near_over near_under sum-at }

    sum_same : near_over + under (add binary64 x y) ≡ over (add binary64 x y) + near_under
    sum_same = at-unique (2 ^ 1074) (add binary64 x y) near_over near_under (over (add binary64 x y)) (under (add binary64 x y)) sum-at (own sum-real)

    -- a value w that the exact sum is not below, and one that it is not above
    module _ (w : Float) (t : ℕ) (W : Within w t) (R : t < 2 ^ 54 * 2 ^ j) where
      w-over : over w - under w < 2 ^ 54 * 2 ^ j
      w-over = lt_of_le_of_lt (cut (over w) (under w) t W.high) R

      w-under : under w - over w < 2 ^ 54 * 2 ^ j
      w-under = lt_of_le_of_lt (cut (under w) (over w) t W.low) R

      own-over : near binary64 (over w - under w) ≡ over w - under w
      own-over = own-near w (over w) (under w) W.real.fit (own W.real) w-over

      own-under : near binary64 (under w - over w) ≡ under w - over w
      own-under = own-near (neg w) (under w) (over w) (neg-fits binary64 w W.real.fit) (neg-at (2 ^ 1074) w (over w) (under w) (own W.real)) w-under

      at_least : over w + (under x + under y) ≤ over x + over y + under w → over w + under (add binary64 x y) ≤ over (add binary64 x y) + under w
      at_least k =
          least-of (over w) (under w) (over (add binary64 x y)) (under (add binary64 x y)) near_over near_under sum_same
          (subst (λ (v : ℕ). v ≤ near_over) own-over (near-mono binary64 (over w - under w) exact_over (under_all (over w - under w) w-over) (under_all exact_over small-over) (omega arith)))
          (subst (λ (v : ℕ). near_under ≤ v) own-under (near-mono binary64 exact_under (under w - over w) (under_all exact_under small-under) (under_all (under w - over w) w-under) (omega arith)))

      at_most : over x + over y + under w ≤ over w + (under x + under y) → over (add binary64 x y) + under w ≤ over w + under (add binary64 x y)
      at_most k =
          most-of (over w) (under w) (over (add binary64 x y)) (under (add binary64 x y)) near_over near_under sum_same
          (subst (λ (v : ℕ). near_over ≤ v) own-over (near-mono binary64 exact_over (over w - under w) (under_all exact_over small-over) (under_all (over w - under w) w-over) (omega arith)))
          (subst (λ (v : ℕ). v ≤ near_under) own-under (near-mono binary64 (under w - over w) exact_under (under_all (under w - over w) w-under) (under_all exact_under small-under) (omega arith)))

    pub sum_is : Sum x y (add binary64 x y) (2 ^ j)
    sum_is =
        let z = over (add binary64 x y) in
        let z' = under (add binary64 x y) in
        let R : r < 2 ^ 54 * 2 ^ j = lt_of_le_of_lt (first r q) S in
        let Z : 0 < 2 ^ 54 * 2 ^ j = lt_of_le_of_lt (from_zero r) R in
        let a = zero-over in
        let b = zero-under in
        record {
          real = sum-real;
          high = high-of (over x + over y) (under x + under y) z z' near_over near_under (2 ^ j) sum_same (high-all exact_over small-over) (low-all exact_under small-under) none_over none-under;
          low = low_of (over x + over y) (under x + under y) z z' near_over near_under (2 ^ j) sum_same (low-all exact_over small-over) (high-all exact_under small-under) none_over none-under;
          least = at_least;
          most = at_most;
          up = λ (k : under y ≤ over y). at_least x r X R (omega arith);
          down = λ (k : over y ≤ under y). at_most x r X R (omega arith);
          plus = λ (k : under x + under y ≤ over x + over y). let l = at_least plus_zero 0 (zero_in 0) Z (omega arith) in omega arith;
          minus = λ (k : over x + over y ≤ under x + under y). let l = at_most plus_zero 0 (zero_in 0) Z (omega arith) in omega arith;
        }
      where
        from_zero : (r : ℕ) → 0 ≤ r
        from_zero r = omega arith
