-- Bounds of rounded numbers. `Most x a c`: x is finite, of size at most a / c. `Least x a c`: x is not below a / c, or +inf. Rounding keeps the order,
-- so a result is bounded by whatever value bounds the exact one. `Within x n`, for whole n up to 2 ^ 53: a sum of numbers within n and m is within
-- n + m, a product within n * m. Over the kit's floats alone. Assumes nothing.
use mathlib.Core.Path.{◌≡◌, refl, sym, ap, ◌∙◌, subst}
use mathlib.Core.Bool.{Bool, true, false, not, ◌&&◌, ◌||◌, beq, cond, true≢false}
use Prim.Native.Nat.{ℕ, zero, suc, ◌+◌, ◌-◌, ◌*◌, ◌/◌, ◌%◌, ◌^◌, ◌≤◌, ◌<◌, compare}
use native.Mathlib.Nat.{le_of_eq, le_trans, le_of_lt, mul-pos, mul-le-mul_right, mul-le-mul_left, zero-lt-suc}
use native.Mathlib.Omega.{arith}
use lib.IntN.{pos}
use lib.Dec.{T, ltb, eqb, ltb→lt, eqb→eq}
use lib.Ieee.{Float, nan, inf, fin, Format, binary64, prec, emax, low, up, down, size, nearest, odd, units, round, neg, sum, add, sub, mul, div, lt, le, eq}
use lib.Ieee.Fits.{down_pos, round_is}
use lib.Ieee.Exact.{HasValue, odd_sign}
use lib.Ieee.Back.{round_whole}
use lib.Ieee.Order.{drop, kept, round_mono}
use lib.Ieee.Positive.{through}
use Rattle.base.specs.Choose.{choose}

-- ---- rounding is the same on either side of zero
neg-odd : (d : ℕ) (s : Bool) (q k l : ℕ) → neg (odd d (not s) q k l) ≡ odd d s q k l
unfolding neg odd
neg-odd d true zero k l = refl
neg-odd d false zero k l = refl
neg-odd d true (suc q) k l = refl
neg-odd d false (suc q) k l = refl

neg-inf : (s : Bool) → neg (inf (not s)) ≡ inf s
unfolding neg
neg-inf true = refl
neg-inf false = refl

neg-cond : (b : Bool) (x y : Float) → neg (cond b x y) ≡ cond b (neg x) (neg y)
neg-cond true x y = refl
neg-cond false x y = refl

neg-units : (f : Format) (s : Bool) (q k : ℕ) → neg (units f (not s) q k) ≡ units f s q k
unfolding units
neg-units f s q k =
    let b = ltb (q * 2 ^ k) (2 ^ (low f + suc (emax f))) in
    neg-cond b (odd (suc (prec f)) (not s) q k (low f)) (inf (not s))
    ∙ ap (λ (x : Float). cond b x (neg (inf (not s)))) (neg-odd (suc (prec f)) s q k (low f))
    ∙ ap (λ (x : Float). cond b (odd (suc (prec f)) s q k (low f)) x) (neg-inf s)

pub neg-round : (f : Format) (s : Bool) (num den : ℕ) → neg (round f (not s) num den) ≡ round f s num den
unfolding round
neg-round f s num den =
    let n = num * 2 ^ low f in
    let k = size (n / den) - prec f in
    let u = den * 2 ^ k in
    neg-units f s (nearest (n / u) (compare (n % u * 2) u)) k

-- ---- bounds
abbrev pub Sized : Float → ℕ → ℕ → Type 0
Sized nan a c = ⊥
Sized (inf s) a c = ⊥
Sized (fin s m e) a c = m * up e * c ≤ a * down e

pub record Most (x : Float) (a c : ℕ) : Type 0 where
  pub is : Sized x a c

abbrev pub Reaches : Float → ℕ → ℕ → Type 0
Reaches nan a c = ⊥
Reaches (inf s) a c = s ≡ false
Reaches (fin s m e) a c = (s ≡ false) × (a * down e ≤ m * up e * c)

pub record Least (x : Float) (a c : ℕ) : Type 0 where
  pub is : Reaches x a c

-- the sign of what is rounded
abbrev pub HasSign : Float → Bool → Type 0
HasSign nan s = ⊥
HasSign (inf t) s = t ≡ s
HasSign (fin t m e) s = t ≡ s

value-sign : (x : Float) (s : Bool) (a c : ℕ) → HasValue x s a c → HasSign x s
value-sign nan s a c v = v
value-sign (inf t) s a c v = absurd v
value-sign (fin t m e) s a c v = v.0

cond-sign : (b : Bool) (x y : Float) (s : Bool) → HasSign x s → HasSign y s → HasSign (cond b x y) s
cond-sign true x y s h k = h
cond-sign false x y s h k = k

units-sign : (f : Format) (s : Bool) (q k : ℕ) → HasSign (units f s q k) s
unfolding units
units-sign f s q k =
    let x : Float = odd (suc (prec f)) s q k (low f) in
    cond-sign (ltb (q * 2 ^ k) (2 ^ (low f + suc (emax f)))) x (inf s) s (value-sign x s (q * 2 ^ k) (2 ^ low f) (odd_sign (suc (prec f)) s q k (low f))) refl

pub round-sign : (f : Format) (s : Bool) (a c : ℕ) → HasSign (round f s a c) s
round-sign f s a c =
    let k : ℕ = drop (prec f) (a * 2 ^ low f) c in
    subst (λ (x : Float). HasSign x s) (sym (round_is f s a c)) (units-sign f s (kept (prec f) (a * 2 ^ low f) c) k)

-- ---- a number not above one of a known value, and one not below
pub or-le : (a b : ℕ) (u : Bool) → T (ltb a b || (eqb a b && u)) → a ≤ b
or-le a b u = go (ltb a b) (eqb a b) (ltb→lt a b) (eqb→eq a b)
  where
    go : (p q : Bool) → (T p → a < b) → (T q → a ≡ b) → T (p || (q && u)) → a ≤ b
    go true q f g t = le_of_lt (f tt)
    go false true f g t = le_of_eq (g tt)
    go false false f g t = absurd t

pub le-most : (x y : Float) (a c : ℕ) → HasSign x false → HasValue y false a c → T (le x y) → Most x a c
unfolding le lt eq
le-most nan y a c s v t = absurd s
le-most (inf u) nan a c s v t = absurd v
le-most (inf u) (inf w) a c s v t = absurd v
le-most (inf true) (fin w n d) a c s v t = absurd (true≢false s)
le-most (inf false) (fin w n d) a c s v t = absurd t
le-most (fin true m e) y a c s v t = absurd (true≢false s)
le-most (fin false m e) nan a c s v t = absurd v
le-most (fin false m e) (inf w) a c s v t = absurd v
le-most (fin false m e) (fin true n d) a c s v t = absurd (true≢false v.0)
le-most (fin false m e) (fin false n d) a c s v t =
    record { is = through (m * up e) (n * up d) a (down e) (down d) c (down_pos d) (or-le _ _ true t) (le_of_eq v.1) }

pub le-least : (y x : Float) (a c : ℕ) → HasSign x false → HasValue y false a c → T (le y x) → Least x a c
unfolding le lt eq
le-least y nan a c s v t = absurd s
le-least y (inf u) a c s v t = record { is = s }
le-least nan (fin u m e) a c s v t = absurd v
le-least (inf w) (fin u m e) a c s v t = absurd v
le-least (fin true n d) (fin u m e) a c s v t = absurd (true≢false v.0)
le-least (fin false n d) (fin true m e) a c s v t = absurd (true≢false s)
le-least (fin false n d) (fin false m e) a c s v t =
    record { is = (refl, through a (n * up d) (m * up e) c (down d) (down e) (down_pos d) (le_of_eq (sym v.1)) (or-le _ _ true t)) }

-- ---- rounding
neg-most : (x : Float) (a c : ℕ) → Most x a c → Most (neg x) a c
unfolding neg
neg-most nan a c h = h
neg-most (inf s) a c h = record { is = h.is }
neg-most (fin s m e) a c h = record { is = h.is }

-- a / c is p / q, to the nearest
pub record Rounds (p q a c : ℕ) : Type 0 where
  pub below : 0 < q
  pub value : HasValue (round binary64 false p q) false a c

plus-most : {p q a c : ℕ} (n d : ℕ) → 0 < d → Rounds p q a c → n * q ≤ p * d → Most (round binary64 false n d) a c
plus-most {p} {q} {a} {c} n d D r h = le-most _ _ a c (round-sign binary64 false n d) r.value (round_mono binary64 n d p q D r.below h)

pub round-most : {p q a c : ℕ} (s : Bool) (n d : ℕ) → 0 < d → Rounds p q a c → n * q ≤ p * d → Most (round binary64 s n d) a c
round-most false n d D r h = plus-most n d D r h
round-most {a = a} {c = c} true n d D r h = subst (λ (x : Float). Most x a c) (neg-round binary64 true n d) (neg-most _ a c (plus-most n d D r h))

pub round-least : {p q a c : ℕ} (n d : ℕ) → 0 < d → Rounds p q a c → p * d ≤ n * q → Least (round binary64 false n d) a c
round-least {p} {q} {a} {c} n d D r h = le-least _ _ a c (round-sign binary64 false n d) r.value (round_mono binary64 p q n d r.below D h)

-- whole numbers up to 2 ^ 53 are values
pub whole : (n : ℕ) → n ≤ 2 ^ 53 → Rounds n 1 n 1
whole n h = record { below = zero-lt-suc 0; value = round_whole binary64 false n h }

-- ---- sums
cond-most : (b : Bool) (x y : Float) (a c : ℕ) → Most x a c → Most y a c → Most (cond b x y) a c
cond-most true x y a c h k = h
cond-most false x y a c h k = k

less-l : (a b q u : ℕ) → (a + b) * q ≤ u → (a - b) * q ≤ u
less-l a b q u h = le_trans (mul-le-mul_right q (small a b)) h
  where
    small : (a b : ℕ) → a - b ≤ a + b
    small a b = omega arith

less-r : (a b q u : ℕ) → (a + b) * q ≤ u → (b - a) * q ≤ u
less-r a b q u h = le_trans (mul-le-mul_right q (small a b)) h
  where
    small : (a b : ℕ) → b - a ≤ a + b
    small a b = omega arith

sum-most : {p q a c : ℕ} (s t : Bool) (n m d : ℕ) → 0 < d → Rounds p q a c → (n + m) * q ≤ p * d → Most (sum binary64 s n t m d) a c
unfolding sum
sum-most {p} {q} {a} {c} s t n m d D r h =
    cond-most (beq s t) _ _ a c (round-most s (n + m) d D r h)
    (cond-most (ltb n m) _ _ a c (round-most t (m - n) d D r (less-r n m q _ h)) (round-most (s && ltb m n) (n - m) d D r (less-l n m q _ h)))

-- x and y of size at most n / k and m / k, and (n + m) / k at most p / q
module _ (n m k : ℕ) (K : 0 < k) where
  joined : (x y e d p q : ℕ) → x * k ≤ n * e → y * k ≤ m * d → (n + m) * q ≤ p * k → (x * d + y * e) * q ≤ p * (e * d)
  joined x y e d p q h g l = through (x * d + y * e) (n + m) p (e * d) k q K (both (mul-le-mul_right d h) (mul-le-mul_right e g)) l
    where
      both : x * k * d ≤ n * e * d → y * k * e ≤ m * d * e → (x * d + y * e) * k ≤ (n + m) * (e * d)
      both u v = omega arith

  pub add_most : {p q a c : ℕ} (x y : Float) → Most x n k → Most y m k → Rounds p q a c → (n + m) * q ≤ p * k → Most (add binary64 x y) a c
  unfolding add
  add_most nan y h g r l = absurd h.is
  add_most (inf s) y h g r l = absurd h.is
  add_most (fin s i e) nan h g r l = absurd g.is
  add_most (fin s i e) (inf t) h g r l = absurd g.is
  add_most {p} {q} (fin s i e) (fin t j d) h g r l =
      sum-most s t (i * up e * down d) (j * up d * down e) (down e * down d) (mul-pos (down_pos e) (down_pos d)) r
      (joined (i * up e) (j * up d) (down e) (down d) p q h.is g.is l)

  pub sub-most : {p q a c : ℕ} (x y : Float) → Most x n k → Most y m k → Rounds p q a c → (n + m) * q ≤ p * k → Most (sub binary64 x y) a c
  unfolding sub
  sub-most x y h g r l = add_most x (neg y) h (neg-most y m k g) r l

-- ---- products
pub mul_most : {p q a c : ℕ} (x y : Float) (n k m l : ℕ) → 0 < k → 0 < l → Most x n k → Most y m l → Rounds p q a c → n * m * q ≤ p * (k * l) → Most (mul binary64 x y) a c
unfolding mul
mul_most nan y n k m l K L h g r w = absurd h.is
mul_most (inf s) y n k m l K L h g r w = absurd h.is
mul_most (fin s i e) nan n k m l K L h g r w = absurd g.is
mul_most (fin s i e) (inf t) n k m l K L h g r w = absurd g.is
mul_most {p} {q} (fin s i e) (fin t j d) n k m l K L h g r w =
    round-most _ (i * up e * (j * up d)) (down e * down d) (mul-pos (down_pos e) (down_pos d)) r
    (through (i * up e * (j * up d)) (n * m) p (down e * down d) (k * l) q (mul-pos K L) (times (i * up e) (j * up d) (down e) (down d) h.is g.is) w)
  where
    times : (x y e d : ℕ) → x * k ≤ n * e → y * l ≤ m * d → x * y * (k * l) ≤ n * m * (e * d)
    times x y e d u v =
        let a : x * k * (y * l) ≤ n * e * (y * l) = mul-le-mul_right (y * l) u in
        let b : n * e * (y * l) ≤ n * e * (m * d) = mul-le-mul_left (n * e) v in
        omega arith

-- ---- whole bounds
abbrev pub Within : Float → ℕ → Type 0
Within x n = Most x n 1

ones : (n m : ℕ) → (n + m) * 1 ≤ (n + m) * 1
ones n m = omega arith

pub add-within : (x y : Float) (n m : ℕ) → Within x n → Within y m → n + m ≤ 2 ^ 53 → Within (add binary64 x y) (n + m)
add-within x y n m h g l = add_most n m 1 (zero-lt-suc 0) x y h g (whole (n + m) l) (ones n m)

pub sub_within : (x y : Float) (n m : ℕ) → Within x n → Within y m → n + m ≤ 2 ^ 53 → Within (sub binary64 x y) (n + m)
sub_within x y n m h g l = sub-most n m 1 (zero-lt-suc 0) x y h g (whole (n + m) l) (ones n m)

pub mul-within : (x y : Float) (n m : ℕ) → Within x n → Within y m → n * m ≤ 2 ^ 53 → Within (mul binary64 x y) (n * m)
mul-within x y n m h g l = mul_most x y n 1 m 1 (zero-lt-suc 0) (zero-lt-suc 0) h g (whole (n * m) l) (le_of_eq refl)

pub neg-within : (x : Float) (n : ℕ) → Within x n → Within (neg x) n
neg-within x n h = neg-most x n 1 h

pub more : (x : Float) (n m : ℕ) → Within x n → n ≤ m → Within x m
more nan n m h l = absurd h.is
more (inf s) n m h l = absurd h.is
more (fin s i e) n m h l = record { is = le_trans h.is (mul-le-mul_right (down e) l) }

pub either-most : (b : Bool) (x y : Float) (a c : ℕ) → Most x a c → Most y a c → Most (choose b x y) a c
unfolding choose
either-most true x y a c h k = h
either-most false x y a c h k = k

-- half of a number
pub half-within : (x : Float) (n : ℕ) → Within x (2 * n) → n ≤ 2 ^ 53 → Within (div binary64 x (fin false 1 (pos 1))) n
unfolding div
half-within nan n h l = absurd h.is
half-within (inf s) n h l = absurd h.is
half-within (fin s m e) n h l =
    round-most _ (m * up e * 1) (1 * 2 * down e) (mul-pos (zero-lt-suc 1) (down_pos e)) (whole n l) (halved (m * up e) (down e) h.is)
  where
    halved : (x d : ℕ) → x * 1 ≤ 2 * n * d → x * 1 * 1 ≤ n * (1 * 2 * d)
    halved x d h = omega arith

-- ---- a sum that stays: what is added is less than half of the last place at 2 ^ 60
far-rounds : Rounds (2 ^ 60 + 16) 1 (2 ^ 60) 1
unfolding round
far-rounds = record { below = zero-lt-suc 0; value = (refl, refl) }

pub stays : (x y : Float) → Within x (2 ^ 60) → Within y 16 → Within (add binary64 x y) (2 ^ 60)
stays x y h g = add_most (2 ^ 60) 16 1 (zero-lt-suc 0) x y h g far-rounds (le_of_eq refl)
