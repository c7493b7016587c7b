-- The floor by what `%` 1.0 leaves behind the point, on plain values: a is m * up e and c is down e, so that the size of x is a / c. Assumes nothing.
use mathlib.Core.Path.{◌≡◌, refl, sym, ap, ◌∙◌, subst}
use Prim.Native.Nat.{ℕ, zero, suc, ◌+◌, ◌-◌, ◌*◌, ◌/◌, ◌%◌, ◌^◌, ◌≤◌, ◌<◌}
use native.Mathlib.Nat.{le_of_eq, le_trans, le_of_lt, lt_of_le_of_lt, zero-lt-suc, add-zero, mul-one, one-mul, zero-mul, mod-le, mod-lt, mod-one, div-le_self, div-add-mod', mul-add-div_right, div-eq_of_lt, eq_of_mul-eq-mul_right, add-mul}
use native.Mathlib.Omega.{arith}
use mathlib.Core.Bool.{Bool, true, false, not, ◌&&◌, cond, true≢false, false≢true}
use lib.IntN.{ℤ, pos, negsuc}
use lib.Dec.{T, ltb}
use lib.Pow.{pow_pos}
use lib.Ieee.{Float, nan, inf, fin, Format, binary64, prec, low, up, down, round, neg, sub, sum, rem, eq, lt, fits}
use lib.Ieee.Fits.{down_pos}
use lib.Ieee.Exact.{HasValue}
use lib.Ieee.Back.{round_whole}
use lib.Ieee.Scale.{round_same}
use borrow.Author.Tests.{ltb-false, le-ltb}
use Rattle.floats.specs.Numbers.{is_finite}
use Rattle.floats.proofs.Zeros.{zero_f, is_zero, not-zero, below-zero, not-below-zero}
use Rattle.base.proofs.Bounds.{neg-round}
use Rattle.wholes.specs.Whole.{floor_size, floor_of, ceil_of}
use Rattle.base.proofs.Values.{fitting, zero_exp, round-small, round-back, sub-common}

abbrev pub one_f : Float
one_f = fin false 1 (pos 0)

-- ---- what a value that fits has
pub small : (f : Format) (s : Bool) (m : ℕ) (e : ℤ) → T (fits f (fin s m e)) → m < 2 ^ prec f
small f s zero e t = pow_pos (prec f)
small f s (suc m) e t = (fitting f s m e t).small

deep : (f : Format) (s : Bool) (m : ℕ) (e : ℤ) → T (fits f (fin s m e)) → down e ≤ 2 ^ low f
deep f s zero e t = subst (λ (z : ℤ). down z ≤ 2 ^ low f) (sym (zero_exp f s e t)) (pow_pos (low f))
deep f s (suc m) e t = (fitting f s m e t).deep

-- ---- the part behind the point
part_small : (p m : ℕ) (e : ℤ) → m < p → m * up e % down e < p
part_small p m (pos k) h = subst (λ (x : ℕ). x < p) (sym (mod-one (m * 2 ^ k))) (above m p h)
  where
    above : (x y : ℕ) → x < y → 0 < y
    above x y l = omega arith
part_small p m (negsuc k) h = lt_of_le_of_lt (le_trans (mod-le (m * 1) (2 ^ suc k)) (le_of_eq (mul-one m))) h

rem_is : (f : Format) (s : Bool) (m : ℕ) (e : ℤ) → rem f (fin s m e) one_f ≡ round f s (m * up e % down e) (down e)
unfolding rem
rem_is f s m e =
    ap (λ (x : ℕ). round f s (x % (1 * down e)) (down e * 1)) (mul-one (m * up e))
    ∙ ap (λ (x : ℕ). round f s (m * up e % x) (down e * 1)) (one-mul (down e))
    ∙ ap (λ (x : ℕ). round f s (m * up e % down e) x) (mul-one (down e))

pub rem-val : (f : Format) (s : Bool) (m : ℕ) (e : ℤ) → T (fits f (fin s m e)) → HasValue (rem f (fin s m e) one_f) s (m * up e % down e) (down e)
rem-val f s m e t =
    subst (λ (x : Float). HasValue x s (m * up e % down e) (down e)) (sym (rem_is f s m e))
    (round-small f s (m * up e % down e) e (part_small (2 ^ prec f) m e (small f s m e t)) (deep f s m e t))

-- ---- the sum that takes it off
pick : (x y : Float) (b : Bool) → b ≡ false → cond b x y ≡ y
pick x y true h = absurd (true≢false h)
pick x y false h = refl

sum_less : (f : Format) (s : Bool) (a r c : ℕ) → r ≤ a → sum f s a (not s) r c ≡ round f (s && ltb r a) (a - r) c
unfolding sum
sum_less f true a r c h = pick (round f false (r - a) c) (round f (true && ltb r a) (a - r) c) (ltb a r) (le-ltb a r h)
sum_less f false a r c h = pick (round f true (r - a) c) (round f (false && ltb r a) (a - r) c) (ltb a r) (le-ltb a r h)

off : (a q r : ℕ) → q + r ≡ a → a - r ≡ q
off a q r h = omega arith

pub cut-is : (f : Format) (s : Bool) (m : ℕ) (e : ℤ) → T (fits f (fin s m e)) → sub f (fin s m e) (rem f (fin s m e) one_f) ≡ round f (s && ltb (m * up e % down e) (m * up e)) (m * up e / down e) 1
cut-is f s m e t =
    let a = m * up e in
    let c = down e in
    let g = s && ltb (a % c) a in
    sub-common f (fin s m e) (rem f (fin s m e) one_f) s a s (a % c) c (down_pos e) (refl, refl) (rem-val f s m e t)
    ∙ sum_less f s a (a % c) c (mod-le a c)
    ∙ round_same f g (a - a % c) c (a / c) 1 (down_pos e) (zero-lt-suc 0) (mul-one (a - a % c) ∙ off a (a / c * c) (a % c) (div-add-mod' a c))

-- ---- and one more for a negative x
pub one_more : (f : Format) (g : Bool) (n : ℕ) → (g ≡ false → n ≡ 0) → sum f g n true 1 1 ≡ round f true (n + 1) 1
unfolding sum
one_more f true n z = refl
one_more f false n z = subst (λ (x : ℕ). sum f false x true 1 1 ≡ round f true (x + 1) 1) (sym (z refl)) refl

cut_small : (f : Format) (m : ℕ) (e : ℤ) → m < 2 ^ prec f → (m * up e % down e ≡ 0 → ⊥) → m * up e / down e ≤ 2 ^ prec f
cut_small f m (pos k) h n = absurd (n (mod-one (m * 2 ^ k)))
cut_small f m (negsuc k) h n = le_trans (div-le_self (m * 1) (2 ^ suc k)) (le_trans (le_of_eq (mul-one m)) (le_of_lt h))

none_left : (a r q c : ℕ) → 0 < c → q * c + r ≡ a → a ≤ r → q ≡ 0
none_left a r q c C h l =
    let z : q * c ≡ 0 = omega arith in
    eq_of_mul-eq-mul_right c C q 0 (z ∙ sym (zero-mul c))

pub down-one : (f : Format) (m : ℕ) (e : ℤ) → T (fits f (fin true m e)) → (m * up e % down e ≡ 0 → ⊥) → sub f (sub f (fin true m e) (rem f (fin true m e) one_f)) one_f ≡ round f true (m * up e / down e + 1) 1
down-one f m e t n =
    let a = m * up e in
    let c = down e in
    let q = a / c in
    let g = ltb (a % c) a in
    ap (λ (x : Float). sub f x one_f) (cut-is f true m e t)
    ∙ sub-common f (round f g q 1) one_f g q false 1 1 (zero-lt-suc 0) (round_whole f g q (cut_small f m e (small f true m e t) n)) (refl, refl)
    ∙ one_more f g q (λ (h : g ≡ false). none_left a (a % c) q c (down_pos e) (div-add-mod' a c) (ltb-false (a % c) a h))

-- ---- the size of the floor
quotient : (q c y : ℕ) → y < c → (q * c + y) / c ≡ q
quotient q c y h = mul-add-div_right (above c y h) q y ∙ ap (λ (x : ℕ). q + x) (div-eq_of_lt h) ∙ add-zero q
  where
    above : (c y : ℕ) → y < c → 0 < c
    above c y l = omega arith

pub whole-size : (s : Bool) (a c : ℕ) → 0 < c → a % c ≡ 0 → floor_size s a c ≡ a / c
unfolding floor_size
whole-size false a c C z = refl
whole-size true a c C z = ap (λ (x : ℕ). x / c) (moved a (a / c * c) (a % c) c (div-add-mod' a c) z) ∙ quotient (a / c) c (c - 1) (last c C)
  where
    moved : (a q r c : ℕ) → q + r ≡ a → r ≡ 0 → a + (c - 1) ≡ q + (c - 1)
    moved a q r c h z = omega arith

    last : (c : ℕ) → 0 < c → c - 1 < c
    last c h = omega arith

pub next-size : (a c : ℕ) → 0 < c → (a % c ≡ 0 → ⊥) → floor_size true a c ≡ a / c + 1
unfolding floor_size
next-size a c C n = ap (λ (x : ℕ). x / c) (moved a (a / c * c) (a % c) c ((a / c + 1) * c) (div-add-mod' a c) n (add-mul (a / c) 1 c ∙ ap (λ (x : ℕ). a / c * c + x) (one-mul c)) C) ∙ quotient (a / c + 1) c (a % c - 1) (last (a % c) c (mod-lt a C))
  where
    moved : (a q r c p : ℕ) → q + r ≡ a → (r ≡ 0 → ⊥) → p ≡ q + c → 0 < c → a + (c - 1) ≡ p + (r - 1)
    moved a q r c p h n e C = omega arith

    last : (r c : ℕ) → r < c → r - 1 < c
    last r c h = omega arith

-- ---- the floor where nothing is left, and below and above zero where something is
pub whole_is : (s : Bool) (m : ℕ) (e : ℤ) → T (fits binary64 (fin s m e)) → m * up e % down e ≡ 0 → fin s m e ≡ floor_of (fin s m e)
unfolding floor_of
whole_is s m e t z =
    let a = m * up e in
    let c = down e in
    sym (round-back binary64 s m e t)
    ∙ round_same binary64 s a c (a / c) 1 (down_pos e) (zero-lt-suc 0) (mul-one a ∙ sym (div-add-mod' a c) ∙ ap (λ (x : ℕ). a / c * c + x) z ∙ add-zero (a / c * c))
    ∙ ap (λ (n : ℕ). round binary64 s n 1) (sym (whole-size s a c (down_pos e) z))

pub whole-floor : (x : Float) → T (is_finite x) → T (fits binary64 x) → eq (rem binary64 x one_f) zero_f ≡ true → x ≡ floor_of x
whole-floor nan i t h = elim i [ ]
whole-floor (inf _) i t h = elim i [ ]
whole-floor (fin s m e) i t h = whole_is s m e t (is_zero (rem binary64 (fin s m e) one_f) s (m * up e % down e) (down e) (rem-val binary64 s m e t) h)

pub low-floor : (x : Float) → T (is_finite x) → T (fits binary64 x) → eq (rem binary64 x one_f) zero_f ≡ false → lt (rem binary64 x one_f) zero_f ≡ true
    → sub binary64 (sub binary64 x (rem binary64 x one_f)) one_f ≡ floor_of x
unfolding floor_of
low-floor nan i t h l = elim i [ ]
low-floor (inf _) i t h l = elim i [ ]
low-floor (fin false m e) i t h l = absurd (false≢true (below-zero (rem binary64 (fin false m e) one_f) false (m * up e % down e) (down e) (rem-val binary64 false m e t) l))
low-floor (fin true m e) i t h l =
    let n = not-zero (rem binary64 (fin true m e) one_f) true (m * up e % down e) (down e) (down_pos e) (rem-val binary64 true m e t) h in
    down-one binary64 m e t n ∙ ap (λ (k : ℕ). round binary64 true k 1) (sym (next-size (m * up e) (down e) (down_pos e) n))

pub high-floor : (x : Float) → T (is_finite x) → T (fits binary64 x) → eq (rem binary64 x one_f) zero_f ≡ false → lt (rem binary64 x one_f) zero_f ≡ false
    → sub binary64 x (rem binary64 x one_f) ≡ floor_of x
unfolding floor_of floor_size
high-floor nan i t h l = elim i [ ]
high-floor (inf _) i t h l = elim i [ ]
high-floor (fin false m e) i t h l = cut-is binary64 false m e t
high-floor (fin true m e) i t h l =
    absurd (true≢false (not-below-zero (rem binary64 (fin true m e) one_f) true (m * up e % down e) (down e) (rem-val binary64 true m e t) l
    (not-zero (rem binary64 (fin true m e) one_f) true (m * up e % down e) (down e) (down_pos e) (rem-val binary64 true m e t) h)))

-- ---- `ceil`: the floor of -x, turned round
pub neg-finite : (x : Float) → is_finite (neg x) ≡ is_finite x
unfolding neg
neg-finite nan = refl
neg-finite (inf s) = refl
neg-finite (fin s m e) = refl

pub ceil-by-floor : (x : Float) → is_finite x ≡ true → neg (floor_of (neg x)) ≡ ceil_of x
unfolding floor_of ceil_of neg
ceil-by-floor nan t = refl
ceil-by-floor (inf s) t = absurd (false≢true t)
ceil-by-floor (fin s m e) t = neg-round binary64 s (floor_size (not s) (m * up e) (down e)) 1
