-- The sum x + 1.5 * 2 ^ 52 of `cell` and `floor`: which whole number it is, its bits, and the test that decides between it and the one below.
-- Assumes nothing.
use mathlib.Core.Path.{◌≡◌, refl, sym, ap, ◌∙◌, subst}
use Prim.Native.Nat.{ℕ, zero, suc, ◌+◌, ◌-◌, ◌*◌, ◌/◌, ◌%◌, ◌^◌, ◌≤◌, ◌<◌, compare}
use native.Mathlib.Nat.{mul-one, mul_assoc, mul_comm, mul_right_comm, mul-pos, mul-le-mul_right, mul-lt-mul_of_pos_right, le_trans, le_of_eq, lt_of_lt_of_le, lt_of_le_of_lt, lt_of_not-le, not-le_of_lt, le-div_iff_mul-le, div-lt_iff_lt-mul, le_refl, lt-suc_self, add-mul, eq_of_mul-eq-mul_right, zero-lt-suc, le_of_suc-le-suc, add-mul-div_right}
use native.Mathlib.Omega.{arith}
use mathlib.Core.Bool.{Bool, true, false, not, cond}
use lib.IntN.{ℤ, pos, negsuc, neg_ℤ, ◌-ℤ◌}
use lib.Dec.{T, ltb, ltb→lt, nltb→le, leb→le, lit≤, lit<}
use lib.Pow.{pow-add, pow_pos, pow_mono, shl_lt}
use lib.Ieee.{Float, nan, inf, fin, binary64, up, down, size, units, round, add, sub, sum, lt, below, of_bits, to_bits, is_nan}
use lib.Ieee.Digits.{size-lt, size-le}
use lib.Ieee.Fits.{down_pos, round_is, round-fits, nearest-le}
use lib.Ieee.Nearest.{closest, closest_same, nearest-ge}
use lib.Ieee.Exact.{HasValue, units_val}
use lib.Ieee.Back.{round_whole}
use lib.Ieee.Bits.{of_bits-fits, to_bits-of_bits, nan_bits_is}
use mir.Syntax.{w32}
use mir.Val.{SFits, to_z, of_z}
use mir.ValLaws.{to_z-of_z}
use borrow.Author.Rules.{sfits_of}
use borrow.Author.Tests.{ltb-true, ltb-false, le-ltb, lt-ltb}
use Rattle.base.specs.Choose.{choose}
use Rattle.base.proofs.Values.{value-unique, add-common, sub-common, lt-common, rescaled}
use Rattle.wholes.specs.Whole.{floor_size, floor_int}
use Rattle.wholes.proofs.Cells.{within, in_reach}
use Rattle.floats.proofs.Value.{written, no_nan}

-- ---- a fraction of 2 ^ 52 or more, and below 2 ^ 53, is rounded to a whole number

size-gt : (n j : ℕ) → 2 ^ j ≤ n → j < size n
size-gt n j h = lt_of_not-le (λ (g : size n ≤ j). not-le_of_lt (lt_of_lt_of_le (size-lt n) (pow_mono g)) h)

-- P stands for 2 ^ 1074
module _ (a c P : ℕ) (C : 0 < c) (Q : 0 < P) (lo : 2 ^ 52 * c ≤ a) (hi : a < 2 ^ 53 * c) where
  digits_low : 2 ^ 52 * P ≤ a * P / c
  digits_low = (le-div_iff_mul-le C).1 (le_trans (le_of_eq (mul_right_comm (2 ^ 52) P c)) (mul-le-mul_right P lo))

  digits-high : a * P / c < 2 ^ 53 * P
  digits-high = (div-lt_iff_lt-mul C).1 (lt_of_lt_of_le (mul-lt-mul_of_pos_right hi Q) (le_of_eq (mul_right_comm (2 ^ 53) c P)))

dropped : (z : ℕ) → 1126 < z → z ≤ 1127 → z - 53 ≡ 1074
dropped z l h = omega arith

module _ (a c : ℕ) (C : 0 < c) (lo : 2 ^ 52 * c ≤ a) (hi : a < 2 ^ 53 * c) where
  drops : size (a * 2 ^ 1074 / c) - 53 ≡ 1074
  drops =
      let n = a * 2 ^ 1074 / c in
      dropped (size n)
      (size-gt n 1126 (subst (λ (x : ℕ). x ≤ n) (sym (pow-add 2 52 1074)) (digits_low a c (2 ^ 1074) C (pow_pos 1074) lo hi)))
      (size-le n 1127 (subst (λ (x : ℕ). n < x) (sym (pow-add 2 53 1074)) (digits-high a c (2 ^ 1074) C (pow_pos 1074) lo hi)))

  rounds : round binary64 false a c ≡ units binary64 false (closest a c) 1074
  rounds =
      round_is binary64 false a c
      ∙ ap (λ (k : ℕ). units binary64 false (closest (a * 2 ^ 1074) (c * 2 ^ k)) k) drops
      ∙ ap (λ (q : ℕ). units binary64 false q 1074)
      (closest_same (a * 2 ^ 1074) (c * 2 ^ 1074) a c (mul-pos C (pow_pos 1074)) C (mul_assoc a (2 ^ 1074) c ∙ ap (λ (x : ℕ). a * x) (mul_comm (2 ^ 1074) c)))

-- the whole number, M, with W / c in it
pub record Rounded (y : Float) (W c M : ℕ) : Type 0 where
  pub least : W / c ≤ M
  pub most : M ≤ suc (W / c)
  pub small : M < 2 ^ 53
  pub value : HasValue y false M 1
  pub bits : to_bits binary64 y ≡ 1074 * 2 ^ 52 + M
  pub number : T (not (is_nan y))

-- a value over a common factor
cancel : (x : Float) (s : Bool) (n p : ℕ) → 0 < p → HasValue x s (n * p) p → HasValue x s n 1
cancel nan s n p P v = v
cancel (inf t) s n p P v = v
cancel (fin t m e) s n p P v = (v.0, mul-one (m * up e) ∙ eq_of_mul-eq-mul_right p P (m * up e) (n * down e) (v.1 ∙ mul_right_comm n p (down e)))

no-value-nan : (x : Float) (s : Bool) (n p : ℕ) → HasValue x s n p → T (not (is_nan x))
unfolding is_nan
no-value-nan nan s n p v = absurd v
no-value-nan (inf t) s n p v = absurd v
no-value-nan (fin t m e) s n p v = tt

pub rounded : (W c : ℕ) → 0 < c → 2 ^ 52 * c ≤ W → W + c < 2 ^ 53 * c → Rounded (round binary64 false W c) W c (closest W c)
rounded W c C lo hi =
    let M = closest W c in
    let y = round binary64 false W c in
    let o = compare (W % c * 2) c in
    let l : W / c ≤ M = nearest-ge (W / c) o in
    let u : M ≤ suc (W / c) = nearest-le (W / c) o in
    let low : 2 ^ 52 ≤ W / c = (le-div_iff_mul-le C).1 lo in
    let room : W / c < 2 ^ 53 - 1 = (div-lt_iff_lt-mul C).1 (short W c hi) in
    let small : M < 2 ^ 53 = under (W / c) M u room in
    let v : HasValue y false (M * 2 ^ 1074) (2 ^ 1074) =
    subst (λ (z : Float). HasValue z false (M * 2 ^ 1074) (2 ^ 1074)) (sym (rounds W c C lo (lt_of_le_of_lt (le-self W c) hi)))
    (units_val binary64 false M 1074 (lt_of_lt_of_le (shl_lt 53 1074 small) (pow_mono {i = 1127} {j = 2098} (lit≤ tt)))) in
    let r = 1074 * 2 ^ 52 + M in
    let most : r ≤ 2001 * 2 ^ 52 = omega arith in
    let w : HasValue (of_bits binary64 r) false (M * 2 ^ 1074) (2 ^ 1074) = written r 1074 M refl (le_trans low l) (within M small) (lit< tt) in
    let is : y ≡ of_bits binary64 r = value-unique binary64 y (of_bits binary64 r) false (M * 2 ^ 1074) (2 ^ 1074) (pow_pos 1074) (round-fits binary64 false W c) (of_bits-fits binary64 r) v w in
    record {
      least = l;
      most = u;
      small = small;
      value = cancel y false M (2 ^ 1074) (pow_pos 1074) v;
      bits = ap (to_bits binary64) is ∙ to_bits-of_bits binary64 r (omega arith) (subst (λ (b : Bool). T (not b)) (nan_bits_is binary64 r) (no_nan r most));
      number = no-value-nan y false M 1 (cancel y false M (2 ^ 1074) (pow_pos 1074) v);
    }
  where
    short : (W c : ℕ) → W + c < 2 ^ 53 * c → W < (2 ^ 53 - 1) * c
    short W c h = omega arith

    under : (q M : ℕ) → M ≤ suc q → q < 2 ^ 53 - 1 → M < 2 ^ 53
    under q M h l = omega arith

    within : (M : ℕ) → M < 2 ^ 53 → M ≤ 2 ^ 53
    within M h = omega arith

    le-self : (W c : ℕ) → W ≤ W + c
    le-self W c = omega arith

-- ---- 1.5 * 2 ^ 52 added to x, which is a / c with the sign s

abbrev pub big : ℕ
big = 6755399441055744

abbrev pub big64 : Float
big64 = of_bits binary64 4843621399236968448

pub big-value : HasValue big64 false big 1
unfolding of_bits
big-value = (refl, refl)

-- how far from zero x may lie
abbrev pub room : ℕ
room = 1125899906842624

abbrev pub shifted : Bool → ℕ → ℕ → ℕ
shifted false a c = a + big * c
shifted true a c = big * c - a

sum_is : (s : Bool) (a c : ℕ) → 0 < c → a ≤ room * c → sum binary64 s a false (big * c) c ≡ round binary64 false (shifted s a c) c
unfolding sum
sum_is false a c C h = refl
sum_is true a c C h = ap (λ (b : Bool). cond b (round binary64 false (big * c - a) c) (round binary64 (ltb (big * c) a) (a - big * c) c)) (lt-ltb a (big * c) (omega arith))

add_is : (s : Bool) (m : ℕ) (e : ℤ) → m * up e ≤ room * down e → add binary64 (fin s m e) big64 ≡ round binary64 false (shifted s (m * up e) (down e)) (down e)
add_is s m e h =
    add-common binary64 (fin s m e) big64 s (m * up e) false (big * down e) (down e) (down_pos e) (refl, refl) (rescaled big64 false big (down e) big-value)
    ∙ sum_is s (m * up e) (down e) (down_pos e) h

shifted_in : (s : Bool) (a c : ℕ) → 0 < c → a ≤ room * c → (2 ^ 52 * c ≤ shifted s a c) × (shifted s a c + c < 2 ^ 53 * c)
shifted_in false a c C h = (omega arith, omega arith)
shifted_in true a c C h = (omega arith, omega arith)

pub summed : (s : Bool) (m : ℕ) (e : ℤ) → m * up e ≤ room * down e
    → Rounded (add binary64 (fin s m e) big64) (shifted s (m * up e) (down e)) (down e) (closest (shifted s (m * up e) (down e)) (down e))
summed s m e h =
    let w = shifted s (m * up e) (down e) in
    let i = shifted_in s (m * up e) (down e) (down_pos e) h in
    subst (λ (z : Float). Rounded z w (down e) (closest w (down e))) (sym (add_is s m e h)) (rounded w (down e) (down_pos e) i.0 i.1)

shifted-low : (s : Bool) (a c : ℕ) → a ≤ 67108864 * c → 6755399373946880 * c ≤ shifted s a c
shifted-low false a c h = omega arith
shifted-low true a c h = omega arith

shifted-high : (s : Bool) (a c : ℕ) → a ≤ 67108864 * c → shifted s a c ≤ 6755399508164608 * c
shifted-high false a c h = omega arith
shifted-high true a c h = omega arith

-- ---- the test: x against what is left of the sum

same_test : (p q r t : ℕ) → (p < q → r < t) → (r < t → p < q) → ltb p q ≡ ltb r t
same_test p q r t f g = go (ltb r t) (ltb→lt r t) (nltb→le r t)
  where
    go : (b : Bool) → (T b → r < t) → (T (not b) → t ≤ r) → ltb p q ≡ b
    go true y n = lt-ltb p q (g (y tt))
    go false y n = le-ltb p q (le_of_suc-le-suc (lt_of_not-le (λ (l : suc p ≤ q). not-le_of_lt (f l) (n tt))))

-- the sum is D below 1.5 * 2 ^ 52, or D above it
test_below : (s : Bool) (a c M D : ℕ) → M + D ≡ big → a ≤ room * c → below s a true (D * c) ≡ ltb (shifted s a c) (M * c)
test_below false a c M D h l = let k : (M + D) * c ≡ big * c = ap (λ (x : ℕ). x * c) h in sym (le-ltb (a + big * c) (M * c) (omega arith))
test_below true a c M D h l =
    let k : (M + D) * c ≡ big * c = ap (λ (x : ℕ). x * c) h in
    same_test (D * c) a (big * c - a) (M * c) (λ p. omega arith) (λ p. omega arith)

test-above : (s : Bool) (a c M D : ℕ) → big + D ≡ M → a ≤ room * c → below s a false (D * c) ≡ ltb (shifted s a c) (M * c)
test-above false a c M D h l =
    let k : (big + D) * c ≡ M * c = ap (λ (x : ℕ). x * c) h in
    same_test a (D * c) (a + big * c) (M * c) (λ p. omega arith) (λ p. omega arith)
test-above true a c M D h l =
    let k : (big + D) * c ≡ M * c = ap (λ (x : ℕ). x * c) h in
    same_test 0 (a + D * c) (big * c - a) (M * c) (λ p. omega arith) (λ p. omega arith)

pub rest-is : (y : Float) (M : ℕ) → HasValue y false M 1 → sub binary64 y big64 ≡ cond (ltb M big) (round binary64 true (big - M) 1) (round binary64 false (M - big) 1)
unfolding sum
rest-is y M v = sub-common binary64 y big64 false M false big 1 (zero-lt-suc 0) v big-value

pub test-is : (s : Bool) (m : ℕ) (e : ℤ) (y : Float) (M : ℕ) → HasValue y false M 1 → M < 2 ^ 53 → m * up e ≤ room * down e
    → lt (fin s m e) (sub binary64 y big64) ≡ ltb (shifted s (m * up e) (down e)) (M * down e)
test-is s m e y M v l h = ap (λ (z : Float). lt (fin s m e) z) (rest-is y M v) ∙ go (ltb M big) (ltb→lt M big) (nltb→le M big)
  where
    a : ℕ
    a = m * up e

    c : ℕ
    c = down e

    go : (b : Bool) → (T b → M < big) → (T (not b) → big ≤ M)
        → lt (fin s m e) (cond b (round binary64 true (big - M) 1) (round binary64 false (M - big) 1)) ≡ ltb (shifted s (m * up e) (down e)) (M * down e)
    go true p q =
        let g : M < big = p tt in
        lt-common (fin s m e) (round binary64 true (big - M) 1) s (m * up e) true ((big - M) * down e) (down e) (down_pos e) (refl, refl)
        (rescaled (round binary64 true (big - M) 1) true (big - M) (down e) (round_whole binary64 true (big - M) (omega arith)))
        ∙ test_below s (m * up e) (down e) M (big - M) (omega arith) h
    go false p q =
        let g : big ≤ M = q tt in
        lt-common (fin s m e) (round binary64 false (M - big) 1) s (m * up e) false ((M - big) * down e) (down e) (down_pos e) (refl, refl)
        (rescaled (round binary64 false (M - big) 1) false (M - big) (down e) (round_whole binary64 false (M - big) (omega arith)))
        ∙ test-above s (m * up e) (down e) M (M - big) (omega arith) h

-- ---- the floor of the sum, and that of x

-- f is the floor of the sum, and k the size of x's floor
unfoldable pub Shifted : Bool → ℕ → ℕ → Type 0
Shifted false f k = f ≡ k + big
Shifted true f k = f + k ≡ big

pub floor-shifted : (s : Bool) (a c : ℕ) → 0 < c → a ≤ room * c → Shifted s (shifted s a c / c) (floor_size s a c)
unfolding Shifted floor_size
floor-shifted false a c C h = add-mul-div_right a big C
floor-shifted true a c C h =
    let k = (a + (c - 1)) / c in
    let low : k * c ≤ a + (c - 1) = (le-div_iff_mul-le C).0 (le_refl k) in
    let high : a + (c - 1) < suc k * c = (div-lt_iff_lt-mul C).0 (lt-suc_self k) in
    let most : k < 1125899906842625 = (div-lt_iff_lt-mul C).1 (omega arith) in
    let split : (big - k) * c + k * c ≡ big * c = parts k c most in
    let under : big - k ≤ (big * c - a) / c = (le-div_iff_mul-le C).1 (omega arith) in
    let over : (big * c - a) / c < suc (big - k) = (div-lt_iff_lt-mul C).1 (next k c (big * c - a) (omega arith)) in
    omega arith
  where
    parts : (k c : ℕ) → k < 1125899906842625 → (big - k) * c + k * c ≡ big * c
    parts k c h = let e : big - k + k ≡ big = omega arith in let m : (big - k + k) * c ≡ big * c = ap (λ (x : ℕ). x * c) e in sym (add-mul (big - k) k c) ∙ m

    next : (k c w : ℕ) → w < (big - k) * c + c → w < suc (big - k) * c
    next k c w h = omega arith

-- the floor as an integer, counted from -2 ^ 26
counted_is : (s : Bool) (f k n : ℕ) → Shifted s f k → 6755399373946880 ≤ f → n ≡ f - 6755399373946880 → pos n -ℤ pos 67108864 ≡ cond s (neg_ℤ (pos k)) (pos k)
unfolding Shifted
counted_is false f k n h l e = ap (λ (b : Bool). cond b (negsuc (67108864 - suc n)) (pos (n - 67108864))) (le-ltb n 67108864 (omega arith)) ∙ ap pos (omega arith)
counted_is true f zero n h l e = let z : n ≡ 67108864 = omega arith in ap (λ (x : ℕ). pos x -ℤ pos 67108864) z
counted_is true f (suc k) n h l e = ap (λ (b : Bool). cond b (negsuc (67108864 - suc n)) (pos (n - 67108864))) (lt-ltb n 67108864 (omega arith)) ∙ ap negsuc (omega arith)

-- ---- what `cell` reads: n is its answer, counted from -2 ^ 26
pub record Told (x : Float) : Type 0 where
  pub n : ℕ
  pub small : n ≤ 134217728
  pub is : pos n -ℤ pos 67108864 ≡ floor_int x
  pub number : T (not (is_nan (add binary64 x big64)))
  pub least : 4843621399169859584 ≤ to_bits binary64 (add binary64 x big64)
  pub excess : choose (lt x (sub binary64 (add binary64 x big64) big64)) 1 0 ≤ to_bits binary64 (add binary64 x big64) - 4843621399169859584
  pub counted : to_bits binary64 (add binary64 x big64) - 4843621399169859584 - choose (lt x (sub binary64 (add binary64 x big64) big64)) 1 0 ≡ n

-- M is the floor f, or one more, by the test
pub by-test : (t : Bool) (w c M : ℕ) → 0 < c → w / c ≤ M → M ≤ suc (w / c) → t ≡ ltb w (M * c) → M ≡ w / c + choose t 1 0
unfolding choose
by-test true w c M C l u t = let g : w / c < M = (div-lt_iff_lt-mul C).1 (ltb-true w (M * c) (sym t)) in omega arith
by-test false w c M C l u t = let g : M ≤ w / c = (le-div_iff_mul-le C).1 (ltb-false w (M * c) (sym t)) in omega arith

corrected : (d f M b : ℕ) → 6755399373946880 ≤ f → M ≡ f + d → b ≡ 1074 * 2 ^ 52 + M → (d ≤ b - 4843621399169859584) × (b - 4843621399169859584 - d ≡ f - 6755399373946880)
corrected d f M b lo e h = (omega arith, omega arith)

floor-is : (s : Bool) (m : ℕ) (e : ℤ) → floor_int (fin s m e) ≡ cond s (neg_ℤ (pos (floor_size s (m * up e) (down e)))) (pos (floor_size s (m * up e) (down e)))
unfolding floor_int
floor-is false m e = refl
floor-is true m e = refl

told_at : (s : Bool) (m : ℕ) (e : ℤ) → m * up e ≤ 67108864 * down e → Told (fin s m e)
told_at s m e h =
    let a = m * up e in
    let c = down e in
    let w = shifted s a c in
    let M = closest w c in
    let C : 0 < c = down_pos e in
    let near : a ≤ room * c = omega arith in
    let lo = shifted-low s a c h in
    let hi = shifted-high s a c h in
    let y = add binary64 (fin s m e) big64 in
    let r : Rounded y w c M = summed s m e near in
    let f = w / c in
    let f-lo : 6755399373946880 ≤ f = (le-div_iff_mul-le C).1 lo in
    let f-hi : f < 6755399508164609 = (div-lt_iff_lt-mul C).1 (omega arith) in
    let b : to_bits binary64 y ≡ 1074 * 2 ^ 52 + M = r.bits in
    let l : f ≤ M = r.least in
    let u : M ≤ suc f = r.most in
    let test : lt (fin s m e) (sub binary64 y big64) ≡ ltb w (M * c) = test-is s m e y M r.value (omega arith) near in
    let t = lt (fin s m e) (sub binary64 y big64) in
    let k = corrected (choose t 1 0) f M (to_bits binary64 y) f-lo (by-test t w c M C l u test) b in
    record {
      n = f - 6755399373946880;
      small = omega arith;
      is = counted_is s f (floor_size s a c) (f - 6755399373946880) (floor-shifted s a c C near) f-lo refl ∙ sym (floor-is s m e);
      number = r.number;
      least = omega arith;
      excess = k.0;
      counted = k.1;
    }

pub told : (x : Float) → T (in_reach x) → Told x
told nan t = unfold within in absurd t
told (inf s) t = unfold within in absurd t
told (fin s m e) t = unfold within in told_at s m e (leb→le (m * up e) (67108864 * down e) t)

-- the number that the code makes of n
pub record Answered (x : Float) (k : ℕ) : Type 0 where
  pub cast : SFits w32 (pos k)
  pub less : SFits w32 (to_z w32 k -ℤ pos 67108864)
  pub floor : to_z w32 (of_z w32 (to_z w32 k -ℤ pos 67108864)) ≡ floor_int x

pub answer : (x : Float) (t : Told x) → SFits w32 (floor_int x) → (k : ℕ) → k ≡ t.n → Answered x k
answer x t f k e =
    let K : k < 2 ^ 31 = let s = t.small in omega arith in
    let p : SFits w32 (pos k) = sfits_of K in
    let z : to_z w32 k ≡ pos k = to_z-of_z w32 (pos k) p in
    let i : to_z w32 k -ℤ pos 67108864 ≡ floor_int x = ap (λ (v : ℤ). v -ℤ pos 67108864) (z ∙ ap pos e) ∙ t.is in
    record { cast = p; less = subst (λ (v : ℤ). SFits w32 v) (sym i) f; floor = ap (λ (v : ℤ). to_z w32 (of_z w32 v)) i ∙ to_z-of_z w32 (floor_int x) f }
