-- The floor of a number of size at most 2 ^ 50, by the sum of `Sums.antt`: what `floor` computes there. Assumes nothing.
use mathlib.Core.Path.{◌≡◌, refl, sym, ap, ◌∙◌, subst}
use Prim.Native.Nat.{ℕ, ◌+◌, ◌-◌, ◌*◌, ◌/◌, ◌%◌, ◌^◌, ◌≤◌, ◌<◌}
use native.Mathlib.Nat.{zero-lt-suc, le_refl, le_of_lt, le-div_iff_mul-le, zero-mod}
use native.Mathlib.Omega.{arith}
use mathlib.Core.Bool.{Bool, true, false, not, cond, false≢true}
use lib.IntN.{ℤ}
use lib.Dec.{T, ltb, ltb→lt, nltb→le, leb→le}
use lib.Ieee.{Float, nan, inf, fin, binary64, up, down, round, add, sub, sum, lt, eq, fits}
use lib.Ieee.Fits.{down_pos}
use lib.Ieee.Exact.{HasValue}
use lib.Ieee.Back.{round_whole}
use lib.Ieee.Nearest.{closest}
use borrow.Author.Tests.{le-ltb, lt-ltb}
use Rattle.base.specs.Choose.{choose}
use Rattle.base.proofs.Values.{sub-common}
use Rattle.floats.specs.Numbers.{is_finite}
use Rattle.wholes.specs.Whole.{floor_size, floor_of}
use Rattle.wholes.proofs.Cells.{within}
use Rattle.floats.proofs.Zeros.{zero_f, is_zero, not-zero}
use Rattle.wholes.proofs.Rounding.{one_f, whole_is}
use Rattle.wholes.proofs.Sums.{big, big64, room, shifted, Shifted, floor-shifted, Rounded, summed, rest-is, test-is, by-test}

-- n is how far M lies below 1.5 * 2 ^ 52, or above it
Apart : Bool → ℕ → ℕ → Type 0
Apart true M n = (n + M ≡ big) × (0 < n)
Apart false M n = big + n ≡ M

-- what is left of the sum
record Rest (w : Float) (M : ℕ) : Type 0 where
  sign : Bool
  n : ℕ
  value : HasValue w sign n 1
  apart : Apart sign M n

rest : (w : Float) (M : ℕ) → M < 2 ^ 53 → w ≡ cond (ltb M big) (round binary64 true (big - M) 1) (round binary64 false (M - big) 1) → Rest w M
unfolding Apart
rest w M l e = go (ltb M big) (ltb→lt M big) (nltb→le M big) e
  where
    go : (b : Bool) → (T b → M < big) → (T (not b) → big ≤ M) → w ≡ cond b (round binary64 true (big - M) 1) (round binary64 false (M - big) 1) → Rest w M
    go true p q e =
        let g : M < big = p tt in
        record { sign = true; n = big - M; value = subst (λ (z : Float). HasValue z true (big - M) 1) (sym e) (round_whole binary64 true (big - M) (omega arith)); apart = (omega arith, omega arith) }
    go false p q e =
        let g : big ≤ M = q tt in
        record { sign = false; n = M - big; value = subst (λ (z : Float). HasValue z false (M - big) 1) (sym e) (round_whole binary64 false (M - big) (omega arith)); apart = omega arith }

-- one less where M is above x: k is the size of x's floor, f that of the sum
settled : (s g : Bool) (k n d f M : ℕ) → Shifted s f k → Apart g M n → M ≡ f + d → d ≤ 1 → (s ≡ true → 0 < k) → sum binary64 g n true d 1 ≡ round binary64 s k 1
unfolding Shifted Apart sum
settled true true k n d f M h a e l z = let q : n + d ≡ k = omega arith in ap (λ (i : ℕ). round binary64 true i 1) q
settled false true k n d f M h a e l z = let no : ⊥ = omega arith in absurd no
settled true false k n d f M h a e l z =
    let p : 0 < k = z refl in
    let q : d - n ≡ k = omega arith in
    ap (λ (b : Bool). cond b (round binary64 true (d - n) 1) (round binary64 false (n - d) 1)) (lt-ltb n d (omega arith)) ∙ ap (λ (i : ℕ). round binary64 true i 1) q
settled false false k n d f M h a e l z =
    let q : n - d ≡ k = omega arith in
    ap (λ (b : Bool). cond b (round binary64 true (d - n) 1) (round binary64 false (n - d) 1)) (le-ltb n d (omega arith)) ∙ ap (λ (i : ℕ). round binary64 false i 1) q

one_value : (t : Bool) → HasValue (choose t one_f zero_f) false (choose t 1 0) 1
unfolding choose
one_value true = (refl, refl)
one_value false = (refl, refl)

one-most : (t : Bool) → choose t 1 0 ≤ 1
unfolding choose
one-most true = le_refl 1
one-most false = le_of_lt (zero-lt-suc 0)

-- a number below zero has a floor below zero
some : (s : Bool) (a c : ℕ) → 0 < c → (a ≡ 0 → ⊥) → s ≡ true → 0 < floor_size s a c
unfolding floor_size
some false a c C z e = absurd (false≢true e)
some true a c C z e = (le-div_iff_mul-le C).1 (omega arith)

rounded-floor : (s : Bool) (m : ℕ) (e : ℤ) → m * up e ≤ room * down e → (m * up e ≡ 0 → ⊥)
    → (w : Float) → w ≡ sub binary64 (add binary64 (fin s m e) big64) big64 → sub binary64 w (choose (lt (fin s m e) w) one_f zero_f) ≡ floor_of (fin s m e)
unfolding floor_of
rounded-floor s m e h z w i =
    let a = m * up e in
    let c = down e in
    let C : 0 < c = down_pos e in
    let v = shifted s a c in
    let M = closest v c in
    let y = add binary64 (fin s m e) big64 in
    let r : Rounded y v c M = summed s m e h in
    let small : M < 2 ^ 53 = r.small in
    let left : Rest w M = rest w M small (i ∙ rest-is y M r.value) in
    let t = lt (fin s m e) w in
    let test : t ≡ ltb v (M * c) = ap (lt (fin s m e)) i ∙ test-is s m e y M r.value small h in
    sub-common binary64 w (choose t one_f zero_f) left.sign left.n false (choose t 1 0) 1 (zero-lt-suc 0) left.value (one_value t)
    ∙ settled s left.sign (floor_size s a c) left.n (choose t 1 0) (v / c) M (floor-shifted s a c C h) left.apart (by-test t v c M C r.least r.most test) (one-most t) (some s a c C z)

pub near-floor : (x : Float) → T (within room x) → eq x zero_f ≡ false
    → sub binary64 (sub binary64 (add binary64 x big64) big64) (choose (lt x (sub binary64 (add binary64 x big64) big64)) one_f zero_f) ≡ floor_of x
unfolding within
near-floor nan t h = absurd t
near-floor (inf s) t h = absurd t
near-floor (fin s m e) t h =
    rounded-floor s m e (leb→le (m * up e) (room * down e) t) (not-zero (fin s m e) s (m * up e) (down e) (down_pos e) (refl, refl) h)
    (sub binary64 (add binary64 (fin s m e) big64) big64) refl

-- a zero is its own floor
pub zero-floor : (x : Float) → T (within room x) → T (fits binary64 x) → eq x zero_f ≡ true → x ≡ floor_of x
unfolding within
zero-floor nan t f h = absurd t
zero-floor (inf s) t f h = absurd t
zero-floor (fin s m e) t f h =
    let z : m * up e ≡ 0 = is_zero (fin s m e) s (m * up e) (down e) (refl, refl) h in
    whole_is s m e f (ap (λ (a : ℕ). a % down e) z ∙ zero-mod (down e))

pub near-finite : (x : Float) → T (within room x) → is_finite x ≡ true
unfolding within
near-finite nan t = absurd t
near-finite (inf s) t = absurd t
near-finite (fin s m e) t = refl
