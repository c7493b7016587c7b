-- Values as whole numbers of a unit: `At c x p n` says that x is finite and is (p - n) / c, either sign of zero allowed. Each test on floats is then a
-- test on whole numbers, and a sum is one of whole numbers, rounded. Assumes nothing.
use mathlib.Core.Path.{◌≡◌, sym, ap, ◌∙◌, subst}
use mathlib.Core.Bool.{Bool, true, false, not, ◌&&◌, ◌||◌, cond, and-true}
use Prim.Native.Nat.{ℕ, ◌+◌, ◌-◌, ◌*◌, ◌≤◌, ◌<◌}
use native.Mathlib.Nat.{eq_of_mul-eq-mul_right, mul_assoc, mul_right_comm, add-mul}
use native.Mathlib.Omega.{arith}
use lib.Dec.{T, ltb, leb, eqb, ltb→lt, nltb→le, eqb→eq}
use lib.Ieee.{Float, nan, inf, fin, Format, up, down, round, sum, add, neg, lt, le, eq, below, level}
use lib.Ieee.Fits.{down_pos, eq→eqb}
use lib.Ieee.Exact.{HasValue}
use Rattle.base.proofs.Values.{add-common, lt-common, eq-common}
use Rattle.base.proofs.Tests.{bool_iff, ltb_iff, eqb-iff, ltb_no, leb-split}

-- k units with the sign s: p - n units
abbrev pub Signed : Bool → ℕ → ℕ → ℕ → Type 0
Signed false k p n = k + n ≡ p
Signed true k p n = k + p ≡ n

pub record At (c : ℕ) (x : Float) (p n : ℕ) : Type 0 where
  pub sign : Bool
  pub size : ℕ
  pub value : HasValue x sign size c
  pub units : Signed sign size p n

-- the same difference of whole numbers, written another way
pub at_same : {c : ℕ} {x : Float} (p n p' n' : ℕ) → p + n' ≡ p' + n → At c x p n → At c x p' n'
at_same p n p' n' e h = record { sign = h.sign; size = h.size; value = h.value; units = go h.sign h.size h.units }
  where
    go : (s : Bool) (k : ℕ) → Signed s k p n → Signed s k p' n'
    go false k u = omega arith
    go true k u = omega arith

-- in units that are k times smaller
pub at-times : (c k : ℕ) (x : Float) (p n : ℕ) → At c x p n → At (c * k) x (p * k) (n * k)
at-times c k nan p n h = absurd h.value
at-times c k (inf s) p n h = absurd h.value
at-times c k (fin s m e) p n h =
    record {
      sign = h.sign;
      size = h.size * k;
      value = (h.value.0, sym (mul_assoc (m * up e) c k) ∙ ap (λ (z : ℕ). z * k) h.value.1 ∙ mul_right_comm h.size (down e) k);
      units = go h.sign h.size h.units;
    }
  where
    go : (s : Bool) (i : ℕ) → Signed s i p n → Signed s (i * k) (p * k) (n * k)
    go false i u = sym (add-mul i n k) ∙ ap (λ (z : ℕ). z * k) u
    go true i u = sym (add-mul i p k) ∙ ap (λ (z : ℕ). z * k) u

pub at-unique : (c : ℕ) (x : Float) (p n q m : ℕ) → At c x p n → At c x q m → p + m ≡ q + n
at-unique c nan p n q m h j = absurd h.value
at-unique c (inf s) p n q m h j = absurd h.value
at-unique c (fin s a e) p n q m h j =
    go h.sign j.sign h.size j.size (sym h.value.0 ∙ j.value.0)
    (eq_of_mul-eq-mul_right (down e) (down_pos e) h.size j.size (sym h.value.1 ∙ j.value.1)) h.units j.units
  where
    go : (s t : Bool) (k l : ℕ) → s ≡ t → k ≡ l → Signed s k p n → Signed t l q m → p + m ≡ q + n
    go false false k l e f x y = omega arith
    go true true k l e f x y = omega arith
    go false true k l e f x y = absurd (subst T (sym e) tt)
    go true false k l e f x y = absurd (subst T e tt)

pub neg-at : (c : ℕ) (x : Float) (p n : ℕ) → At c x p n → At c (neg x) n p
unfolding neg
neg-at c nan p n h = absurd h.value
neg-at c (inf s) p n h = absurd h.value
neg-at c (fin s a e) p n h = record { sign = not h.sign; size = h.size; value = (ap not h.value.0, h.value.1); units = flip h.sign h.units }
  where
    flip : (s : Bool) → Signed s h.size p n → Signed (not s) h.size n p
    flip true u = u
    flip false u = u

-- ---- the sum: what holds of the exact sum, rounded with its sign, holds of it
module _ (f : Format) (c : ℕ) (P : Float → Type 0) (p n q m : ℕ) (plus : (j : ℕ) → j + (n + m) ≡ p + q → P (round f false j c)) (minus : (j : ℕ) → j + (p + q) ≡ n + m → P (round f true j c)) where
  sum_by : (k l : ℕ) (s t : Bool) → Signed s k p n → Signed t l q m → P (sum f s k t l c)
  unfolding sum
  sum_by k l false false x y = plus (k + l) (omega arith)
  sum_by k l true true x y = minus (k + l) (omega arith)
  sum_by k l false true x y = go (ltb k l) (ltb→lt k l) (nltb→le k l)
    where
      go : (u : Bool) → (T u → k < l) → (T (not u) → l ≤ k) → P (cond u (round f true (l - k) c) (round f false (k - l) c))
      go true g h = let z = g tt in minus (l - k) (omega arith)
      go false g h = let z = h tt in plus (k - l) (omega arith)
  sum_by k l true false x y = go (ltb k l) (ltb→lt k l) (nltb→le k l) (ltb l k) (nltb→le l k)
    where
      go : (u : Bool) → (T u → k < l) → (T (not u) → l ≤ k) → (v : Bool) → (T (not v) → k ≤ l) → P (cond u (round f false (l - k) c) (round f v (k - l) c))
      go true g h v i = let z = g tt in plus (l - k) (omega arith)
      go false g h true i = let z = h tt in minus (k - l) (omega arith)
      go false g h false i = let z = h tt in let w = i tt in plus (k - l) (omega arith)

  pub add-by : (x y : Float) → 0 < c → At c x p n → At c y q m → P (add f x y)
  add-by x y C h j =
      subst P (sym (add-common f x y h.sign h.size j.sign j.size c C h.value j.value))
      (sum_by h.size j.size h.sign j.sign h.units j.units)

-- ---- the order
module _ (k l p n q m : ℕ) where
  below_at : (s t : Bool) → Signed s k p n → Signed t l q m → below s k t l ≡ ltb (p + m) (q + n)
  below_at false false x y = ltb_iff k l (p + m) (q + n) (λ (h : k < l). omega arith) (λ (h : p + m < q + n). omega arith)
  below_at false true x y = sym (ltb_no (p + m) (q + n) (omega arith))
  below_at true false x y = ltb_iff 0 (k + l) (p + m) (q + n) (λ (h : 0 < k + l). omega arith) (λ (h : p + m < q + n). omega arith)
  below_at true true x y = ltb_iff l k (p + m) (q + n) (λ (h : l < k). omega arith) (λ (h : p + m < q + n). omega arith)

  unlike-level : (k + l ≡ 0 → p + m ≡ q + n) → (p + m ≡ q + n → k + l ≡ 0) → eqb k l && eqb k 0 ≡ eqb (p + m) (q + n)
  unlike-level f g = go (eqb k l) (eqb→eq k l) (λ (h : k ≡ l). eq→eqb h)
    where
      go : (b : Bool) → (T b → k ≡ l) → (k ≡ l → T b) → b && eqb k 0 ≡ eqb (p + m) (q + n)
      go true h j = let z : k ≡ l = h tt in eqb-iff k 0 (p + m) (q + n) (λ (u : k ≡ 0). f (omega arith)) (λ (u : p + m ≡ q + n). let w : k + l ≡ 0 = g u in omega arith)
      go false h j = bool_iff false (eqb (p + m) (q + n)) (λ (t : ⊥). absurd t) (λ (t : T (eqb (p + m) (q + n))). let w : k + l ≡ 0 = g (eqb→eq (p + m) (q + n) t) in j (omega arith))

  level-at : (s t : Bool) → Signed s k p n → Signed t l q m → level s k t l ≡ eqb (p + m) (q + n)
  level-at false false x y = and-true (eqb k l) ∙ eqb-iff k l (p + m) (q + n) (λ (h : k ≡ l). omega arith) (λ (h : p + m ≡ q + n). omega arith)
  level-at true true x y = and-true (eqb k l) ∙ eqb-iff k l (p + m) (q + n) (λ (h : k ≡ l). omega arith) (λ (h : p + m ≡ q + n). omega arith)
  level-at false true x y = unlike-level (λ (h : k + l ≡ 0). omega arith) (λ (h : p + m ≡ q + n). omega arith)
  level-at true false x y = unlike-level (λ (h : k + l ≡ 0). omega arith) (λ (h : p + m ≡ q + n). omega arith)

module _ (c : ℕ) (C : 0 < c) (x y : Float) (p n q m : ℕ) (h : At c x p n) (j : At c y q m) where
  pub lt_at : lt x y ≡ ltb (p + m) (q + n)
  lt_at =
      lt-common x y h.sign h.size j.sign j.size c C h.value j.value ∙ below_at h.size j.size p n q m h.sign j.sign h.units j.units

  pub eq-at : eq x y ≡ eqb (p + m) (q + n)
  eq-at =
      eq-common x y h.sign h.size j.sign j.size c C h.value j.value ∙ level-at h.size j.size p n q m h.sign j.sign h.units j.units

  pub le-at : le x y ≡ leb (p + m) (q + n)
  unfolding le
  le-at = ap (λ (u : Bool). u || eq x y) lt_at ∙ ap (λ (u : Bool). ltb (p + m) (q + n) || u) eq-at ∙ leb-split (p + m) (q + n)
