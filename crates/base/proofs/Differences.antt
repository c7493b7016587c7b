-- Whole numbers written as differences, `sub_ℕ a b` for a - b: their sums, differences and order. Assumes nothing.
use mathlib.Core.Path.{◌≡◌, refl, sym, ap, ◌∙◌}
use mathlib.Core.Bool.{Bool, true, false, not, cond}
use Prim.Native.Nat.{ℕ, suc, ◌+◌, ◌-◌, ◌≤◌, ◌<◌}
use native.Mathlib.Omega.{arith}
use lib.IntN.{ℤ, pos, negsuc, sub_ℕ, ◌+ℤ◌, ◌-ℤ◌, +ℤ_comm, +ℤ-neg_ℤ_cancel}
use lib.Signed.{lt_z, le_z}
use lib.Dec.{T, ltb, leb, ltb→lt, nltb→le, le→leb}
use Rattle.base.proofs.Tests.{ltb_iff, leb-iff}

pub subℕ-pos : (a b n : ℕ) → b + n ≡ a → sub_ℕ a b ≡ pos n
subℕ-pos a b n h = go (ltb a b) (ltb→lt a b)
  where
    go : (u : Bool) → (T u → a < b) → cond u (negsuc (b - suc a)) (pos (a - b)) ≡ pos n
    go true f = absurd (let w : a < b = f tt in omega arith)
    go false f = ap pos (let z : a - b ≡ n = omega arith in z)

pub subℕ-neg : (a b n : ℕ) → a + suc n ≡ b → sub_ℕ a b ≡ negsuc n
subℕ-neg a b n h = go (ltb a b) (nltb→le a b)
  where
    go : (u : Bool) → (T (not u) → b ≤ a) → cond u (negsuc (b - suc a)) (pos (a - b)) ≡ negsuc n
    go true f = ap negsuc (let z : b - suc a ≡ n = omega arith in z)
    go false f = absurd (let w : b ≤ a = f tt in omega arith)

pub subℕ-add : (a c k : ℕ) → sub_ℕ a c +ℤ pos k ≡ sub_ℕ (a + k) c
subℕ-add a c k = go (ltb a c) (ltb→lt a c) (nltb→le a c)
  where
    low : (a < c) → (u : Bool) → (T u → k < c - a) → (T (not u) → c - a ≤ k) → sub_ℕ k (suc (c - suc a)) ≡ sub_ℕ (a + k) c
    low h true f f' = subℕ-neg k (suc (c - suc a)) (c - a - suc k) (let z : k < c - a = f tt in omega arith) ∙ sym (subℕ-neg (a + k) c (c - a - suc k) (let z : k < c - a = f tt in omega arith))
    low h false f f' = subℕ-pos k (suc (c - suc a)) (a + k - c) (let z : c - a ≤ k = f' tt in omega arith) ∙ sym (subℕ-pos (a + k) c (a + k - c) (let z : c - a ≤ k = f' tt in omega arith))

    go : (u : Bool) → (T u → a < c) → (T (not u) → c ≤ a) → cond u (negsuc (c - suc a)) (pos (a - c)) +ℤ pos k ≡ sub_ℕ (a + k) c
    go true f f' = low (f tt) (ltb k (c - a)) (ltb→lt k (c - a)) (nltb→le k (c - a))
    go false f f' = sym (subℕ-pos (a + k) c (a - c + k) (let z : c ≤ a = f' tt in omega arith))

pub subℕ-le : (a b c : ℕ) → a ≤ b → T (le_z (sub_ℕ a c) (sub_ℕ b c))
subℕ-le a b c h = go (ltb a c) (ltb→lt a c) (nltb→le a c) (ltb b c) (ltb→lt b c) (nltb→le b c)
  where
    go : (u : Bool) → (T u → a < c) → (T (not u) → c ≤ a) → (w : Bool) → (T w → b < c) → (T (not w) → c ≤ b) → T (le_z (cond u (negsuc (c - suc a)) (pos (a - c))) (cond w (negsuc (c - suc b)) (pos (b - c))))
    go true f f' true g g' = le→leb (c - suc b) (c - suc a) (omega arith)
    go true f f' false g g' = tt
    go false f f' true g g' = absurd (let x : c ≤ a = f' tt in let y : b < c = g tt in omega arith)
    go false f f' false g g' = le→leb (a - c) (b - c) (omega arith)

pub subℕ-same : (a b c d : ℕ) → a + d ≡ c + b → sub_ℕ a b ≡ sub_ℕ c d
subℕ-same a b c d e = go (ltb a b) (ltb→lt a b) (nltb→le a b)
  where
    go : (u : Bool) → (T u → a < b) → (T (not u) → b ≤ a) → sub_ℕ a b ≡ sub_ℕ c d
    go true f g = let z : a < b = f tt in subℕ-neg a b (b - suc a) (omega arith) ∙ sym (subℕ-neg c d (b - suc a) (omega arith))
    go false f g = let z : b ≤ a = g tt in subℕ-pos a b (a - b) (omega arith) ∙ sym (subℕ-pos c d (a - b) (omega arith))

-- y = x + k, and y - k = x
pub subℕ-less : (p n k : ℕ) → sub_ℕ p n -ℤ pos k ≡ sub_ℕ p (n + k)
subℕ-less p n k = ap (λ (z : ℤ). z -ℤ pos k) (subℕ-same p n (p + k) (n + k) (omega arith) ∙ sym (subℕ-add p (n + k) k)) ∙ +ℤ-neg_ℤ_cancel (sub_ℕ p (n + k)) (pos k)

pub subℕ-sub : (p n q m : ℕ) → sub_ℕ p n -ℤ sub_ℕ q m ≡ sub_ℕ (p + m) (n + q)
subℕ-sub p n q m = go (ltb q m) (ltb→lt q m) (nltb→le q m)
  where
    go : (u : Bool) → (T u → q < m) → (T (not u) → m ≤ q) → sub_ℕ p n -ℤ cond u (negsuc (m - suc q)) (pos (q - m)) ≡ sub_ℕ (p + m) (n + q)
    go true f g = let z : q < m = f tt in subℕ-add p n (suc (m - suc q)) ∙ subℕ-same (p + suc (m - suc q)) n (p + m) (n + q) (omega arith)
    go false f g = let z : m ≤ q = g tt in subℕ-less p n (q - m) ∙ subℕ-same p (n + (q - m)) (p + m) (n + q) (omega arith)

pub subℕ-plus : (p n q m : ℕ) → sub_ℕ p n +ℤ sub_ℕ q m ≡ sub_ℕ (p + q) (n + m)
subℕ-plus p n q m = go (ltb q m) (ltb→lt q m) (nltb→le q m)
  where
    go : (u : Bool) → (T u → q < m) → (T (not u) → m ≤ q) → sub_ℕ p n +ℤ cond u (negsuc (m - suc q)) (pos (q - m)) ≡ sub_ℕ (p + q) (n + m)
    go true f g = let z : q < m = f tt in subℕ-less p n (suc (m - suc q)) ∙ subℕ-same p (n + suc (m - suc q)) (p + q) (n + m) (omega arith)
    go false f g = let z : m ≤ q = g tt in subℕ-add p n (q - m) ∙ subℕ-same (p + (q - m)) n (p + q) (n + m) (omega arith)

pub subℕ-lt : (p n q m : ℕ) → lt_z (sub_ℕ p n) (sub_ℕ q m) ≡ ltb (p + m) (q + n)
subℕ-lt p n q m = go (ltb p n) (ltb→lt p n) (nltb→le p n) (ltb q m) (ltb→lt q m) (nltb→le q m)
  where
    go : (u : Bool) → (T u → p < n) → (T (not u) → n ≤ p) → (v : Bool) → (T v → q < m) → (T (not v) → m ≤ q)
        → lt_z (cond u (negsuc (n - suc p)) (pos (p - n))) (cond v (negsuc (m - suc q)) (pos (q - m))) ≡ ltb (p + m) (q + n)
    go true f f' true g g' = let x = f tt in let y = g tt in ltb_iff (m - suc q) (n - suc p) (p + m) (q + n) (λ z. omega arith) (λ z. omega arith)
    go true f f' false g g' = let x = f tt in let y = g' tt in ltb_iff 0 1 (p + m) (q + n) (λ z. omega arith) (λ z. omega arith)
    go false f f' true g g' = let x = f' tt in let y = g tt in ltb_iff 1 0 (p + m) (q + n) (λ z. omega arith) (λ z. omega arith)
    go false f f' false g g' = let x = f' tt in let y = g' tt in ltb_iff (p - n) (q - m) (p + m) (q + n) (λ z. omega arith) (λ z. omega arith)

pub subℕ-le_z : (p n q m : ℕ) → le_z (sub_ℕ p n) (sub_ℕ q m) ≡ leb (p + m) (q + n)
subℕ-le_z p n q m = go (ltb p n) (ltb→lt p n) (nltb→le p n) (ltb q m) (ltb→lt q m) (nltb→le q m)
  where
    go : (u : Bool) → (T u → p < n) → (T (not u) → n ≤ p) → (v : Bool) → (T v → q < m) → (T (not v) → m ≤ q)
        → le_z (cond u (negsuc (n - suc p)) (pos (p - n))) (cond v (negsuc (m - suc q)) (pos (q - m))) ≡ leb (p + m) (q + n)
    go true f f' true g g' = let x = f tt in let y = g tt in leb-iff (m - suc q) (n - suc p) (p + m) (q + n) (λ z. omega arith) (λ z. omega arith)
    go true f f' false g g' = let x = f tt in let y = g' tt in leb-iff 0 1 (p + m) (q + n) (λ z. omega arith) (λ z. omega arith)
    go false f f' true g g' = let x = f' tt in let y = g tt in leb-iff 1 0 (p + m) (q + n) (λ z. omega arith) (λ z. omega arith)
    go false f f' false g g' = let x = f' tt in let y = g' tt in leb-iff (p - n) (q - m) (p + m) (q + n) (λ z. omega arith) (λ z. omega arith)

pub plus-minus : (a : ℤ) (k : ℕ) → (a +ℤ pos k) -ℤ a ≡ pos k
plus-minus a k = ap (λ (z : ℤ). z -ℤ a) (+ℤ_comm a (pos k)) ∙ +ℤ-neg_ℤ_cancel (pos k) a
