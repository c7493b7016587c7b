-- Which numbers a product with 2^n for a divisor leaves: an odd factor takes nothing away, and a factor below 2^m less than m twos. Assumes nothing.
use mathlib.Core.Path.{◌≡◌, sym, ap, ◌∙◌}
use Prim.Native.Nat.{ℕ, zero, suc, ◌+◌, ◌-◌, ◌*◌, ◌/◌, ◌%◌, ◌^◌, ◌<◌, ◌≤◌}
use native.Mathlib.Nat.{pow-succ', pow-zero, mul-mod_right, eq_of_mul-eq-mul_left}
use native.Mathlib.Decide.{dec_lt}
use native.Mathlib.Omega.{arith}
use lib.Pow.{pow-add, pow_pos}

pub record Multiple (m x : ℕ) : Type 0 where
  pub times : ℕ
  pub is : x ≡ m * times

-- ---- an odd factor: 2 e + 1

odd-halved : (e x p t : ℕ) → (2 * e + 1) * x ≡ 2 * p * t → x ≡ 2 * (p * t - e * x)
odd-halved e x p t h = omega arith

odd-rest : (e x y p t : ℕ) → x ≡ 2 * y → (2 * e + 1) * x ≡ 2 * p * t → (2 * e + 1) * y ≡ p * t
odd-rest e x y p t q h = rest (rw q at h)
  where
    rest : (2 * e + 1) * (2 * y) ≡ 2 * p * t → (2 * e + 1) * y ≡ p * t
    rest h = omega arith

doubled : (p x y : ℕ) → x ≡ 2 * y → Multiple p y → Multiple (2 * p) x
doubled p x y e m = record { times = m.times; is = let q = m.is in omega arith }

pub odd-cancels : (n e x t : ℕ) → (2 * e + 1) * x ≡ 2 ^ n * t → Multiple (2 ^ n) x
odd-cancels zero e x t h = record { times = x; is = rw (pow-zero 2) (omega arith) }
odd-cancels (suc n) e x t h =
    let h' : (2 * e + 1) * x ≡ 2 * 2 ^ n * t = rw (pow-succ' 2 n) at h in
    let y : ℕ = 2 ^ n * t - e * x in
    let even : x ≡ 2 * y = odd-halved e x (2 ^ n) t h' in
    rw (pow-succ' 2 n) (doubled (2 ^ n) x y even (odd-cancels n e y t (odd-rest e x y (2 ^ n) t even h')))

-- ---- a factor of 2^k times an odd number

pub even-cancels : (k e d x t : ℕ) → k ≤ 32 → d ≡ 2 ^ k * (2 * e + 1) → d * x ≡ 2 ^ 32 * t → Multiple (2 ^ (32 - k)) x
even-cancels k e d x t h q p =
    let z : k + (32 - k) ≡ 32 = omega arith in
    let w : 2 ^ 32 ≡ 2 ^ k * 2 ^ (32 - k) = ap (λ (n : ℕ). 2 ^ n) (sym z) ∙ pow-add 2 k (32 - k) in
    odd-cancels (32 - k) e x t
    (eq_of_mul-eq-mul_left (2 ^ k) (pow_pos k) ((2 * e + 1) * x) (2 ^ (32 - k) * t) (regrouped (2 ^ 32) (2 ^ k) (2 ^ (32 - k)) (rw q at p) w))
  where
    regrouped : (m a b : ℕ) → a * (2 * e + 1) * x ≡ m * t → m ≡ a * b → a * ((2 * e + 1) * x) ≡ a * (b * t)
    regrouped m a b p w = go (rw w at p)
      where
        go : a * (2 * e + 1) * x ≡ a * b * t → a * ((2 * e + 1) * x) ≡ a * (b * t)
        go p = omega arith

-- ---- a factor below 2^(m + 1)

fewer : (a b x : ℕ) → Multiple (a * b) x → Multiple b x
fewer a b x m = record { times = a * m.times; is = let q = m.is in omega arith }

pub small-cancels : (m n d x t : ℕ) → 0 < d → d < 2 ^ suc m → d * x ≡ 2 ^ (m + n) * t → Multiple (2 ^ n) x
small-cancels zero n d x t pos less h =
    let z : 0 + n ≡ n = omega arith in
    let one : d ≡ 1 = omega arith in
    record { times = t; is = last (2 ^ n) one (rw z at h) }
  where
    last : (p : ℕ) → d ≡ 1 → d * x ≡ p * t → x ≡ p * t
    last p e h = go (rw e at h)
      where
        go : 1 * x ≡ p * t → x ≡ p * t
        go h = omega arith
small-cancels (suc m) n d x t pos less h = go (λ q l k e. small-cancels m n q x t l k e) (dec_lt (d % 2) 1)
  where
    z : suc m + n ≡ suc (m + n)
    z = omega arith

    split : (q : ℕ) → d ≡ 2 * q → d * x ≡ 2 * 2 ^ (m + n) * t → q * x ≡ 2 ^ (m + n) * t
    split q e h = half (rw e at h)
      where
        half : 2 * q * x ≡ 2 * 2 ^ (m + n) * t → q * x ≡ 2 ^ (m + n) * t
        half h = omega arith

    go : ((q : ℕ) → 0 < q → q < 2 ^ suc m → q * x ≡ 2 ^ (m + n) * t → Multiple (2 ^ n) x) → Dec (d % 2 < 1) → Multiple (2 ^ n) x
    go again (yes e) =
        let l : d < 2 * 2 ^ suc m = rw (pow-succ' 2 (suc m)) at less in
        let h' : d * x ≡ 2 * 2 ^ (m + n) * t = rw (z, pow-succ' 2 (m + n)) at h in
        again (d / 2) (omega arith) (omega arith) (split (d / 2) (omega arith) h')
    go again (no e) =
        let q : d ≡ 2 * (d / 2) + 1 = omega arith in
        let o : (2 * (d / 2) + 1) * x ≡ 2 ^ (suc m + n) * t = ap (λ (k : ℕ). k * x) (sym q) ∙ h in
        fewer (2 ^ suc m) (2 ^ n) x (rw (pow-add 2 (suc m) n) at (odd-cancels (suc m + n) (d / 2) x t o))

-- ---- a multiple has no remainder, and below its divisor it is 0

pub remainder : (m x : ℕ) → Multiple m x → x % m ≡ 0
remainder m x p = let q = p.is in rw q (mul-mod_right m p.times)

pub none : (m x : ℕ) → 0 < m → Multiple m x → x < m → x ≡ 0
none m x pos p l = go p.times p.is
  where
    go : (t : ℕ) → x ≡ m * t → x ≡ 0
    go zero e = omega arith
    go (suc t) e = absurd (much (rw e at l))
      where
        much : m * suc t < m → ⊥
        much h = omega arith
