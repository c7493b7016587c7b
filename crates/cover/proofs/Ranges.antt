-- `any` of the library over a range is `any`. Assumes nothing.
use mathlib.Core.Bool.{Bool, true, false, ◌||◌}
use mathlib.Core.Path.{◌≡◌, refl, sym, ap, ◌∙◌}
use Prim.Native.Nat.{ℕ, zero, suc, ◌+◌}
use native.Mathlib.Omega.{arith}
use Rattle.std.specs.List.{list_any, range_with_len}
use Rattle.base.specs.Every.{any}

none-first : (a : Bool) → false || a ≡ a || false
none-first true = refl
none-first false = refl

assoc : (a b c : Bool) → (a || b) || c ≡ a || (b || c)
assoc true b c = refl
assoc false b c = refl

any-same : (p q : ℕ → Bool) → ((k : ℕ) → p k ≡ q k) → (n : ℕ) → any n p ≡ any n q
unfolding any
any-same p q e zero = refl
any-same p q e (suc n) = rw (any-same p q e n, e n)

-- the first, and the others
first : (n : ℕ) (q : ℕ → Bool) → any (suc n) q ≡ q 0 || any n (λ k. q (suc k))
unfolding any
first zero q = none-first (q 0)
first (suc n) q = ap (λ (b : Bool). b || q (suc n)) (first n q) ∙ assoc (q 0) (any n (λ k. q (suc k))) (q (suc n))

from : (p : ℕ → Bool) (n i : ℕ) → list_any p (range_with_len i n) ≡ any n (λ k. p (i + k))
unfolding any
from p zero i = refl
from p (suc n) i =
    let z : i + 0 ≡ i = omega arith in
    let s : (k : ℕ) → i + 1 + k ≡ i + suc k = λ k. omega arith in
    sym (rw z at (first n (λ k. p (i + k)))
    ∙ ap (λ (b : Bool). p i || b) (any-same (λ k. p (i + suc k)) (λ k. p (i + 1 + k)) (λ k. ap p (sym (s k))) n ∙ sym (from p n (i + 1))))

pub any_below : (p : ℕ → Bool) (n : ℕ) → list_any p (range_with_len 0 n) ≡ any n p
any_below p n = from p n 0 ∙ any-same (λ k. p (0 + k)) p (λ k. let z : 0 + k ≡ k = omega arith in ap p z) n
