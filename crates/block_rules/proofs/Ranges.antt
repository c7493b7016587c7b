-- `all` over a range is `every`. Assumes nothing.
use mathlib.Core.Bool.{Bool, true, false, ◌&&◌}
use mathlib.Core.Path.{◌≡◌, refl, sym, ap, ◌∙◌}
use Prim.Native.Nat.{ℕ, zero, suc, ◌+◌}
use native.Mathlib.Omega.{arith}
use Rattle.std.specs.List.{list_all, range_with_len}
use Rattle.base.specs.Every.{every}
use Rattle.base.proofs.Tests.{every-same}

and-one : (a : Bool) → true && a ≡ a && true
and-one true = refl
and-one false = refl

assoc : (a b c : Bool) → (a && b) && c ≡ a && (b && c)
assoc true b c = refl
assoc false b c = refl

-- the first, and the others
first : (n : ℕ) (q : ℕ → Bool) → every (suc n) q ≡ q 0 && every n (λ k. q (suc k))
unfolding every
first zero q = and-one (q 0)
first (suc n) q = ap (λ (b : Bool). b && q (suc n)) (first n q) ∙ assoc (q 0) (every n (λ k. q (suc k))) (q (suc n))

-- a range that begins at i
pub all-from : (p : ℕ → Bool) (n i : ℕ) → list_all p (range_with_len i n) ≡ every n (λ k. p (i + k))
unfolding every
all-from p zero i = refl
all-from p (suc n) i =
    let z : i + 0 ≡ i = omega arith in
    let s : (k : ℕ) → i + 1 + k ≡ i + suc k = λ k. omega arith in
    sym (rw z at (first n (λ k. p (i + k)))
    ∙ ap (λ (b : Bool). p i && b) (every-same (λ k. p (i + suc k)) (λ k. p (i + 1 + k)) (λ k. ap p (sym (s k))) n ∙ sym (all-from p n (i + 1))))

pub all-every : (p : ℕ → Bool) (n : ℕ) → list_all p (range_with_len 0 n) ≡ every n p
all-every p n = all-from p n 0 ∙ every-same (λ k. p (0 + k)) p (λ k. let z : 0 + k ≡ k = omega arith in ap p z) n
