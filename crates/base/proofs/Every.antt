-- What `every` and `any` say, number by number, and how a loop shows them. Assumes nothing.
use mathlib.Core.Bool.{Bool, true, false, ◌&&◌, ◌||◌, true≢false, false≢true}
use mathlib.Core.Path.{◌≡◌, refl, sym, ◌∙◌, subst}
use Prim.Native.Nat.{ℕ, zero, suc, ◌+◌, ◌<◌}
use native.Mathlib.Nat.{not-suc-le-zero}
use native.Mathlib.Decide.{dec_lt}
use native.Mathlib.Omega.{arith}
use Rattle.std.proofs.Common.{add-one}
use Rattle.base.specs.Every.{every, any}

-- ---- conjunctions of tests
pub record Both (a b : Bool) : Type 0 where
  pub one : a ≡ true
  pub two : b ≡ true

pub both : (a b : Bool) → a && b ≡ true → Both a b
both true b h = record { one = refl; two = h }
both false b h = absurd (false≢true h)

pub and-true : (a b : Bool) → a ≡ true → b ≡ true → a && b ≡ true
and-true a b p q = rw (p, q)

pub and_right : (a b : Bool) → b ≡ false → a && b ≡ false
and_right true b h = h
and_right false b h = refl

-- ---- the numbers below n + 1 are those below n, and n
last : (k n : ℕ) → (k < n → ⊥) → k < suc n → k ≡ n
last k n g l = omega arith

pub with-last : (P : ℕ → Type 0) (n : ℕ) → ((k : ℕ) → k < n → P k) → P n → (k : ℕ) → k < suc n → P k
with-last P n h p k l = go (dec_lt k n)
  where
    go : Dec (k < n) → P k
    go (yes q) = h k q
    go (no q) = let e : k ≡ n = last k n q l in subst P (sym e) p

-- ---- every
pub every-at : (n : ℕ) (p : ℕ → Bool) → every n p ≡ true → (k : ℕ) → k < n → p k ≡ true
unfolding every
every-at zero p h k l = absurd (not-suc-le-zero l)
every-at (suc n) p h k l =
    let b = both (every n p) (p n) h in
    with-last (λ (k : ℕ). p k ≡ true) n (every-at n p b.one) b.two k l

pub every-from : (n : ℕ) (p : ℕ → Bool) → ((k : ℕ) → k < n → p k ≡ true) → every n p ≡ true
unfolding every
every-from zero p h = refl
every-from (suc n) p h = and-true (every n p) (p n) (every-from n p (λ k l. h k (omega arith))) (h n (omega arith))

is_false : (b : Bool) → (b ≡ true → ⊥) → b ≡ false
is_false true h = absurd (h refl)
is_false false h = refl

pub every-not : (n : ℕ) (p : ℕ → Bool) (k : ℕ) → k < n → p k ≡ false → every n p ≡ false
every-not n p k l h = is_false (every n p) (λ (e : every n p ≡ true). true≢false (sym (every-at n p e k l) ∙ h))

-- ---- some
pub some-none : (n : ℕ) (p : ℕ → Bool) → ((k : ℕ) → k < n → p k ≡ false) → any n p ≡ false
unfolding any
some-none zero p h = refl
some-none (suc n) p h = rw (some-none n p (λ k l. h k (omega arith))) (h n (omega arith))

or_right : (a b : Bool) → b ≡ true → a || b ≡ true
or_right true b h = refl
or_right false b h = h

pub some_at : (n : ℕ) (p : ℕ → Bool) (k : ℕ) → k < n → p k ≡ true → any n p ≡ true
unfolding any
some_at zero p k l h = absurd (not-suc-le-zero l)
some_at (suc n) p k l h = go (λ q. some_at n p k q h) (dec_lt k n)
  where
    go : (k < n → any n p ≡ true) → Dec (k < n) → any n p || p n ≡ true
    go again (yes q) = rw (again q)
    go again (no q) = let e : k ≡ n = last k n q l in or_right (any n p) (p n) (subst (λ (z : ℕ). p z ≡ true) e h)

pub none-at : (n : ℕ) (p : ℕ → Bool) → any n p ≡ false → (k : ℕ) → k < n → p k ≡ false
none-at n p h k l = is_false (p k) (λ (e : p k ≡ true). true≢false (sym (some_at n p k l e) ∙ h))

pub record Found (n : ℕ) (p : ℕ → Bool) : Type 0 where
  pub at : ℕ
  pub below : at < n
  pub there : p at ≡ true

pub find : (n : ℕ) (p : ℕ → Bool) → any n p ≡ true → Found n p
unfolding any
find zero p h = absurd (false≢true h)
find (suc n) p h = go (any n p) (λ e. find n p e) h
  where
    go : (b : Bool) → (b ≡ true → Found n p) → b || p n ≡ true → Found (suc n) p
    go true again g = let r = again refl in record { at = r.at; below = omega arith; there = r.there }
    go false again g = record { at = n; below = omega arith; there = g }

-- ---- a loop that goes up by one and stops at the first that fails: its invariant is `every i p ≡ true`
pub every-none : (p : ℕ → Bool) → every 0 p ≡ true
unfolding every
every-none p = refl

pub every-more : (n : ℕ) (p : ℕ → Bool) → every n p ≡ true → p n ≡ true → every (n + 1) p ≡ true
unfolding every
every-more n p h q = rw add-one (and-true (every n p) (p n) h q)

pub some-zero : (p : ℕ → Bool) → any 0 p ≡ false
unfolding any
some-zero p = refl

pub ruleset each = (every-none, every-more, every-not)
