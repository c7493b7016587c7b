-- What is in a list that `listed` makes is f at one of its numbers. Assumes nothing.
use mathlib.Core.Path.{◌≡◌, ap, ◌∙◌}
use mathlib.Core.Logic.{◌⊎◌, inl, inr}
use mathlib.Core.List.Memᴰ
use mathlib.Core.List.{Memᴰ}
use Prim.Native.Nat.{zero, ℕ, suc, ◌+◌, ◌<◌}
use native.Mathlib.Omega.{arith}
use Rattle.base.specs.Loop.{listed}

pub record Listed {A : Type 0} (a : A) (f : ℕ → A) (n i : ℕ) : Type 0 where
  pub at : ℕ
  pub below : at < n
  pub is : a ≡ f (i + at)

pub in-listed : {A : Type 0} (a : A) (f : ℕ → A) (n i : ℕ) → Memᴰ a (listed f n i) → Listed a f n i
unfolding listed
in-listed {A = A} a f zero i m = elim m [ ]
in-listed a f (suc n) i m = go (Memᴰ.cases_cons m) (λ r. in-listed a f n (i + 1) r)
  where
    go : (a ≡ f i) ⊎ Memᴰ a (listed f n (i + 1)) → (Memᴰ a (listed f n (i + 1)) → Listed a f n (i + 1)) → Listed a f (suc n) i
    go (inl e) rest = record { at = 0; below = omega arith; is = e ∙ ap f (let z : i ≡ i + 0 = omega arith in z) }
    go (inr r) rest = let l = rest r in record { at = suc l.at; below = (let z : l.at < n = l.below in omega arith); is = l.is ∙ ap f (let z : i + 1 + l.at ≡ i + suc l.at = omega arith in z) }
