-- Two asks side by side: the first refuses 6, or both are the same. Assumes nothing.
use mathlib.Core.Path.{◌≡◌, refl, ap, ◌∙◌}
use mathlib.Core.Bool.{Bool, true, false, not}
use mathlib.Core.Logic.{◌⊎◌, inl, inr}
use Prim.Native.Nat.{ℕ}
use lib.Dec.{eqb}
use Rattle.base.specs.Choose.{choose}
use Rattle.base.specs.Ask.{Ask, refused, found, ◌>>=◌}
use Rattle.lent.specs.Lent.{unless}

abbrev pub Beside : {A : Type 0} → Ask A → Ask A → Type 0
Beside m n = (m ≡ refused 6) ⊎ (m ≡ n)

module _ {A B : Type 0} where
  -- what follows is the same
  pub alike : (m : Ask A) (k l : A → Ask B) → ((a : A) → k a ≡ l a) → (m >>= k) ≡ (m >>= l)
  alike (refused n) k l h = refl
  alike (found a) k l h = h a

  pub before : (m n : Ask A) (k l : A → Ask B) → Beside m n → ((a : A) → k a ≡ l a) → Beside (m >>= k) (n >>= l)
  before m n k l (inl e) h = inl (rw e)
  before m n k l (inr e) h = inr (ap (λ (a : Ask A). a >>= k) e ∙ alike n k l h)

  -- what comes first is the same
  pub after : (m : Ask A) (k l : A → Ask B) → ((a : A) → Beside (k a) (l a)) → Beside (m >>= k) (m >>= l)
  after (refused n) k l h = inr refl
  after (found a) k l h = h a

  -- an answer that tells its refusal
  pub told : (answer : Ask A → B) (refusal : B → ℕ) → refusal (answer (refused 6)) ≡ 6 → (m n : Ask A) → Beside m n → (refusal (answer m) ≡ 6) ⊎ (answer m ≡ answer n)
  told answer refusal six m n (inl e) = inl (rw e six)
  told answer refusal six m n (inr e) = inr (ap answer e)

pub chosen : {A : Type 0} (t : Bool) (x m n : Ask A) → Beside m n → Beside (choose t x m) (choose t x n)
unfolding choose
chosen true x m n h = inr refl
chosen false x m n h = h

-- a refusal that is the same in both, where there is one
pub refused-alike : {A : Type 0} (n m : ℕ) (x y : Ask A) → n ≡ m → Beside x y → Beside (unless (not (eqb n 0)) n x) (unless (not (eqb m 0)) m y)
refused-alike n m x y e h = rw e (chosen (not (eqb m 0)) (refused m) x y h)
