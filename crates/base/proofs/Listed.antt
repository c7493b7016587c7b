-- What stands at each place of a list that is listed, and an array that a loop has filled. Assumes nothing.
use mathlib.Core.List.{List, [], ◌∷◌, ◌++◌, map}
use mathlib.Core.Path.{◌≡◌, refl, sym, ap, ◌∙◌}
use Prim.Native.Nat.{ℕ, zero, suc, ◌+◌, ◌-◌, ◌≤◌, ◌<◌}
use native.Mathlib.Nat.{not-suc-le-zero}
use native.Mathlib.Omega.{arith}
use lib.ListN.{length, get_or, take}
use lib.Seq.{take_all}
use Rattle.base.specs.Loop.{listed}
use Rattle.base.proofs.Fill.{whole}

module _ {A : Type 0} (f : ℕ → A) where
  pub listed-length : (n i : ℕ) → length (listed f n i) ≡ n
  unfolding listed
  listed-length zero i = refl
  listed-length (suc n) i = ap suc (listed-length n (i + 1))

  pub listed_at : (n i k : ℕ) (d : A) → k < n → get_or (listed f n i) k d ≡ f (i + k)
  unfolding listed
  listed_at zero i k d h = absurd (not-suc-le-zero h)
  listed_at (suc n) i zero d h = let e : i ≡ i + 0 = omega arith in ap f e
  listed_at (suc n) i (suc k) d h =
      let e : i + 1 + k ≡ i + suc k = omega arith in
      listed_at n (i + 1) k d (omega arith) ∙ ap f e

  pub listed-from : (n k : ℕ) (d : A) → k < n → get_or (listed f n 0) k d ≡ f k
  listed-from n k d h = let z : 0 + k ≡ k = omega arith in rw z at (listed_at n 0 k d h)

  -- an array of n elements, all of which a loop has written
  pub filled : (n i : ℕ) (l : List A) → length l ≡ n → i ≤ n → n ≤ i → take i l ++ listed f (n - i) i ≡ listed f n 0 → l ≡ listed f n 0
  filled n i l e h h' inv = sym (take_all n l (omega arith)) ∙ whole f n i l (listed f n 0) h' h inv

-- one list by another, element for element
pub map-listed : {A B : Type 0} (g : A → B) (f : ℕ → A) (h : ℕ → B) (n i : ℕ) → ((k : ℕ) → i ≤ k → k < i + n → h k ≡ g (f k)) → listed h n i ≡ map g (listed f n i)
unfolding listed
map-listed g f h zero i same = refl
map-listed {A} {B} g f h (suc n) i same =
    let first : h i ≡ g (f i) = same i (omega arith) (omega arith) in
    ap (λ (b : B). b ∷ listed h n (i + 1)) first
    ∙ ap (λ (bs : List B). g (f i) ∷ bs) (map-listed g f h n (i + 1) (λ k l m. same k (omega arith) (omega arith)))
