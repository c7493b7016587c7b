-- Parts of lists: so many from a place on, or what there is of them. Assumes nothing.
use mathlib.Core.Path.{◌≡◌, sym, ap, ◌∙◌}
use mathlib.Core.List.{List}
use Prim.Native.Nat.{ℕ, ◌+◌, ◌-◌, ◌≤◌, ◌<◌, min}
use native.Mathlib.Omega.{arith}
use native.Mathlib.Decide.{dec_lt}
use lib.ListN.{length, take, drop, length-drop, drop_of_length-le}
use lib.Seq.{take_all}

module _ {A : Type 0} (l : List A) where
  pub behind : (at : ℕ) → drop (min at (length l)) l ≡ drop at l
  behind at = go (dec_lt at (length l))
    where
      go : Dec (at < length l) → drop (min at (length l)) l ≡ drop at l
      go (yes h) = let e : min at (length l) ≡ at = omega arith in ap (λ (k : ℕ). drop k l) e
      go (no h) =
          let e : min at (length l) ≡ length l = omega arith in
          let f : length l ≤ at = omega arith in
          rw e (drop_of_length-le l (omega arith) ∙ sym (drop_of_length-le l f))

  pub part : (at count s n : ℕ) → s ≡ min at (length l) → n ≡ min count (length l - s) → take (s + n - s) (drop s l) ≡ take count (drop at l)
  part at count s n es en =
      let m = length-drop at l in
      let e : s + n - s ≡ min count (length (drop at l)) = omega (arith, m) in
      ap (λ (k : ℕ). take k (drop s l)) e
      ∙ ap (λ (r : List A). take (min count (length (drop at l))) r) (ap (λ (k : ℕ). drop k l) es ∙ behind at)
      ∙ go (dec_lt count (length (drop at l)))
    where
      go : Dec (count < length (drop at l)) → take (min count (length (drop at l))) (drop at l) ≡ take count (drop at l)
      go (yes h) = let e : min count (length (drop at l)) ≡ count = omega arith in ap (λ (k : ℕ). take k (drop at l)) e
      go (no h) =
          let e : min count (length (drop at l)) ≡ length (drop at l) = omega arith in
          let f : length (drop at l) ≤ count = omega arith in
          rw e (take_all (length (drop at l)) (drop at l) (omega arith) ∙ sym (take_all count (drop at l) f))
