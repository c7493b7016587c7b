-- The first event whose number is 0, as the library finds it. Assumes nothing.
use Rattle.std.proofs.Common.{◌≡◌, ℕ, zero, suc, ◌+◌, ◌*◌, ◌≤◌, ◌<◌, arith}
use Rattle.std.specs.Prelude.{Option, None, Some, MatchOption}
use Rattle.std.specs.Option.{unwrap_or}
use native.Mathlib.Decide.{dec_lt}
use borrow.Author.Tests.{eq-eqb, ne_eqb}
use Rattle.base.specs.Choose.{choose}
use Rattle.logs.specs.Logs.{end_from}

module _ (word : ℕ → ℕ) where
  -- no event from s on and before i is the end
  abbrev pub NoneIn : ℕ → ℕ → Type 0
  NoneIn s i = (k : ℕ) → s ≤ k → k < i → word (k * 4) ≡ 0 → ⊥

  found-at : (n s i : ℕ) → s ≤ i → i < s + n → NoneIn s i → word (i * 4) ≡ 0 → i ≡ end_from word n s
  unfolding end_from choose
  found-at zero s i h g before here = absurd (omega arith)
  found-at (suc n) s i h g before here = go (dec_lt s i) (λ (l : s < i). found-at n (s + 1) i (omega arith) (omega arith) (λ k a b. before k (omega arith) b) here)
    where
      go : Dec (s < i) → (s < i → i ≡ end_from word n (s + 1)) → i ≡ end_from word (suc n) s
      go (yes l) later = rw (ne_eqb _ _ (before s (omega arith) l)) (later l)
      go (no l) later = let e : i ≡ s = omega arith in let z : word (s * 4) ≡ 0 = rw e at here in rw (eq-eqb _ _ z) e

  none-at : (n s : ℕ) → NoneIn s (s + n) → s + n ≡ end_from word n s
  unfolding end_from choose
  none-at zero s h = omega arith
  none-at (suc n) s h =
      let e : s + suc n ≡ s + 1 + n = omega arith in
      rw (ne_eqb _ _ (h s (omega arith) (omega arith)), e) (none-at n (s + 1) (λ k a b. h k (omega arith) (omega arith)))

  pub end-is : (n : ℕ) (r : Option ℕ) → MatchOption r (NoneIn 0 n) (λ i. (0 ≤ i) × (i < n) × (word (i * 4) ≡ 0) × NoneIn 0 i) → unwrap_or r n ≡ end_from word n 0
  end-is n None h = let z : 0 + n ≡ n = omega arith in rw z at (none-at n 0 (λ k a b. h k a (omega arith)))
  end-is n (Some i) h = found-at n 0 i (omega arith) (omega arith) h.3 h.2
