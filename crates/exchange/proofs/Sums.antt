-- Sums of functions that differ at two places only. Assumes nothing.
use mathlib.Core.Path.{◌≡◌, subst}
use Prim.Native.Nat.{ℕ, zero, suc, ◌+◌, ◌<◌}
use native.Mathlib.Nat.{not-suc-le-zero}
use native.Mathlib.Decide.{dec_lt}
use native.Mathlib.Omega.{arith}
use Rattle.blocks.specs.Blocks.{sum_of}
use Rattle.block_checks.proofs.Words.{sum_same}

module _ (f g : ℕ → ℕ) where
  one : (n i : ℕ) → i < n → ((k : ℕ) → k < n → (k ≡ i → ⊥) → g k ≡ f k) → sum_of g n + f i ≡ sum_of f n + g i
  unfolding sum_of
  one zero i l h = absurd (not-suc-le-zero l)
  one (suc n) i l h = go (λ q. one n i q (λ k m. h k (omega arith))) (dec_lt i n)
    where
      go : (i < n → sum_of g n + f i ≡ sum_of f n + g i) → Dec (i < n) → sum_of g n + g n + f i ≡ sum_of f n + f n + g i
      go again (yes q) =
          let e = again q in
          let r = h n (omega arith) (λ z. omega arith) in
          omega arith
      go again (no q) =
          let z : n ≡ i = omega arith in
          let e = sum_same g f n (λ k m. h k (omega arith) (λ w. omega arith)) in
          subst (λ (x : ℕ). sum_of g n + g n + f x ≡ sum_of f n + f n + g x) z (omega arith)

  pub two : (n i j : ℕ) → i < j → j < n → ((k : ℕ) → k < n → (k ≡ i → ⊥) → (k ≡ j → ⊥) → g k ≡ f k) → sum_of g n + f i + f j ≡ sum_of f n + g i + g j
  unfolding sum_of
  two zero i j b l h = absurd (not-suc-le-zero l)
  two (suc n) i j b l h = go (λ q. two n i j b q (λ k m. h k (omega arith))) (dec_lt j n)
    where
      go : (j < n → sum_of g n + f i + f j ≡ sum_of f n + g i + g j) → Dec (j < n) → sum_of g n + g n + f i + f j ≡ sum_of f n + f n + g i + g j
      go again (yes q) =
          let e = again q in
          let r = h n (omega arith) (λ z. omega arith) (λ z. omega arith) in
          omega arith
      go again (no q) =
          let z : n ≡ j = omega arith in
          let e = one n i (omega arith) (λ k m o. h k (omega arith) o (λ w. omega arith)) in
          subst (λ (x : ℕ). sum_of g n + g n + f i + f x ≡ sum_of f n + f n + g i + g x) z (omega arith)
