-- The order of signed numbers is kept when both sides move by the same number. Assumes nothing.
use mathlib.Core.Path.{◌≡◌, refl, sym, ◌∙◌}
use mathlib.Core.Bool.{Bool}
use Prim.Native.Nat.{zero, suc}
use lib.Dec.{leb-suc-suc, leb-zero, leb-suc-zero}
use lib.IntN.{ℤ, pos, negsuc, neg_ℤ, suc_ℤ, pred_ℤ, suc-pred, ◌+ℤ◌, ℤ_ind, +ℤ_assoc, +ℤ_one, +ℤ_idr, -ℤ_one}
use lib.Signed.{lt_z, le_z}

lt-suc : (a b : ℤ) → lt_z (suc_ℤ a) (suc_ℤ b) ≡ lt_z a b
lt-suc (pos a) (pos b) = leb-suc-suc (suc a) b
lt-suc (pos a) (negsuc zero) = leb-suc-zero (suc a)
lt-suc (pos a) (negsuc (suc b)) = refl
lt-suc (negsuc zero) (pos b) = leb-suc-suc zero b ∙ leb-zero b
lt-suc (negsuc (suc a)) (pos b) = refl
lt-suc (negsuc zero) (negsuc zero) = refl
lt-suc (negsuc zero) (negsuc (suc b)) = sym (leb-suc-zero (suc b))
lt-suc (negsuc (suc a)) (negsuc zero) = sym (leb-suc-suc zero a ∙ leb-zero a)
lt-suc (negsuc (suc a)) (negsuc (suc b)) = sym (leb-suc-suc (suc b) a)

le-suc : (a b : ℤ) → le_z (suc_ℤ a) (suc_ℤ b) ≡ le_z a b
le-suc (pos a) (pos b) = leb-suc-suc a b
le-suc (pos a) (negsuc zero) = leb-suc-zero a
le-suc (pos a) (negsuc (suc b)) = refl
le-suc (negsuc zero) (pos b) = leb-zero (suc b)
le-suc (negsuc (suc a)) (pos b) = refl
le-suc (negsuc zero) (negsuc zero) = refl
le-suc (negsuc zero) (negsuc (suc b)) = sym (leb-suc-zero b)
le-suc (negsuc (suc a)) (negsuc zero) = sym (leb-zero (suc a))
le-suc (negsuc (suc a)) (negsuc (suc b)) = sym (leb-suc-suc b a)

plus_one : (a k : ℤ) → a +ℤ (k +ℤ pos 1) ≡ suc_ℤ (a +ℤ k)
plus_one a k = sym (+ℤ_assoc a k (pos 1)) ∙ +ℤ_one (a +ℤ k)

less_one : (a k : ℤ) → a +ℤ (k +ℤ neg_ℤ (pos 1)) ≡ pred_ℤ (a +ℤ k)
less_one a k = sym (+ℤ_assoc a k (neg_ℤ (pos 1))) ∙ -ℤ_one (a +ℤ k)

-- a test of two numbers that one more on both sides leaves as it is
module _ (R : ℤ → ℤ → Bool) (same : (a b : ℤ) → R (suc_ℤ a) (suc_ℤ b) ≡ R a b) where
  Moves : ℤ → Type 0
  Moves k = (a b : ℤ) → R (a +ℤ k) (b +ℤ k) ≡ R a b

  up : (k : ℤ) → Moves k → Moves (k +ℤ pos 1)
  unfolding Moves
  up k h a b = (λ i. R (plus_one a k i) (plus_one b k i)) ∙ same (a +ℤ k) (b +ℤ k) ∙ h a b

  down : (k : ℤ) → Moves k → Moves (k +ℤ neg_ℤ (pos 1))
  unfolding Moves
  down k h a b =
      (λ i. R (less_one a k i) (less_one b k i)) ∙ sym (same (pred_ℤ (a +ℤ k)) (pred_ℤ (b +ℤ k)))
      ∙ (λ i. R (suc-pred (a +ℤ k) i) (suc-pred (b +ℤ k) i)) ∙ h a b

  still : Moves (pos 0)
  unfolding Moves
  still a b = λ i. R (+ℤ_idr a i) (+ℤ_idr b i)

  moved : (k a b : ℤ) → R (a +ℤ k) (b +ℤ k) ≡ R a b
  unfolding Moves
  moved k = ℤ_ind Moves still (λ n h. up (pos n) h) (λ n h. down (neg_ℤ (pos n)) h) k

pub lt-moved : (k a b : ℤ) → lt_z (a +ℤ k) (b +ℤ k) ≡ lt_z a b
lt-moved k a b = moved lt_z lt-suc k a b

pub le-moved : (k a b : ℤ) → le_z (a +ℤ k) (b +ℤ k) ≡ le_z a b
le-moved k a b = moved le_z le-suc k a b
