-- What is found, where anything is, through tests and loops (`Finds` is the step's, crates/ticks/proofs/Tells.antt). Assumes nothing.
use mathlib.Core.Path.{◌≡◌, refl}
use mathlib.Core.Bool.{Bool, true, false, not}
use Prim.Native.Nat.{ℕ, zero, suc, ◌+◌}
use lib.Dec.{eqb}
use borrow.Author.Tests.{eqb-true}
use Rattle.base.specs.Choose.{choose}
use Rattle.base.specs.Ask.{Ask, ◌>>=◌, unless, asking, Turn, next, done, onward, turning}
use Rattle.window.specs.declared.Pos.{Pos}
use Rattle.ranges.specs.declared.Range.{Range}
use Rattle.ranges.specs.Walk.{line, layer, walk}
use Rattle.ticks.proofs.Tells.{Finds, nothing, one, by}

module _ {A : Type 0} {P : A → Type 0} where
  -- a test before an answer: where it is not refused the test passed
  pub passed : (t : Bool) (n : ℕ) (a : Ask A) → (t ≡ true → Finds P a) → Finds P (unless (not t) n a)
  unfolding choose
  passed true n a h = h refl
  passed false n a h = nothing n

  -- a refusal that was worked out before: where the answer is not refused it is 0
  pub checked : (n : ℕ) (a : Ask A) → (n ≡ 0 → Finds P a) → Finds P (unless (not (eqb n 0)) n a)
  checked n a h = passed (eqb n 0) n a (λ e. h (eqb-true n 0 e))

-- ---- loops: what holds before a turn holds after it
module _ {S : Type 0} (P : S → Type 0) where
  -- no turn says done
  abbrev pub Goes : {R : Type 0} → Turn S R → Type 0
  Goes (next s) = P s
  Goes (done r) = ⊥

  on : {R : Type 0} (m : Ask (Turn S R)) (k : S → Ask (Turn S R)) → Finds Goes m → ((s : S) → P s → Finds Goes (k s)) → Finds Goes (m >>= onward k)
  on {R} m k h g = by m (onward k) h turn
    where
      turn : (t : Turn S R) → Goes t → Finds Goes (onward k t)
      turn (next a) p = g a p
      turn (done r) p = absurd p

  loops : {R : Type 0} (f : ℕ → S → Ask (Turn S R)) → ((i : ℕ) (s : S) → P s → Finds Goes (f i s)) → (k i : ℕ) (s : S) → P s → Finds Goes (turning f k i s)
  unfolding turning
  loops f h zero i s p = one (next s) p
  loops f h (suc k) i s p = on (f i s) (turning f k (i + 1)) (h i s p) (loops f h k (i + 1))

  pub walks : {R : Type 0} (f : Pos → S → Ask (Turn S R)) (r : Range) → ((p : Pos) (s : S) → P s → Finds Goes (f p s)) → (s : S) → P s → Finds Goes (walk f r s)
  unfolding walk layer line
  walks f r h = loops (layer f r) (λ y. loops (line f r y) (λ x. loops _ (λ z. h _) r.z.count 0) r.x.count 0) r.y.count 0

  pub asks : (f : ℕ → S → Ask S) → ((i : ℕ) (s : S) → P s → Finds P (f i s)) → (k i : ℕ) (s : S) → P s → Finds P (asking f k i s)
  unfolding asking
  asks f h zero i s p = one s p
  asks f h (suc k) i s p = by (f i s) (asking f k (i + 1)) (h i s p) (asks f h k (i + 1))
