-- The events of a log that is cut are the first of the log's. Assumes nothing.
use mathlib.Core.List.{List, ◌∷◌}
use mathlib.Core.Path.{◌≡◌, ap}
use Prim.Native.Nat.{ℕ, zero, suc, ◌+◌, min}
use native.Mathlib.Omega.{arith}
use lib.ListN.{take}
use Rattle.base.specs.Loop.{listed}
use Rattle.logs.specs.declared.Log.{Log}
use Rattle.logs.specs.Logs.{event_at, log_word, events_by, first_of}

-- so many of a list that is made by a loop, and no more than there are
listed-first : {A : Type 0} (f : ℕ → A) (n k i : ℕ) → listed f (min n k) i ≡ take n (listed f k i)
unfolding listed
listed-first f zero k i = let e : min 0 k ≡ 0 = omega arith in rw e
listed-first f (suc n) zero i = let e : min (suc n) 0 ≡ 0 = omega arith in rw e
listed-first {A} f (suc n) (suc k) i =
    let e : min (suc n) (suc k) ≡ suc (min n k) = omega arith in
    rw e (ap (λ (l : List A). f i ∷ l) (listed-first f n k (i + 1)))

pub first-events : (file : List ℕ) (l : Log) (n : ℕ) → events_by file (first_of l n) ≡ take n (events_by file l)
unfolding events_by
first-events file l n = listed-first (event_at (log_word file l.scene l.blocks)) n l.events 0
