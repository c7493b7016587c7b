-- By the program's test whether a refusal ended a minute; and how one begins. Assumes nothing.
use mathlib.Core.Bool.{Bool, true, false, true≢false}
use mathlib.Core.List.{List, []}
use mathlib.Core.Path.{◌≡◌, refl, sym, ◌∙◌}
use Prim.Native.Nat.{ℕ}
use Rattle.std.specs.Prelude.{⊤, Result, Ok, Err}
use Rattle.std.specs.Result.{is_err}
use Rattle.base.specs.declared.Refusal.{Refusal}
use Rattle.base.specs.Refusals.{verdict}
use Rattle.base.proofs.Answers.{some_number}
use Rattle.bodies.specs.declared.MotionNumbers.{MotionNumbers}
use Rattle.logs.specs.declared.Event.{Event}
use Rattle.minute_state.specs.Minute.{MinuteLent, after, start}
use Rattle.minute_state.specs.Turns.{Minute, minute_of, state_of}

pub ended : (r : Result ⊤ Refusal) (b : Bool) → b ≡ is_err r → b ≡ true → verdict r ≡ 0 → ⊥
ended (Ok x) b e t = absurd (true≢false (sym t ∙ e))
ended (Err d) b e t = some_number d

pub going : (r : Result ⊤ Refusal) (b : Bool) → b ≡ is_err r → b ≡ false → verdict r ≡ 0
going (Ok x) b e f = refl
going (Err d) b e f = absurd (true≢false (sym e ∙ f))

-- a minute that begins runs from its start
pub from_start : (l : MinuteLent) (es : List Event) (given : MotionNumbers) (age : ℕ) (m : Minute) (words put : List ℕ)
    → m ≡ minute_of (start given age [] 0) → words ≡ put → after l (state_of m words []) es ≡ after l (start given age put 0) es
from_start l es given age m words put em ew = λ i. after l (state_of (em i) (ew i) []) es
