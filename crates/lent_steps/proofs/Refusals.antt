-- What is returned and written for a step that is refused early, has no room, is refused late, or is accepted. Assumes nothing.
use mathlib.Core.Bool.{true, false, false≢true}
use mathlib.Core.List.{List}
use mathlib.Core.Path.{◌≡◌, refl, sym}
use Prim.Native.Nat.{ℕ, zero, suc, ◌≤◌, ◌<◌}
use native.Mathlib.Omega.{arith}
use lib.Dec.{eqb}
use lib.ListN.{length}
use lib.Ieee.{Float}
use borrow.Author.Tests.{eq-eqb, ne_eqb, lt-ltb, le-ltb}
use Rattle.base.specs.Choose.{choose}
use Rattle.base.specs.Loop.{stored}
use Rattle.std.specs.Prelude.{Result, Ok, Err}
use Rattle.base.specs.declared.Refusal.{Refusal}
use Rattle.base.specs.Refusals.{asked, verdict}
use Rattle.bodies.specs.declared.MotionNumbers.{MotionNumbers}
use Rattle.step_answers.specs.declared.Tick.{Tick}
use Rattle.step_answers.specs.Answers.{step_answer}
use Rattle.step_answers.specs.Records.{StepAnswer}
use Rattle.lent_steps.specs.Steps.{step_numbers, step_places, comes_first, step_refusal, step_written}

-- what is returned, and what the lent numbers are then
pub record Told (out after : List Float) (r : ℕ) (a : StepAnswer) : Type 0 where
  pub refusal : r ≡ step_refusal (length out) a
  pub numbers : after ≡ step_written out a

-- the number that a host is handed
pub told : (given : MotionNumbers) (answer : Result Tick Refusal) → (step_answer given (asked answer)).refusal ≡ verdict answer
told given (Ok t) = refl
told given (Err e) = refl

-- 0 is no refusal
not-zero : (n : ℕ) → comes_first n ≡ true → eqb n 0 ≡ false
unfolding comes_first
not-zero zero e = absurd (false≢true e)
not-zero (suc n) e = ne_eqb (suc n) 0 more
  where
    more : suc n ≡ 0 → ⊥
    more q = omega arith

module _ (out : List Float) (a : StepAnswer) where
  pub early : comes_first a.refusal ≡ true → Told out out a.refusal a
  unfolding step_refusal step_written choose
  early e = record { refusal = rw e; numbers = rw (e, not-zero a.refusal e) }

  module _ (e : comes_first a.refusal ≡ false) where
    pub short : length out < step_places → Told out out 11 a
    unfolding step_refusal step_written choose
    short h = let t = lt-ltb (length out) step_places h in record { refusal = rw (e, t); numbers = rw (e, t) }

    module _ (h : step_places ≤ length out) where
      pub late : (a.refusal ≡ 0 → ⊥) → Told out out a.refusal a
      unfolding step_refusal step_written choose
      late n = let t = le-ltb (length out) step_places h in record { refusal = rw (e, t); numbers = rw (e, t, ne_eqb a.refusal 0 n) }

      pub accepted : a.refusal ≡ 0 → Told out (stored out 0 (step_numbers a)) 0 a
      unfolding step_refusal step_written choose
      accepted z = let t = le-ltb (length out) step_places h in record { refusal = rw (e, t) (sym z); numbers = rw (e, t, eq-eqb a.refusal 0 z) }
