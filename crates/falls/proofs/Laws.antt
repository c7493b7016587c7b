-- The step with a fall record: it is the step, its refusals hand the record back, and over checked tables and window it is itself. Assumes nothing.
use mathlib.Core.Bool.{Bool, true, false, not}
use mathlib.Core.List.{List}
use mathlib.Core.Path.{◌≡◌, refl}
use Prim.Native.Nat.{ℕ, ◌<◌}
use native.Mathlib.Omega.{arith}
use lib.Dec.{T}
use lib.Ieee.{Float}
use borrow.Author.Tests.{ne_eqb}
use Rattle.base.specs.Choose.{choose}
use Rattle.base.specs.Ask.{Ask, refused, found}
use Rattle.window.specs.declared.Window.{Window}
use Rattle.window.specs.Numbers.{with_air}
use Rattle.groups.specs.Summary.{summary_refusal}
use Rattle.summary.specs.Calls.{plain_words}
use Rattle.lent.specs.Lent.{unless, sound, lent_refusal}
use Rattle.bodies.specs.declared.BodyNumbers.{BodyNumbers}
use Rattle.bodies.specs.declared.Rules.{Rules}
use Rattle.bodies.specs.declared.MotionNumbers.{MotionNumbers}
use Rattle.step_answers.specs.declared.Tick.{Tick}
use Rattle.step.specs.Answers.{step_answer, checked_asked, step_entry}
use Rattle.step.proofs.Laws.{past-without}
use Rattle.step.proofs.Summed.{asked-summed}
use Rattle.fall_rule.specs.declared.Fall.{Fall}
use Rattle.fall_rule.specs.Rule.{fall_fits}
use Rattle.falls.specs.Answers.{with_fall, falling_checked, falling_entry, falling_summed, HandedBack}

-- a refusal hands back position, velocity, ground flag and record as given, liquid none, and no sample
refusal-hands-back : (given : MotionNumbers) (fall : Fall) (ask : Ask Tick) → 0 < (step_answer given ask).refusal
    → HandedBack given fall (with_fall fall given (step_answer given ask))
unfolding with_fall choose
refusal-hands-back given fall (refused n) h = record { motion = refl; liquid = refl; support = refl; fall = rw (ne_eqb n 0 (λ (e : n ≡ 0). omega arith)) }
refusal-hands-back given fall (found t) h = absurd (omega arith)

module _ (records : List ℕ) (shapes : List Float) (cells : List ℕ) (w : Window) (rules : Rules) (body : BodyNumbers) (given : MotionNumbers) (age : ℕ) (fall : Fall) where
  -- what is asked where the record fits, or does not
  asked : Bool → Ask Tick
  asked fits = sound records shapes cells w (unless (not fits) 3 (checked_asked records shapes cells w rules body given age))

  -- with a record that fits: the step's own answer, and the record beside it
  pub beside : T (fall_fits fall)
      → falling_entry records shapes cells w rules body given age fall ≡ with_fall fall given (step_entry records shapes cells w rules body given age)
  unfolding falling_entry step_entry choose asked
  beside = go (fall_fits fall)
    where
      go : (b : Bool) → T b → with_fall fall given (step_answer given (asked b)) ≡ with_fall fall given (step_answer given (asked true))
      go true t = refl
      go false t = absurd t

  -- with one that does not: 3, unless it is a 1 or a 2
  pub unfit : T (not (fall_fits fall))
      → falling_entry records shapes cells w rules body given age fall ≡ with_fall fall given (step_answer given (sound records shapes cells w (refused 3)))
  unfolding falling_entry choose asked
  unfit = go (fall_fits fall)
    where
      go : (b : Bool) → T (not b) → with_fall fall given (step_answer given (asked b)) ≡ with_fall fall given (step_answer given (asked false))
      go true t = absurd t
      go false t = refl

  pub hands-back : 0 < (falling_entry records shapes cells w rules body given age fall).step.refusal
      → HandedBack given fall (falling_entry records shapes cells w rules body given age fall)
  unfolding falling_entry with_fall asked
  hands-back h = refusal-hands-back given fall (asked (fall_fits fall)) h

  -- with a summary that passes its check the step over it is the plain step over cells and columns
  pub summed-alike : summary_refusal records cells (with_air w rules.air) ≡ 0
      → falling_summed records shapes cells w rules body given age fall ≡ falling_entry records shapes (plain_words cells w) w rules body given age fall
  unfolding falling_summed falling_entry
  summed-alike h = rw (asked-summed records shapes cells w rules body given age h)

  -- over tables and a window that pass, the step without their check is the step
  pub checked-alike : lent_refusal records shapes cells w ≡ 0
      → falling_checked records shapes cells w rules body given age fall ≡ falling_entry records shapes cells w rules body given age fall
  unfolding falling_entry falling_checked choose
  checked-alike h = rw (h, past-without records shapes cells w rules body given age h)
