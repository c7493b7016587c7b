-- What the step's contract comes to: demand 1's hand-back, and demand 2's one answer. Assumes nothing.
use mathlib.Core.Path.{◌≡◌, refl, sym, ap, ◌∙◌}
use mathlib.Core.List.{List}
use Prim.Native.Nat.{ℕ, ◌<◌}
use native.Mathlib.Omega.{arith}
use lib.Ieee.{Float}
use Rattle.base.specs.Choose.{choose}
use Rattle.base.specs.Ask.{Ask, refused, found}
use Rattle.tables.specs.declared.LiquidKind.TheVariants.{None}
use Rattle.drags.specs.declared.Support.TheVariants.{NotAsked}
use Rattle.window.specs.declared.Window.{Window}
use Rattle.window.specs.Look.{look_at}
use Rattle.window.specs.Numbers.{with_air}
use Rattle.groups.proofs.Sets.{Kept}
use Rattle.past.proofs.Plain.{lent-short}
use Rattle.lent.specs.Lent.{lent_refusal}
use Rattle.bodies.specs.declared.BodyNumbers.{BodyNumbers}
use Rattle.bodies.specs.declared.Rules.{Rules}
use Rattle.bodies.specs.declared.MotionNumbers.{MotionNumbers}
use Rattle.bodies.specs.Body.{body_of, motion_of}
use Rattle.step_answers.specs.declared.Tick.{Tick}
use Rattle.ticks.specs.Step.{step_body_sensed, step_body_past}
use Rattle.ticks.proofs.Past.{step-with, step-without}
use Rattle.step_answers.specs.Records.{StepAnswer}
use Rattle.step.specs.Answers.{step_answer, fitting, checked_asked, past_asked, checked_entry, step_asked, step_entry}

answer-hands-back : (given : MotionNumbers) (asked : Ask Tick) → 0 < (step_answer given asked).refusal
    → ((step_answer given asked).motion ≡ given) × ((step_answer given asked).liquid ≡ None) × ((step_answer given asked).support ≡ NotAsked)
answer-hands-back given (refused n) h = (refl, refl, refl)
answer-hands-back given (found t) h = absurd (omega arith)

module _ (records : List ℕ) (shapes : List Float) (cells : List ℕ) (w : Window) (rules : Rules) (body : BodyNumbers) (given : MotionNumbers) (age : ℕ) where
  -- what fits the contract
  abbrev pub Fits : StepAnswer → Type 0
  Fits a = a ≡ step_entry records shapes cells w rules body given age

  -- two steps that fit it are equal in each bit
  pub one-step : (a b : StepAnswer) → Fits a → Fits b → a ≡ b
  one-step a b f g = f ∙ sym g

  -- a refused step hands back position, velocity and ground flag as given, liquid none, and tells no case
  pub hands-back : (a : StepAnswer) → Fits a → 0 < a.refusal → (a.motion ≡ given) × (a.liquid ≡ None) × (a.support ≡ NotAsked)
  unfolding step_entry
  hands-back a f h = rw f (answer-hands-back given (step_asked records shapes cells w rules body given age) (rw f at h))

  -- where the tick by the summary is the plain one, what is asked is the same
  asked-alike : step_body_past cells (with_air w rules.air) records shapes rules (body_of body) (motion_of given) age ≡ step_body_sensed (look_at cells (with_air w rules.air)) records shapes rules (body_of body) (motion_of given) age
      → past_asked records shapes cells w rules body given age ≡ checked_asked records shapes cells w rules body given age
  asked-alike e = ap (λ (t : Ask Tick). fitting records rules body given t) e

  -- with a true summary
  pub past-with : Kept records cells (with_air w rules.air) → past_asked records shapes cells w rules body given age ≡ checked_asked records shapes cells w rules body given age
  past-with kept = asked-alike (step-with cells (with_air w rules.air) records shapes rules (body_of body) (motion_of given) age kept)

  -- and over tables and a window that pass, where there is none
  pub past-without : lent_refusal records shapes cells w ≡ 0 → past_asked records shapes cells w rules body given age ≡ checked_asked records shapes cells w rules body given age
  past-without h = asked-alike (step-without cells (with_air w rules.air) records shapes rules (body_of body) (motion_of given) age (lent-short records shapes cells w h))

  -- there the step without their check is the step
  pub checked-alike : lent_refusal records shapes cells w ≡ 0
      → checked_entry records shapes cells w rules body given age ≡ step_entry records shapes cells w rules body given age
  unfolding step_entry checked_entry choose
  checked-alike h = rw (h, past-without h)
