-- Where a step tells a sample: exactly where it is accepted, its body does not rest and the Rust takes one. Everywhere else its case is not asked.
-- Assumes nothing.
use mathlib.Core.Path.{◌≡◌, refl}
use mathlib.Core.Bool.{Bool, true, false, ◌&&◌}
use mathlib.Core.List.{List}
use Prim.Native.Nat.{ℕ}
use native.Mathlib.Omega.{arith}
use lib.Dec.{eqb}
use lib.Ieee.{Float}
use borrow.Author.Tests.{ne_eqb}
use Rattle.base.specs.Choose.{choose}
use Rattle.base.specs.Ask.{Ask, refused, found}
use Rattle.window.specs.declared.Window.{Window}
use Rattle.window.specs.Look.{look_at}
use Rattle.window.specs.Numbers.{with_air}
use Rattle.collection.proofs.Refuses.{Refuses}
use Rattle.bodies.specs.declared.BodyNumbers.{BodyNumbers}
use Rattle.bodies.specs.declared.Rules.{Rules}
use Rattle.bodies.specs.declared.MotionNumbers.{MotionNumbers}
use Rattle.bodies.specs.Body.{is_yes, yes_number, body_of, motion_of}
use Rattle.samples.specs.Samples.{is_asked}
use Rattle.step_answers.specs.declared.Tick.{Tick}
use Rattle.ticks.specs.Step.{tells_sample}
use Rattle.ticks.proofs.Tells.{Finds, nothing, either, tick-tells}
use Rattle.step_answers.specs.Records.{StepAnswer}
use Rattle.step.specs.Answers.{step_answer, step_asked, step_entry}
use Rattle.step.proofs.Refuses.{Named, step-refuses}

yes-back : (b : Bool) → is_yes (yes_number b) ≡ b
unfolding is_yes yes_number choose
yes-back true = refl
yes-back false = refl

module _ (records : List ℕ) (shapes : List Float) (cells : List ℕ) (w : Window) (rules : Rules) (body : BodyNumbers) (given : MotionNumbers) (age : ℕ) where
  -- of a tick, and of an answer
  abbrev Told : Tick → Type 0
  Told t = is_asked t.support ≡ tells_sample (look_at cells (with_air w rules.air)) records (body_of body) (motion_of given) age t.liquid t.motion.on_ground

  abbrev pub Tells : StepAnswer → Type 0
  Tells a =
      is_asked a.support
      ≡ (eqb a.refusal 0 && tells_sample (look_at cells (with_air w rules.air)) records (body_of body) (motion_of given) age a.liquid (is_yes a.motion.on_ground))

  asked-tells : Finds Told (step_asked records shapes cells w rules body given age)
  asked-tells =
      either _ _ _ (nothing _)
      (either _ _ _ (nothing _) (tick-tells (look_at cells (with_air w rules.air)) records rules (body_of body) shapes (motion_of given) age))

  answer-tells : (m : Ask Tick) → Refuses Named m → Finds Told m → Tells (step_answer given m)
  answer-tells (refused n) h f = rw (ne_eqb n 0 (λ e. let k = h.only n refl in omega arith))
  answer-tells (found t) h f = rw (yes-back t.motion.on_ground) (f.each t refl)

  pub step-tells : Tells (step_entry records shapes cells w rules body given age)
  unfolding step_entry
  step-tells = answer-tells (step_asked records shapes cells w rules body given age) (step-refuses records shapes cells w rules body given age) asked-tells
