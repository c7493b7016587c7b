-- What a host is handed is all that it is: another answer that fits the contract is equal. Assumes nothing.
use mathlib.Core.Path.{◌≡◌, refl, sym, ap, ◌∙◌}
use mathlib.Core.Bool.{Bool, true, false}
use Rattle.std.specs.Prelude.{Result, Ok, Err}
use Rattle.base.specs.Choose.{choose}
use Rattle.base.specs.declared.Refusal.{Refusal}
use Rattle.base.specs.Refusals.{asked}
use Rattle.base.specs.Ask.{found}
use Rattle.base.proofs.Answers.{one_number, some_number}
use Rattle.bodies.specs.declared.MotionNumbers.{MotionNumbers}
use Rattle.bodies.specs.Body.{is_yes, yes_number}
use Rattle.drags.specs.declared.Support.TheVariants.{Asked}
use Rattle.fall_rule.specs.declared.Fall.{Fall}
use Rattle.step_answers.specs.declared.Tick.{Tick}
use Rattle.step_answers.specs.declared.FallingTick.{FallingTick}
use Rattle.step_answers.specs.declared.Friction.{Friction}
use Rattle.step_answers.specs.Records.{StepAnswer, FallingAnswer, FrictionAnswer}
use Rattle.step_answers.specs.Answers.{step_answer, falling_answer, friction_told}

pub yes_kept : (b : Bool) → is_yes (yes_number b) ≡ b
unfolding is_yes yes_number choose
yes_kept true = refl
yes_kept false = refl

-- the tick that was made, out of what is handed of it
tick_of : StepAnswer → Tick
tick_of s =
    record {
      motion = record { feet = s.motion.feet; velocity = s.motion.velocity; on_ground = is_yes s.motion.on_ground };
      liquid = s.liquid;
      support = s.support;
    }

tick_kept : (given : MotionNumbers) (t : Tick) → tick_of (step_answer given (found t)) ≡ t
unfolding tick_of
tick_kept given t = rw (yes_kept t.motion.on_ground)

pub step-once : (given : MotionNumbers) (a b : Result Tick Refusal) → step_answer given (asked a) ≡ step_answer given (asked b) → a ≡ b
step-once given (Ok t) (Ok u) e = ap Ok (sym (tick_kept given t) ∙ ap tick_of e ∙ tick_kept given u)
step-once given (Ok t) (Err d) e = absurd (some_number d (sym (ap (λ (s : StepAnswer). s.refusal) e)))
step-once given (Err d) (Ok u) e = absurd (some_number d (ap (λ (s : StepAnswer). s.refusal) e))
step-once given (Err c) (Err d) e = ap Err (one_number c d (ap (λ (s : StepAnswer). s.refusal) e))

falling_of : FallingAnswer → FallingTick
falling_of r = record { tick = tick_of r.step; fall = r.fall }

falling_kept : (given : MotionNumbers) (fall : Fall) (t : FallingTick) → falling_of (falling_answer given fall (found t)) ≡ t
unfolding falling_of
falling_kept given fall t = rw (tick_kept given t.tick)

pub falling-once : (given : MotionNumbers) (fall : Fall) (a b : Result FallingTick Refusal) → falling_answer given fall (asked a) ≡ falling_answer given fall (asked b) → a ≡ b
falling-once given fall (Ok t) (Ok u) e = ap Ok (sym (falling_kept given fall t) ∙ ap falling_of e ∙ falling_kept given fall u)
falling-once given fall (Ok t) (Err d) e = absurd (some_number d (sym (ap (λ (s : FallingAnswer). s.step.refusal) e)))
falling-once given fall (Err d) (Ok u) e = absurd (some_number d (ap (λ (s : FallingAnswer). s.step.refusal) e))
falling-once given fall (Err c) (Err d) e = ap Err (one_number c d (ap (λ (s : FallingAnswer). s.step.refusal) e))

friction_same : (f g : Friction) → friction_told (found f) ≡ friction_told (found g) → f ≡ g
friction_same f g e =
    let v : f.value ≡ g.value = ap (λ (s : FrictionAnswer). s.value) e in
    let h : Asked f.sample ≡ Asked g.sample = ap (λ (s : FrictionAnswer). s.support) e in
    let q : f.sample ≡ g.sample = cc in
    λ i. record { value = v i; sample = q i }

pub friction-once : (a b : Result Friction Refusal) → friction_told (asked a) ≡ friction_told (asked b) → a ≡ b
friction-once (Ok f) (Ok g) e = ap Ok (friction_same f g e)
friction-once (Ok f) (Err d) e = absurd (some_number d (sym (ap (λ (s : FrictionAnswer). s.refusal) e)))
friction-once (Err d) (Ok g) e = absurd (some_number d (ap (λ (s : FrictionAnswer). s.refusal) e))
friction-once (Err c) (Err d) e = ap Err (one_number c d (ap (λ (s : FrictionAnswer). s.refusal) e))
