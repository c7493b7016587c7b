-- What a host is handed of a step: its answer or its refusal, the same with a fall record beside it, and the friction under a living body.
use Rattle.std.specs.Prelude.{◌≡◌, ℕ, eqb, Float, Option, Some}
use Rattle.std.specs.Prelude as std
use Rattle.base.specs.Choose.{choose}
use Rattle.base.specs.Ask.{Ask, refused, found, ◌>>=◌}
use Rattle.floats.specs.Numbers.{zero64}
use Rattle.tables.specs.declared.LiquidKind.TheVariants.{None}
use Rattle.bodies.specs.declared.MotionNumbers.{MotionNumbers}
use Rattle.bodies.specs.Body.{is_yes, yes_number}
use Rattle.drags.specs.declared.Sample.{Sample}
use Rattle.drags.specs.declared.Support.TheVariants.{Asked, NotAsked}
use Rattle.drags.specs.Cases.{sample_or}
use Rattle.fall_rule.specs.declared.Fall.{Fall}
use Rattle.fall_rule.specs.Rule.{fall_after}
use Rattle.step_answers.specs.declared.Tick.{Tick}
use Rattle.step_answers.specs.declared.FallingTick.{FallingTick}
use Rattle.step_answers.specs.declared.Friction.{Friction}
use Rattle.step_answers.specs.declared.HandedStep.{HandedStep}
use Rattle.step_answers.specs.declared.HandedFalling.{HandedFalling}
use Rattle.step_answers.specs.Records.{StepAnswer, FallingAnswer, FrictionAnswer}

-- a refused step returns position, velocity and ground flag as given, and liquid none; "where it is refused .. it carries a fifth case, not asked"
abbrev pub step_answer : MotionNumbers → Ask Tick → StepAnswer
step_answer given (refused n) = record { motion = given; liquid = None; support = NotAsked; refusal = n }
step_answer given (found t) =
    record {
      motion = record { feet = t.motion.feet; velocity = t.motion.velocity; on_ground = yes_number t.motion.on_ground };
      liquid = t.liquid;
      support = t.support;
      refusal = 0;
    }

-- the same of what a host is handed beside the refusal's number
abbrev pub handed_with : HandedStep → ℕ → StepAnswer
handed_with h n = record { motion = h.motion; liquid = h.liquid; support = h.support; refusal = n }

-- what is handed of a step that was made, by what it was given, and of none other
abbrev pub Made : Option HandedStep → (MotionNumbers → StepAnswer) → Type 0
Made (Some h) a = (given : MotionNumbers) → handed_with h 0 ≡ a given
Made std.None a = (given : MotionNumbers) → (a given).refusal ≡ 0 → ⊥

-- a step that was made has one answer, whatever it was given
abbrev pub made : Tick → StepAnswer
made t =
    record {
      motion = record { feet = t.motion.feet; velocity = t.motion.velocity; on_ground = yes_number t.motion.on_ground };
      liquid = t.liquid;
      support = t.support;
      refusal = 0;
    }

-- ---- with a fall record beside it

-- the record after a step that was accepted: from the feet given to the feet answered, with the ground and the liquid that the step answers
abbrev pub fall_over : Fall → MotionNumbers → StepAnswer → Fall
fall_over fall given a = fall_after fall given.feet.y a.motion.feet.y (is_yes a.motion.on_ground) a.liquid

-- "a refused step hands the record back unchanged"
unfoldable pub with_fall : Fall → MotionNumbers → StepAnswer → FallingAnswer
with_fall fall given a = record { step = a; fall = choose (eqb a.refusal 0) (fall_over fall given a) fall }

-- what a refusal before the step hands back: position, velocity and ground flag as given, liquid none, no sample, and the record as given
abbrev pub refused_falling : ℕ → MotionNumbers → Fall → FallingAnswer
refused_falling n given fall = record { step = step_answer given (refused n); fall = fall }

-- the record as given where the step is refused, and else the one after it
abbrev pub fall_left : Fall → Ask FallingTick → Fall
fall_left fall (refused n) = fall
fall_left fall (found t) = t.fall

abbrev pub tick_alone : Ask FallingTick → Ask Tick
tick_alone asked = do
  t ← asked
  found t.tick

abbrev pub falling_answer : MotionNumbers → Fall → Ask FallingTick → FallingAnswer
falling_answer given fall asked = record { step = step_answer given (tick_alone asked); fall = fall_left fall asked }

-- the same of what a host is handed beside the refusal's number
abbrev pub handed_falling : HandedFalling → ℕ → FallingAnswer
handed_falling h n = record { step = handed_with h.step n; fall = h.fall }

-- ---- the friction under a living body

-- a refused number is zero, and none was sampled
abbrev pub refused_friction : ℕ → FrictionAnswer
refused_friction n = record { value = zero64; support = NotAsked; refusal = n }

abbrev pub friction_answer : Float → Ask Sample → FrictionAnswer
friction_answer default (refused n) = refused_friction n
friction_answer default (found s) = record { value = sample_or default s; support = Asked s; refusal = 0 }

-- the same of a number and its sample
abbrev pub friction_told : Ask Friction → FrictionAnswer
friction_told (refused n) = refused_friction n
friction_told (found f) = record { value = f.value; support = Asked f.sample; refusal = 0 }
