-- What a host is handed, as one record for each call.
use Rattle.std.specs.Prelude.{ℕ, Float}
use Rattle.tables.specs.declared.LiquidKind.{LiquidKind}
use Rattle.bodies.specs.declared.MotionNumbers.{MotionNumbers}
use Rattle.drags.specs.declared.Support.{Support}
use Rattle.fall_rule.specs.declared.Fall.{Fall}

-- refusal 0, the motion after the step, the liquid and the sample; or a refusal, the motion as given, none, and not asked
pub record StepAnswer : Type 0 where
  pub motion : MotionNumbers
  pub liquid : LiquidKind
  pub support : Support
  pub refusal : ℕ

-- the same, and the record after it; a refused step hands the record back
pub record FallingAnswer : Type 0 where
  pub step : StepAnswer
  pub fall : Fall

-- the friction under a living body, and the sample that it comes from
pub record FrictionAnswer : Type 0 where
  pub value : Float
  pub support : Support
  pub refusal : ℕ
