-- What a step with a fall record comes to, written into lent numbers.
use Rattle.std.specs.Prelude.{List, ◌∷◌, ◌++◌, ℕ, eqb, Float}
use Rattle.base.specs.Choose.{choose}
use Rattle.base.specs.Loop.{stored}
use Rattle.step_answers.specs.Records.{FallingAnswer}
use Rattle.lent_steps.specs.Steps.{motion_numbers, support_numbers}

-- the motion's eight numbers, then the record after it, sum and landed, then the sample: twelve numbers
abbrev pub falling_numbers : FallingAnswer → List Float
falling_numbers a = motion_numbers a.step ++ (a.fall.sum ∷ a.fall.landed ∷ support_numbers a.step.support)

abbrev pub falling_places : ℕ
falling_places = 12

-- a refusal writes nothing: what the host has stays as it is, its record too
unfoldable pub falling_written : List Float → FallingAnswer → List Float
falling_written out a = choose (eqb a.step.refusal 0) (stored out 0 (falling_numbers a)) out
