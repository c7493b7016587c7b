-- What a step comes to, written into lent numbers.
use Rattle.std.specs.Prelude.{Bool, ◌&&◌, ◌||◌, List, [], ◌∷◌, ◌++◌, ℕ, eqb, leb, ltb, pos, length, Float}
use Rattle.std.specs.Float.{binary64}
use Rattle.std.specs.Float.Ieee.{of_int}
use Rattle.base.specs.Choose.{choose}
use Rattle.base.specs.Loop.{stored}
use Rattle.tables.specs.declared.LiquidKind.{LiquidKind}
use Rattle.tables.specs.Tables.{kind_number}
use Rattle.bodies.specs.declared.MotionNumbers.{MotionNumbers}
use Rattle.drags.specs.declared.Support.{Support}
use Rattle.drags.specs.Cases.{case_number, sampled_number}
use Rattle.step_answers.specs.Records.{StepAnswer}

-- feet, velocity, ground, and the liquid: 0 none, 1 water, 2 lava; eight numbers
abbrev pub moved_numbers : MotionNumbers → LiquidKind → List Float
moved_numbers m liquid =
    m.feet.x ∷ m.feet.y ∷ m.feet.z
    ∷ m.velocity.x ∷ m.velocity.y ∷ m.velocity.z
    ∷ of_int binary64 (pos m.on_ground) ∷ of_int binary64 (pos (kind_number liquid)) ∷ []

abbrev pub motion_numbers : StepAnswer → List Float
motion_numbers a = moved_numbers a.motion a.liquid

-- the case of its sample: 0 not asked, 1 sampled, 2 air, 3 unloaded, 4 unregistered; and the sampled number, 0 in every other case
abbrev pub support_numbers : Support → List Float
support_numbers s = of_int binary64 (pos (case_number s)) ∷ sampled_number s ∷ []

abbrev pub step_places : ℕ
step_places = 10

abbrev pub step_numbers : StepAnswer → List Float
step_numbers a = motion_numbers a ++ support_numbers a.support

-- 8, and 1 to 4: what is refused before any cell is asked for
unfoldable pub comes_first : ℕ → Bool
comes_first n = eqb n 8 || (leb 1 n && leb n 4)

-- 11 for less room than its numbers take: after these, and before all else
unfoldable pub step_refusal : ℕ → StepAnswer → ℕ
step_refusal places a = choose (comes_first a.refusal) a.refusal (choose (ltb places step_places) 11 a.refusal)

-- a refusal writes nothing: what the host has stays as it is
unfoldable pub step_written : List Float → StepAnswer → List Float
step_written out a = choose (eqb (step_refusal (length out) a) 0) (stored out 0 (step_numbers a)) out
