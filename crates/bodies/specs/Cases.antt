-- Which case of an enum a number names; a number that names none is refused by 3.
use Rattle.std.specs.Prelude.{ℕ, eqb, Result, Ok, Err}
use Rattle.base.specs.Choose.{choose}
use Rattle.base.specs.declared.Refusal.{Refusal}
use Rattle.base.specs.declared.Refusal.TheVariants.{Number}
use Rattle.bodies.specs.declared.Model.{Model}
use Rattle.bodies.specs.declared.Model.TheVariants.{Item, Living, FallingBlock, Other}
use Rattle.bodies.specs.declared.Stage.{Stage}
use Rattle.bodies.specs.declared.Stage.TheVariants.{BeforeMove, AfterMove, AfterDrag}
use Rattle.bodies.specs.declared.Ground.{Ground}
use Rattle.bodies.specs.declared.Ground.TheVariants as grounds
use Rattle.bodies.specs.Body.{model_number, stage_number, friction_number}

unfoldable pub model_read : ℕ → Result Model Refusal
model_read n =
    choose (eqb n (model_number Item)) (Ok Item)
    (choose (eqb n (model_number Living)) (Ok Living)
    (choose (eqb n (model_number FallingBlock)) (Ok FallingBlock)
    (choose (eqb n (model_number Other)) (Ok Other)
    (Err Number))))

unfoldable pub stage_read : ℕ → Result Stage Refusal
stage_read n =
    choose (eqb n (stage_number BeforeMove)) (Ok BeforeMove)
    (choose (eqb n (stage_number AfterMove)) (Ok AfterMove)
    (choose (eqb n (stage_number AfterDrag)) (Ok AfterDrag)
    (Err Number)))

unfoldable pub ground_read : ℕ → Result Ground Refusal
ground_read n =
    choose (eqb n (friction_number grounds.None)) (Ok grounds.None)
    (choose (eqb n (friction_number grounds.Block)) (Ok grounds.Block)
    (Err Number))
