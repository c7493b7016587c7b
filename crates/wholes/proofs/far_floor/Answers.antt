-- `wholes::far_floor` meets its contract: the library's floor is `floor_of`. Assumes nothing.
use mathlib.Core.Path.{sym, ◌∙◌}
use Rattle.wholes.proofs.Same.{floor_same}
use Rattle.floats.proofs.Answers.{taken, turned-away}
use Rattle.wholes.proofs.far_floor.Goals as goal

pub returns-then-is_finite : goal.returns-then-is_finite
returns-then-is_finite c = taken _ _ _ (sym c.is_finite.ensures ∙ c.if-is_finite.true) (c.floor.ensures ∙ floor_same c.args.x)

pub returns-else-is_finite : goal.returns-else-is_finite
returns-else-is_finite c = turned-away _ _ (sym c.is_finite.ensures ∙ c.if-is_finite.false)
