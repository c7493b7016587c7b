-- `through::move_through` meets its contract. Assumes nothing.
use mathlib.Core.Path.{◌∙◌}
use Rattle.passing.specs.Passing.{passes}
use Rattle.through.proofs.Moved.{as-asked}
use Rattle.through.proofs.move_through.Goals as goal

pub returns-then-r-gt6-2 : goal.returns-then-r-gt6-2
returns-then-r-gt6-2 c = c.many-told.ensures ∙ as-asked _ (passes _ _) _ _ _ _ _ _ _ c.swept_area-area.ensures c.range_of-r.ensures

pub returns : goal.returns
returns c = c.swept_through.ensures ∙ as-asked _ (passes _ _) _ _ _ _ _ _ _ c.swept_area-area.ensures c.range_of-r.ensures
