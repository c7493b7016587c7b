-- `solids::quick_part` meets its contract. Assumes nothing.
use mathlib.Core.Path.{sym}
use Rattle.solids.specs.Shapes.{cell_shape}
use Rattle.solids.proofs.Boxes.{plain-shape}
use Rattle.solids.proofs.quick_part.Goals as goal

pub returns-then-h-eq0 : goal.returns-then-h-eq0
unfolding cell_shape
returns-then-h-eq0 c =
    rw (← c.look.ensures, c.in-Ok-Some.is, c.in-Ok-Some.field-0-is)
    (sym (plain-shape _ _ _ _ _ c.head-h.ensures c.if-h.true c.if-h-eq0.true))
