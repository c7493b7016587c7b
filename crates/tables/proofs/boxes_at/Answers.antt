-- `tables::boxes_at` meets its contract. Assumes nothing.
use Rattle.std.proofs.Common.{refl}
use Rattle.tables.proofs.Lists.{whole_part, short-part, no_part}
use Rattle.tables.proofs.boxes_at.Goals as goal

pub returns-then-count-eq0 : goal.returns-then-count-eq0
returns-then-count-eq0 c = no_part _ _ _ c.if-count-eq0.true

pub returns-then-end-shapes : goal.returns-then-end-shapes
returns-then-end-shapes c =
    whole_part _ _ _ _ _ refl refl c.if-end-shapes.true

pub returns-else-end-shapes : goal.returns-else-end-shapes
returns-else-end-shapes c =
    short-part _ _ _ _ _ refl refl c.if-end-shapes.false
