-- `palette_boxes::fill_shapes` meets its contract. Assumes nothing.
use Rattle.std.proofs.Common.{◌∙◌, le-ltb, lt-ltb}
use Rattle.base.specs.Choose.{choose}
use Rattle.palette_boxes.specs.Shapes.{palette_shapes}
use Rattle.base.proofs.Stored.{stored-length, stored-first}
use Rattle.palette_boxes.proofs.Counts.{shapes-length}
use Rattle.palette_boxes.proofs.fill_shapes.Goals as goal

pub returns-then-out-lt3948 : goal.returns-then-out-lt3948
unfolding choose
returns-then-out-lt3948 c = record { value = rw (lt-ltb _ _ c.if-out-lt3948.true); written = rw (lt-ltb _ _ c.if-out-lt3948.true) }

pub shape_of-out : goal.shape_of-out
shape_of-out c = rw c.put_all.ensures (stored-length _ _ _)

pub returns : goal.returns
unfolding choose
returns c = record { value = rw (le-ltb _ _ c.if-out-lt3948.false); written = rw (le-ltb _ _ c.if-out-lt3948.false) (c.put_all.ensures ∙ stored-first _ palette_shapes 3948 shapes-length c.if-out-lt3948.false) }
