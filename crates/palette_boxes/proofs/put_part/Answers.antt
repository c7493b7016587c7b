-- `palette_boxes::put_part` meets its contract. Assumes nothing.
use Rattle.std.proofs.Common.{◌≡◌, true, false, sym, ◌∙◌, add-zero}
use Rattle.base.specs.Loop.{stored}
use Rattle.palette_boxes.specs.Shapes.{has_part}
use Rattle.base.proofs.Stored.{stored-length}
use Rattle.palette_boxes.proofs.Boxes.{part-is, part-six, part_none}
use Rattle.palette_boxes.proofs.put_part.Goals as goal

pub shape_of-out-then-has_part : goal.shape_of-out-then-has_part
shape_of-out-then-has_part c = rw c.put_box.ensures (stored-length _ _ _)

pub returns-then-has_part : goal.returns-then-has_part
returns-then-has_part c = let h : has_part c.args.state c.args.part ≡ true = sym c.has_part.ensures ∙ c.if-has_part.true in record { value = rw (part-six c.args.state c.args.part h); written = rw (c.put_box.ensures, c.kind_of.ensures, part-is c.args.state c.args.part h) }

pub returns : goal.returns
unfolding stored
returns c = let h : has_part c.args.state c.args.part ≡ false = sym c.has_part.ensures ∙ c.if-has_part.false in record { value = rw (part_none c.args.state c.args.part h) (sym (add-zero c.args.at)); written = rw (part_none c.args.state c.args.part h) }
