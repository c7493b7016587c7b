-- `palette_boxes::number_of` meets its contract. Assumes nothing.
use Rattle.std.proofs.Common.{◌≡◌, ◌-◌, ◌≤◌}
use Rattle.base.specs.Loop.{appended}
use Rattle.tables.specs.Tables.{float_at}
use Rattle.palette_boxes.specs.Shapes.{part_numbers, boxes_of_state}
use Rattle.palette_boxes.proofs.number_of.Given as goal

abbrev pub invariant-loop-part : goal.invariant-loop-part
invariant-loop-part l = (l.part ≤ 5) × (float_at (appended (part_numbers l.state) (5 - l.part) l.part) l.left ≡ float_at (boxes_of_state l.state) l.i)
