-- `palette_boxes::put_boxes` meets its contract. Assumes nothing.
use Rattle.std.proofs.Common.{◌≡◌, ◌+◌, ◌-◌, ◌*◌, ◌≤◌, length}
use Rattle.base.specs.Loop.{stored, appended}
use Rattle.palette_boxes.specs.Shapes.{part_numbers, boxes_of_state}
use Rattle.palette_boxes.proofs.put_boxes.Given as goal

abbrev pub invariant-loop-part : goal.invariant-loop-part
invariant-loop-part l = (l.part ≤ 5) × (l.next ≤ l.at + l.part * 6) × (length l.out ≡ length l.initial.out) × (l.next + length (appended (part_numbers l.state) (5 - l.part) l.part) ≡ l.at + length (boxes_of_state l.state)) × (stored l.out l.next (appended (part_numbers l.state) (5 - l.part) l.part) ≡ stored l.initial.out l.at (boxes_of_state l.state))
