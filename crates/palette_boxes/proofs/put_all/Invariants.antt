-- `palette_boxes::put_all` meets its contract. Assumes nothing.
use Rattle.std.proofs.Common.{◌≡◌, ◌-◌, ◌*◌, ◌≤◌, length}
use Rattle.base.specs.Loop.{stored, appended}
use Rattle.palette_boxes.specs.Shapes.{boxes_of_state, palette_shapes}
use Rattle.palette_boxes.proofs.put_all.Given as goal

abbrev pub invariant-loop-state : goal.invariant-loop-state
invariant-loop-state l = (l.state ≤ 212) × (l.at ≤ l.state * 30) × (length l.out ≡ length l.initial.out) × (stored l.out l.at (appended boxes_of_state (212 - l.state) l.state) ≡ stored l.initial.out 0 palette_shapes)
