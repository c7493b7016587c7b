-- `palette_boxes::first_box_of` meets its contract. Assumes nothing.
use Rattle.std.proofs.Common.{◌≡◌, ◌*◌, ◌≤◌}
use Rattle.palette_boxes.specs.Shapes.{first_box}
use Rattle.palette_boxes.proofs.first_box_of.Given as goal

abbrev pub invariant-loop-i : goal.invariant-loop-i
invariant-loop-i l = (l.i ≤ l.state) × (l.n ≤ l.i * 5) × (l.n ≡ first_box l.i)
