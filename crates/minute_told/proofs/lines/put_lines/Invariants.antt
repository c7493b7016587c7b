-- `minute_told::lines::put_lines` meets its contract. Assumes nothing.
use Rattle.base.specs.Loop.{listed}
use Rattle.text.specs.Cursor.{Put}
use Rattle.minute_told.specs.Printed.{feet_lines, feet_at}
use Rattle.minute_told.proofs.lines.put_lines.Given as goal

abbrev pub invariant-loop-i : goal.invariant-loop-i
invariant-loop-i l = Put l.initial.out 0 (feet_lines (listed (feet_at l.feet) l.i 0)) l.out l.cursor
