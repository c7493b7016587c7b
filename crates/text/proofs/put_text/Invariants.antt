-- `text::put_text` meets its contract. Assumes nothing.
use Rattle.text.specs.Cursor.{Put}
use lib.ListN.{take}
use Rattle.text.proofs.put_text.Given as goal

abbrev pub invariant-loop-i : goal.invariant-loop-i
invariant-loop-i l = Put l.initial.out l.at (take l.i l.text) l.out l.cursor
