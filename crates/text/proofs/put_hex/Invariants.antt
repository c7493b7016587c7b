-- `text::put_hex` meets its contract. Assumes nothing.
use Rattle.text.specs.Cursor.{Put}
use Rattle.text.specs.Text.{hex_at}
use Rattle.base.specs.Loop.{listed}
use Rattle.text.proofs.put_hex.Given as goal

abbrev pub invariant-loop-k : goal.invariant-loop-k
invariant-loop-k l = Put l.initial.out l.at (listed (hex_at l.bits) l.k 0) l.out l.cursor
