-- `midnight::answer_all` meets its contract. Assumes nothing.
use mathlib.Core.Path.{◌≡◌}
use Prim.Native.Nat.{◌-◌, ◌*◌}
use lib.ListN.{length}
use Rattle.base.specs.Loop.{listed, stored}
use Rattle.night_rows.specs.Rows.{row_at}
use Rattle.answer_rows.specs.Answers.{answer_width}
use Rattle.night_answers.specs.Answers.{lent_with}
use Rattle.midnight.specs.Run.{bodies_of, rows_of}
use Rattle.midnight.proofs.answer_all.Given as goal

abbrev pub invariant-loop-i : goal.invariant-loop-i
invariant-loop-i l =
    (length l.out ≡ length l.initial.out)
    × (stored l.out (l.i * answer_width) (rows_of (lent_with l.tables.records.now l.tables.shapes.now l.windows.rows.now l.windows.count l.windows.cells.now) (listed (row_at l.bodies.older l.bodies.numbers.now l.bodies.words.now) (l.bodies.count - l.i) l.i)) ≡ stored l.initial.out 0 (rows_of (lent_with l.tables.records.now l.tables.shapes.now l.windows.rows.now l.windows.count l.windows.cells.now) (bodies_of l.bodies.older l.bodies.numbers.now l.bodies.words.now l.bodies.count)))
