-- `answer_rows::put_row` meets its contract. Assumes nothing.
use mathlib.Core.Path.{sym}
use Prim.Native.Nat.{◌*◌}
use Rattle.answer_rows.specs.Answers.{answer_width, answer_numbers}
use Rattle.base.proofs.Stored.{put-behind, stored-beyond}
use Rattle.answer_rows.proofs.put_row.Goals as goal

pub returns-then-at-out : goal.returns-then-at-out
returns-then-at-out g c =
    let a = c.args in
    put-behind a.out.now c.put_answer.new.row (a.i * answer_width) (answer_numbers (g.A.FallingTold.answer a.answer a.given a.fall)) c.put_answer.ensures

pub returns-else-at-out : goal.returns-else-at-out
returns-else-at-out g c =
    let a = c.args in
    sym (stored-beyond a.out.now (a.i * answer_width) (answer_numbers (g.A.FallingTold.answer a.answer a.given a.fall)) c.if-at-out.false)
