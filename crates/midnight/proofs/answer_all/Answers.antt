-- `midnight::answer_all` meets its contract. Assumes nothing.
use mathlib.Core.Path.{◌≡◌, refl, ap, ◌∙◌}
use mathlib.Core.List.{List}
use Prim.Native.Nat.{ℕ}
use lib.ListN.{length, get_or}
use Rattle.base.specs.Refusals.{asked}
use Rattle.base.proofs.Stored.{stored-length}
use Rattle.step_answers.specs.Records.{FallingAnswer}
use Rattle.step_answers.specs.Answers.{falling_answer}
use Rattle.night_rows.specs.Rows.{Row, row_at, named_in}
use Rattle.night_windows.specs.Windows.{verdicts}
use Rattle.night_answers.specs.Answers.{NightLent, lent_with, row_answer_by}
use Rattle.midnight.proofs.Turns.{rows-begin, rows-turn, rows_end}
use Rattle.midnight.proofs.answer_all.Goals as goal

pub loop-i-init : goal.loop-i-init
loop-i-init c = (refl, rows-begin _ _ _ _)

pub loop-i-preserved : goal.loop-i-preserved
loop-i-preserved c =
    let at-loop = c.loop-i in
    let a = c.args in
    let lent : NightLent = lent_with a.tables.records.now a.tables.shapes.now a.windows.rows.now a.windows.count a.windows.cells.now in
    let rows : ℕ → Row = row_at a.bodies.older a.bodies.numbers.now a.bodies.words.now in
    let checked : List ℕ = verdicts c.check_all-checked.result in
    let handed : FallingAnswer = falling_answer c.given.result c.fall.result (asked c.row_answer-answer.result) in
    let said : handed ≡ row_answer_by (get_or checked (named_in (rows at-loop.i)) 2) lent (rows at-loop.i) =
    (λ j. falling_answer (c.given.ensures j) (c.fall.ensures j) (asked c.row_answer-answer.result))
    ∙ c.row_answer-answer.ensures
    ∙ ap (λ (r : Row). row_answer_by (get_or checked (named_in r) 2) lent r) c.row-row.ensures in (
      ap (λ (l : List _). length l) c.put_row.ensures ∙ stored-length at-loop.out _ _ ∙ at-loop.invariant.0,
      rows-turn lent rows a.bodies.count at-loop.i at-loop.out _ checked c.requires c.check_all-checked.ensures _ handed said c.put_row.ensures c.loop-i-test.true at-loop.invariant.1,
    )

pub returns : goal.returns
returns c = rows_end _ _ _ c.loop-i.i c.loop-i.out _ c.loop-i-test.false c.loop-i.invariant.1
