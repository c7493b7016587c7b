-- `midnight::run_checked` meets its contract. Assumes nothing.
use mathlib.Core.Path.{refl}
use Rattle.base.proofs.Answers.{some_number}
use Rattle.night_answers.specs.Answers.{NightLent, lent_with}
use Rattle.midnight.proofs.Orders.{refused-run, few-windows, accepted-run}
use Rattle.midnight.proofs.run_checked.Goals as goal

pub returns-in_err-check_counts-clause-out_after : goal.returns-in_err-check_counts-clause-out_after
returns-in_err-check_counts-clause-out_after c =
    let a = c.args in
    let lent : NightLent = lent_with a.tables.records.now a.tables.shapes.now a.windows.rows.now a.windows.count a.windows.cells.now in
    refused-run a.bodies.older lent a.bodies.numbers.now a.bodies.words.now a.bodies.count a.out.now _ c.in_err-check_counts.ensures (some_number _)

pub answer_all-requires : goal.answer_all-requires
answer_all-requires c =
    let a = c.args in
    let lent : NightLent = lent_with a.tables.records.now a.tables.shapes.now a.windows.rows.now a.windows.count a.windows.cells.now in
    few-windows a.bodies.older lent a.bodies.numbers.now a.bodies.words.now a.bodies.count a.out.now _ c.in_ok-check_counts.ensures refl

pub returns-clause-out_after : goal.returns-clause-out_after
returns-clause-out_after c =
    let a = c.args in
    let lent : NightLent = lent_with a.tables.records.now a.tables.shapes.now a.windows.rows.now a.windows.count a.windows.cells.now in
    accepted-run a.bodies.older lent a.bodies.numbers.now a.bodies.words.now a.bodies.count a.out.now _ c.in_ok-check_counts.ensures refl _ c.answer_all.ensures
