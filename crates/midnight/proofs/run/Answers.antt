-- `midnight::run` meets its contract. Assumes nothing.
use Rattle.std.proofs.Common.{rules}
use mathlib.Core.Path.{◌≡◌, sym, ◌∙◌}
use lib.ListN.{length}
use Rattle.base.specs.Refusals.{number_of}
use Rattle.base.proofs.Answers.{some_number}
use Rattle.table_check.specs.Check.{table_refusal}
use Rattle.night_answers.specs.Answers.{NightLent, lent_with}
use Rattle.midnight.specs.Run.{run_refusal}
use Rattle.midnight.proofs.Orders.{tables_alone, counts_alone, checked-run, tables-refused, tables-unwritten}
use Rattle.midnight.proofs.run.Goals as goal

pub returns-in_err-check_tables-clause-value : goal.returns-in_err-check_tables-clause-value
returns-in_err-check_tables-clause-value c =
    let a = c.args in
    let lent : NightLent = lent_with a.tables.records.now a.tables.shapes.now a.windows.rows.now a.windows.count a.windows.cells.now in
    let bad : table_refusal lent.records lent.shapes ≡ 0 → ⊥ = λ z. some_number _ (c.in_err-check_tables.ensures ∙ z) in
    let told : number_of c.in_err-check_tables.field-0.0 ≡ run_refusal lent a.bodies.count (length a.out.now) =
    c.in_err-check_tables.ensures ∙ tables_alone lent.records lent.shapes bad ∙ tables-refused a.bodies.older lent a.bodies.numbers.now a.bodies.words.now a.bodies.count a.out.now bad in
    search rules

pub returns-in_err-check_tables-clause-out_after : goal.returns-in_err-check_tables-clause-out_after
returns-in_err-check_tables-clause-out_after c =
    let a = c.args in
    let lent : NightLent = lent_with a.tables.records.now a.tables.shapes.now a.windows.rows.now a.windows.count a.windows.cells.now in
    tables-unwritten a.bodies.older lent a.bodies.numbers.now a.bodies.words.now a.bodies.count a.out.now (λ z. some_number _ (c.in_err-check_tables.ensures ∙ z))

pub returns : goal.returns
returns c =
    let a = c.args in
    let lent : NightLent = lent_with a.tables.records.now a.tables.shapes.now a.windows.rows.now a.windows.count a.windows.cells.now in
    let sound : table_refusal lent.records lent.shapes ≡ 0 = sym c.in_ok-check_tables.ensures in
    let done = c.run_checked.ensures in
    record {
      value = done.value ∙ counts_alone a.bodies.older lent a.bodies.numbers.now a.bodies.words.now a.bodies.count a.out.now sound;
      out_after = done.out_after ∙ checked-run a.bodies.older lent a.bodies.numbers.now a.bodies.words.now a.bodies.count a.out.now sound;
    }
