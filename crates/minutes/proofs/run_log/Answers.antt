-- `minutes::run_log` meets its contract. Assumes nothing.
use Rattle.std.proofs.Common.{rules}
use mathlib.Core.Path.{◌≡◌, sym, ◌∙◌}
use lib.ListN.{length}
use Rattle.base.specs.Refusals.{number_of, verdict}
use Rattle.minute_state.specs.Turns.{minute_seen}
use Rattle.minutes.specs.Calls.{minute_at}
use Rattle.minutes.proofs.Calls.{unread, no-log, short, ran}
use Rattle.minutes.proofs.run_log.Goals as goal

pub returns-in_err-l-clause-value : goal.returns-in_err-l-clause-value
returns-in_err-l-clause-value c =
    let a = c.args in
    let none = unread _ _ _ c.in_err-l.ensures in
    let both = no-log a.tables.records.now a.tables.shapes.now a.cells.now a.window a.numbers.now a.words.now a.age a.log.now (length a.out.now) a.feet.now a.out.now none.1 in
    let told : number_of c.in_err-l.field-0.0 ≡ (minute_at a.tables.records.now a.tables.shapes.now a.cells.now a.window a.numbers.now a.words.now a.age a.log.now (length a.out.now)).refusal = none.0 ∙ both.0 in
    search rules

pub returns-in_err-l-clause-cells_after : goal.returns-in_err-l-clause-cells_after
returns-in_err-l-clause-cells_after c =
    let a = c.args in
    let both = no-log a.tables.records.now a.tables.shapes.now a.cells.now a.window a.numbers.now a.words.now a.age a.log.now (length a.out.now) a.feet.now a.out.now (unread _ _ _ c.in_err-l.ensures).1 in
    both.1.0

pub returns-in_err-l-clause-feet_after : goal.returns-in_err-l-clause-feet_after
returns-in_err-l-clause-feet_after c =
    let a = c.args in
    let both = no-log a.tables.records.now a.tables.shapes.now a.cells.now a.window a.numbers.now a.words.now a.age a.log.now (length a.out.now) a.feet.now a.out.now (unread _ _ _ c.in_err-l.ensures).1 in
    both.1.1.0

pub returns-in_err-l-clause-out_after : goal.returns-in_err-l-clause-out_after
returns-in_err-l-clause-out_after c =
    let a = c.args in
    let both = no-log a.tables.records.now a.tables.shapes.now a.cells.now a.window a.numbers.now a.words.now a.age a.log.now (length a.out.now) a.feet.now a.out.now (unread _ _ _ c.in_err-l.ensures).1 in
    both.1.1.1

pub returns-then-not-whole_minute : goal.returns-then-not-whole_minute
returns-then-not-whole_minute c =
    let a = c.args in
    let both = short a.tables.records.now a.tables.shapes.now a.cells.now a.window a.numbers.now a.words.now a.age a.log.now (length a.out.now) a.feet.now a.out.now c.in_ok-l.l (verdict c.short_at.result) c.in_ok-l.ensures (sym c.whole_minute.ensures ∙ c.if-not-whole_minute.true) c.short_at.ensures in
    record { value = both.0; cells_after = both.1.0; feet_after = both.1.1.0; out_after = both.1.1.1 }

pub returns : goal.returns
returns c =
    let a = c.args in
    let both = ran a.tables.records.now a.tables.shapes.now a.cells.now a.window a.numbers.now a.words.now a.age a.log.now (length a.out.now) a.feet.now a.out.now c.in_ok-l.l (minute_seen c.run_body-m.result) (verdict c.minute_into.result) _ _ _ c.in_ok-l.ensures (sym c.whole_minute.ensures ∙ c.if-not-whole_minute.false)
    (c.run_body-m.ensures.value, (c.run_body-m.ensures.cells_after, c.run_body-m.ensures.feet_after)) (c.minute_into.ensures.value, c.minute_into.ensures.out_after) in
    record { value = both.0; cells_after = both.1.0; feet_after = both.1.1.0; out_after = both.1.1.1 }
