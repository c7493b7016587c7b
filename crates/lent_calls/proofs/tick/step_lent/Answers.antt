-- `lent_calls::tick::step_lent` meets its contract. Assumes nothing.
use mathlib.Core.Path.{sym, ◌∙◌}
use lib.ListN.{length}
use Rattle.lent_calls.specs.Ticks.{step_at}
use Rattle.lent_calls.proofs.Bodies.{step-whole, short-body}
use Rattle.lent_calls.proofs.tick.step_lent.Goals as goal

pub returns : goal.returns
returns c =
    let a = c.args in
    let whole = sym c.whole_body.ensures ∙ c.if-not-whole_body.false in
    let all = step-whole a.tables.records.now a.tables.shapes.now a.view.words.now a.view.window a.numbers.now a.words.now a.age (length a.out.now) whole in
    record { value = rw (c.step_body_sensed.ensures, c.rules_from-rules.ensures, c.body_from-body.ensures, c.motion_from-given.ensures, all) at (c.answer_into.ensures.value c.motion_from-given.result); out_after = rw (c.step_body_sensed.ensures, c.rules_from-rules.ensures, c.body_from-body.ensures, c.motion_from-given.ensures, all) at (c.answer_into.ensures.out_after c.motion_from-given.result) }

pub returns-then-not-whole_body : goal.returns-then-not-whole_body
unfolding step_at
returns-then-not-whole_body c =
    let a = c.args in
    let short = sym c.whole_body.ensures ∙ c.if-not-whole_body.true in
    let both = short-body a.tables.records.now a.tables.shapes.now a.view.words.now a.view.window a.numbers.now a.words.now a.age _ _ a.out.now _ short (rw (c.check_body.ensures, c.check_lent.ensures) at c.short_of.ensures) in
    record { value = both.0; out_after = both.1 }
