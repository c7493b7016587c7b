-- `lent_calls::falling::falling_lent` meets its contract. Assumes nothing.
use mathlib.Core.Path.{◌≡◌, sym, ap, ◌∙◌}
use Rattle.step_answers.specs.Records.{FallingAnswer}
use Rattle.falls.specs.Answers.{falling_entry}
use Rattle.lent_steps.specs.Falling.{falling_written}
use lib.ListN.{length}
use Rattle.lent_calls.specs.Falling.{falling_at}
use Rattle.lent_calls.proofs.Falls.{falling-whole, short-falling}
use Rattle.lent_calls.proofs.falling.falling_lent.Goals as goal

pub returns : goal.returns
returns c =
    let a = c.args in
    let whole = sym c.whole_falling.ensures ∙ c.if-not-whole_falling.false in
    let all = falling-whole a.tables.records.now a.numbers.now a.words.now a.fall a.tables.shapes.now a.view.words.now a.view.window a.age (length a.out.now) whole in
    let e : falling_entry a.tables.records.now a.tables.shapes.now a.view.words.now a.view.window c.rules_from-rules.result c.body_from-body.result c.motion_from-given.result a.age a.fall ≡ falling_at a.tables.records.now a.tables.shapes.now a.view.words.now a.view.window a.numbers.now a.words.now a.age a.fall (length a.out.now) =
    rw (c.rules_from-rules.ensures, c.body_from-body.ensures, c.motion_from-given.ensures) all
    in
    let told = c.step_falling-answer.ensures ∙ e in
    record { value = c.falling_into.ensures.value ∙ ap (λ (x : FallingAnswer). x.step.refusal) told; out_after = c.falling_into.ensures.out_after ∙ ap (falling_written a.out.now) told }

pub returns-then-not-whole_falling : goal.returns-then-not-whole_falling
unfolding falling_at
returns-then-not-whole_falling c =
    let a = c.args in
    let short = sym c.whole_falling.ensures ∙ c.if-not-whole_falling.true in
    let both = short-falling a.tables.records.now a.numbers.now a.words.now a.fall _ _ a.out.now _ short (rw (c.check_falling.ensures, c.check_lent.ensures) at c.short_of.ensures) in
    record { value = both.0; out_after = both.1 }
