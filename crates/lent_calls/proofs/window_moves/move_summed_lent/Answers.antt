-- `lent_calls::window_moves::move_summed_lent` meets its contract. Assumes nothing.
use mathlib.Core.Path.{sym, ◌∙◌}
use lib.ListN.{length}
use Rattle.lent_numbers.proofs.Answers.{asked-written}
use Rattle.lent_calls.specs.Moves.{move_summed_at}
use Rattle.lent_calls.proofs.Movers.{told, summed-whole, short-move}
use Rattle.lent_calls.proofs.window_moves.move_summed_lent.Goals as goal

pub returns : goal.returns
returns c =
    let a = c.args in
    let whole = sym c.whole_move.ensures ∙ c.if-not-whole_move.false in
    let all = summed-whole a.cap a.mover.now a.step a.grounded a.tables.records.now a.tables.shapes.now a.view.words.now a.view.window (length a.out.now) whole in
    let value = c.move_into.ensures.value ∙ sym (told c.request_of-q.result.aabb c.move_summed.result) in
    let after = c.move_into.ensures.out_after ∙ asked-written a.out.now c.request_of-q.result.aabb c.move_summed.result in
    record { value = rw (c.move_summed.ensures, c.request_of-q.ensures, all) at value; out_after = rw (c.move_summed.ensures, c.request_of-q.ensures, all) at after }

pub returns-then-not-whole_move : goal.returns-then-not-whole_move
unfolding move_summed_at
returns-then-not-whole_move c =
    let a = c.args in
    let short = sym c.whole_move.ensures ∙ c.if-not-whole_move.true in
    let both = short-move a.cap a.mover.now a.step a.grounded _ _ a.out.now _ short (rw (c.check_mover.ensures, c.check_direct.ensures, c.plain.ensures.words, c.plain.ensures.window) at c.short_of.ensures) in
    record { value = both.0; out_after = both.1 }
