-- `groups::agrees_all` meets its contract: the first that fails decides. Assumes nothing.
use mathlib.Core.Path.{sym, ◌∙◌}
use borrow.Author.Tests.{ne_eqb}
use Rattle.base.proofs.Every.{every-not}
use Rattle.window.proofs.Check.{sizes-small}
use Rattle.groups.specs.Summary.{agrees}
use Rattle.groups.proofs.Counts.{word_fits}
use Rattle.groups.proofs.agrees_all.Goals as goal

pub overflow_add-at : goal.overflow_add-at
overflow_add-at c = word_fits _ (sizes-small c.args.view.window.sizes c.requires) _ _ _ c.words_before-at.ensures c.group_count-i-end.ensures c.loop-i-test.true

pub returns-then-word_at-word_of : goal.returns-then-word_at-word_of
unfolding agrees
returns-then-word_at-word_of c =
    let turn = rw c.group_count-i-end.ensures at c.loop-i-test.true in
    let lent = rw c.words_before-at.ensures at c.word_at.ensures in
    sym (every-not _ _ c.loop-i.i turn (ne_eqb _ _ (λ e. c.if-word_at-word_of.true (lent ∙ e ∙ sym c.word_of.ensures))))
