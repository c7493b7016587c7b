-- `group_words::group_word` meets its contract: the first that fails decides. Assumes nothing.
use Rattle.std.proofs.Common.{sym, ◌∙◌}
use Rattle.base.proofs.Every.{every-not}
use Rattle.base.specs.Choose.{choose}
use Rattle.group_words.specs.Groups.{word_of_group, is_empty_group}
use Rattle.group_words.proofs.group_word.Goals as goal

pub returns-then-not-is_empty_layer : goal.returns-then-not-is_empty_layer
unfolding word_of_group is_empty_group choose
returns-then-not-is_empty_layer c =
    let turn = rw c.cut_of-k-end.ensures at c.loop-k-test.true in
    rw (← c.is_group.ensures, c.if-not-is_group.false, every-not _ _ c.loop-k.k turn (sym c.is_empty_layer.ensures ∙ c.if-not-is_empty_layer.true))
