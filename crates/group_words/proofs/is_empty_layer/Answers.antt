-- `group_words::is_empty_layer` meets its contract: the first that fails decides. Assumes nothing.
use Rattle.std.proofs.Common.{sym, ◌∙◌}
use Rattle.base.proofs.Every.{every-not}
use Rattle.group_words.specs.Groups.{is_empty_layer}
use Rattle.group_words.proofs.is_empty_layer.Goals as goal

pub returns-then-not-is_empty_line : goal.returns-then-not-is_empty_line
unfolding is_empty_layer
returns-then-not-is_empty_line c =
    let turn = rw c.cut_of-k-end.ensures at c.loop-k-test.true in
    let line = rw c.cut_of-across.ensures at c.is_empty_line.ensures in
    sym (every-not _ _ c.loop-k.k turn (sym line ∙ c.if-not-is_empty_line.true))
