-- `group_words::is_empty_line` meets its contract: the first that fails decides. Assumes nothing.
use Rattle.std.proofs.Common.{sym, ◌∙◌}
use Rattle.base.proofs.Every.{every-not}
use Rattle.group_words.specs.Groups.{is_empty_line}
use Rattle.group_words.proofs.is_empty_line.Goals as goal

pub returns-then-not-is_empty : goal.returns-then-not-is_empty
unfolding is_empty_line
returns-then-not-is_empty c =
    sym (every-not _ _ c.loop-k.k c.loop-k-test.true (sym c.is_empty.ensures ∙ c.if-not-is_empty.true))
