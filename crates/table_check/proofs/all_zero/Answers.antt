-- `table_check::all_zero` meets its contract: the first that fails decides. Assumes nothing.
use Rattle.std.proofs.Common.{sym, ◌∙◌, arith}
use borrow.Author.Tests.{ne_eqb}
use Rattle.base.proofs.Every.{every-not}
use Rattle.table_check.specs.Check.{all_zero}
use Rattle.table_check.proofs.all_zero.Goals as goal

pub returns-then-word-ne0 : goal.returns-then-word-ne0
unfolding all_zero
returns-then-word-ne0 c = sym (every-not _ _ c.loop-i.i (omega arith) (rw (← c.word.ensures) (ne_eqb _ _ c.if-word-ne0.true)))
