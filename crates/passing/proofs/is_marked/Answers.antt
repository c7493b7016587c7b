-- `passing::is_marked` meets its contract: the first that fails decides. Assumes nothing.
use mathlib.Core.Path.{sym, ◌∙◌}
use Rattle.base.proofs.Every.{every-not}
use Rattle.passing.specs.Passing.{row_marked}
use Rattle.passing.proofs.is_marked.Goals as goal

pub returns-then-not-is_clear : goal.returns-then-not-is_clear
unfolding row_marked
returns-then-not-is_clear c = sym (every-not _ _ c.loop-i.i c.loop-i-test.true (sym c.is_clear.ensures ∙ c.if-not-is_clear.true))
