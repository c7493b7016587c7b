-- `passing::is_all_marked` meets its contract: the first that fails decides. Assumes nothing.
use mathlib.Core.Path.{sym, ◌∙◌}
use Rattle.base.proofs.Every.{every-not}
use Rattle.passing.specs.Passing.{all_marked}
use Rattle.passing.proofs.is_all_marked.Goals as goal

pub returns-then-not-is_marked : goal.returns-then-not-is_marked
unfolding all_marked
returns-then-not-is_marked c =
    sym (every-not _ _ c.loop-j.j c.loop-j-test.true (sym (rw c.row_at.ensures.value at c.is_marked.ensures) ∙ c.if-not-is_marked.true))
