-- `falls::step_falling` meets its contract. Assumes nothing.
use mathlib.Core.Path.{sym, ◌∙◌}
use Rattle.falls.proofs.Laws.{checked-alike}
use Rattle.falls.proofs.step_falling.Goals as goal

pub returns : goal.returns
returns c = c.step_falling_checked.ensures ∙ checked-alike _ _ _ _ _ _ _ _ _ (sym c.in_ok-check_lent.ensures)
