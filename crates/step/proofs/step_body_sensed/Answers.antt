-- `step::step_body_sensed` meets its contract. Assumes nothing.
use mathlib.Core.Path.{sym, ◌∙◌}
use Rattle.step.proofs.Laws.{checked-alike}
use Rattle.step.proofs.step_body_sensed.Goals as goal

pub returns : goal.returns
returns c = c.step_checked.ensures ∙ checked-alike _ _ _ _ _ _ _ _ (sym c.in_ok-check_lent.ensures)
