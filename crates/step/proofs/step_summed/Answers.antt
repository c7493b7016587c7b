-- `step::step_summed` meets its contract. Assumes nothing.
use mathlib.Core.Path.{sym, ◌∙◌}
use Rattle.base.specs.Choose.{choose}
use Rattle.step.specs.Answers.{step_summed}
use Rattle.step.proofs.Summed.{checked-summed}
use Rattle.step.proofs.step_summed.Goals as goal

pub returns : goal.returns
unfolding step_summed choose
returns c =
    let lent = rw (c.plain.ensures.words, c.plain.ensures.window) at c.in_ok-check_lent.ensures in
    let summary = rw (c.with_air.ensures.words, c.with_air.ensures.window) at c.in_ok-check_summary.ensures in
    c.step_checked.ensures ∙ (checked-summed _ _ _ _ _ _ _ _ (sym summary) ∙ rw (← lent, ← c.in_ok-check_numbers.ensures, ← summary))
