-- `bodies::limits::numbers_fit` meets its contract. Assumes nothing.
use Rattle.bodies.specs.Limits.{numbers_are_fit}
use Rattle.bodies.proofs.limits.numbers_fit.Goals as goal

pub returns : goal.returns
unfolding numbers_are_fit
returns c = rw (← c.measures_fit.ensures, ← c.cases_fit.ensures, ← c.rules_fit.ensures)
