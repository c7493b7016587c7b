-- `bodies::limits::cases_fit` meets its contract. Assumes nothing.
use mathlib.Core.Path.{refl}
use Rattle.bodies.specs.Limits.{cases_fit}
use Rattle.bodies.proofs.limits.cases_fit.Goals as goal

pub returns : goal.returns
unfolding cases_fit
returns c = refl
