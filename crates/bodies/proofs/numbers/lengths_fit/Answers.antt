-- `bodies::numbers::lengths_fit` meets its contract. Assumes nothing.
use mathlib.Core.Path.{refl}
use Rattle.bodies.specs.Numbers.{lengths_fit}
use Rattle.bodies.proofs.numbers.lengths_fit.Goals as goal

pub returns : goal.returns
unfolding lengths_fit
returns c = refl
