-- `bodies::limits::measures_fit` meets its contract. Assumes nothing.
use Rattle.bodies.specs.Limits.{measures_fit}
use Rattle.bodies.proofs.limits.measures_fit.Goals as goal

pub returns : goal.returns
unfolding measures_fit
returns c =
    rw (← c.is_extent.ensures, ← c.is_extent-2.ensures, ← c.is_small.ensures, ← c.is_small-2.ensures, ← c.is_small-3.ensures, ← c.is_small-4.ensures, ← c.is_small-5.ensures, ← c.is_step.ensures)
