-- `bodies::limits::rules_fit` meets its contract. Assumes nothing.
use Rattle.bodies.specs.Limits.{rules_fit}
use Rattle.bodies.proofs.limits.rules_fit.Goals as goal

pub returns : goal.returns
unfolding rules_fit
returns c =
    rw (← c.is_small.ensures, ← c.is_small-2.ensures, ← c.is_small-3.ensures, ← c.is_small-4.ensures, ← c.is_small-5.ensures, ← c.is_registered.ensures, ← c.is_cap.ensures)
