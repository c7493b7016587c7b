-- `bodies::limits::is_small` meets its contract. Assumes nothing.
use Rattle.bodies.specs.Limits.{is_small}
use lib.Ieee.{of_bits}
use Rattle.bodies.proofs.limits.is_small.Goals as goal

pub returns : goal.returns
unfolding is_small of_bits
returns c = rw (← c.is_within.ensures)
