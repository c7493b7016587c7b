-- `bodies::limits::is_velocity` meets its contract. Assumes nothing.
use Rattle.bodies.specs.Limits.{is_velocity}
use lib.Ieee.{of_bits}
use Rattle.bodies.proofs.limits.is_velocity.Goals as goal

pub returns : goal.returns
unfolding is_velocity of_bits
returns c = rw (← c.are_within.ensures)
