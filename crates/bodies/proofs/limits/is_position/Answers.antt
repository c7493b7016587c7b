-- `bodies::limits::is_position` meets its contract. Assumes nothing.
use Rattle.bodies.specs.Limits.{is_position}
use lib.Ieee.{of_bits}
use Rattle.bodies.proofs.limits.is_position.Goals as goal

pub returns : goal.returns
unfolding is_position of_bits
returns c = rw (← c.are_within.ensures)
