-- `bodies::limits::is_extent` meets its contract. Assumes nothing.
use Rattle.bodies.specs.Limits.{is_extent}
use lib.Ieee.{of_bits}
use Rattle.bodies.proofs.limits.is_extent.Goals as goal

pub returns : goal.returns
unfolding is_extent of_bits
returns c = rw (← c.is_within.ensures)
