-- `fall_rule::deepen` meets its contract. Assumes nothing.
use lib.Ieee.{of_bits}
use Rattle.fall_rule.proofs.deepen.Goals as goal

pub returns : goal.returns
unfolding of_bits
returns c = rw (← c.lesser.ensures)
