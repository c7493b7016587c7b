-- `fall_rule::is_fallen` meets its contract. Assumes nothing.
use Rattle.fall_rule.specs.Rule.{is_fallen}
use lib.Ieee.{of_bits}
use Rattle.fall_rule.proofs.is_fallen.Goals as goal

pub returns-then-is_within : goal.returns-then-is_within
unfolding is_fallen of_bits
returns-then-is_within c = rw (← c.is_within.ensures, c.if-is_within.true)

pub returns-else-is_within : goal.returns-else-is_within
unfolding is_fallen of_bits
returns-else-is_within c = rw (← c.is_within.ensures, c.if-is_within.false)
