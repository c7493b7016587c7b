-- `lent_numbers::flag_of` meets its contract. Assumes nothing.
use Rattle.std.proofs.Common.{rules}
use lib.Ieee.{of_bits}
use Rattle.base.specs.Choose.{choose}
use Rattle.base.proofs.Cases.{cases}
use Rattle.lent_numbers.proofs.flag_of.Goals as goal

pub returns-then-holds : goal.returns-then-holds
unfolding of_bits choose
returns-then-holds c = search (rules, cases)

pub returns-else-holds : goal.returns-else-holds
unfolding of_bits choose
returns-else-holds c = search (rules, cases)
