-- `currents::is_beyond` meets its contract. Assumes nothing.
use Rattle.std.proofs.Common.{rules}
use lib.Ieee.{of_bits}
use Rattle.currents.specs.Current.{beyond_reach}
use Rattle.currents.proofs.is_beyond.Goals as goal

pub returns : goal.returns
unfolding beyond_reach of_bits
returns c = search rules
