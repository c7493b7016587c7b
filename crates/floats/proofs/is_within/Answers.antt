-- `floats::is_within` meets its contract: 1.0 / 0.0 is the infinity. Assumes nothing.
use lib.Ieee.{of_bits, div}
use Rattle.floats.proofs.Within.{within_by}
use Rattle.floats.proofs.is_within.Goals as goal

pub returns : goal.returns
unfolding of_bits div
returns c = rw c.is_finite.ensures (within_by c.args.x c.args.limit)
