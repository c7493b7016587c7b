-- `table_check::within_four` meets its contract. Assumes nothing.
use lib.Ieee.{of_bits, neg}
use Rattle.table_check.proofs.Limits.{between}
use Rattle.table_check.proofs.within_four.Goals as goal

pub returns-then-x : goal.returns-then-x
unfolding of_bits neg
returns-then-x c = rw (between c.args.x, c.if-x.true)

pub returns : goal.returns
unfolding of_bits neg
returns c = rw (between c.args.x, c.if-x.false)
