-- `part_writer::bits_of_single` meets its contract. Assumes nothing.
use Rattle.floats.proofs.Bits.{not-nan}
use Rattle.part_writer.proofs.Singles.{bits_of_nan}
use Rattle.part_writer.proofs.bits_of_single.Goals as goal

pub returns-then-x : goal.returns-then-x
returns-then-x c = bits_of_nan c.args.x c.if-x.true

pub float_to_bits-result : goal.float_to_bits-result
float_to_bits-result c = not-nan c.args.x c.if-x.false
