-- `floats::bits_of_float` meets its contract. Assumes nothing.
use Rattle.floats.proofs.Bits.{bits_of_nan, not-nan}
use Rattle.floats.proofs.bits_of_float.Goals as goal

pub returns-then-x : goal.returns-then-x
returns-then-x c = bits_of_nan c.args.x c.if-x.true

pub float_to_bits-result : goal.float_to_bits-result
float_to_bits-result c = not-nan c.args.x c.if-x.false
