-- `floats::float_of_bits` meets its contract: 0.0 / 0.0 is the NaN. Assumes nothing.
use lib.Ieee.{div, of_bits}
use Rattle.floats.proofs.Bits.{nan-bits, number-bits}
use Rattle.floats.proofs.float_of_bits.Goals as goal

pub returns-then-b-gt9218868437227405312 : goal.returns-then-b-gt9218868437227405312
unfolding div of_bits
returns-then-b-gt9218868437227405312 c = nan-bits c.args.b c.if-b-gt9218868437227405312.true

pub float_from_bits-result : goal.float_from_bits-result
float_from_bits-result c = number-bits c.args.b c.if-b-gt9218868437227405312.false
