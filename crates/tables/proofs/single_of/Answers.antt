-- `tables::single_of` meets its contract. Assumes nothing.
use Rattle.std.proofs.Common.{rules}
use Rattle.tables.proofs.Bits.{no-nan-bits, nan-bits}
use Rattle.tables.proofs.single_of.Goals as goal

pub float_from_bits-result : goal.float_from_bits-result
float_from_bits-result c = no-nan-bits c.args.bits c.if-bits-le2139095040.true

pub returns : goal.returns
returns c = nan-bits c.args.bits c.if-bits-le2139095040.false
