-- `roots::root::guess` is safe: neither pattern is a NaN's. Assumes nothing.
use native.Mathlib.Omega.{arith}
use Rattle.floats.proofs.Value.{no_nan}
use Rattle.roots.proofs.root.guess.Goals as goal

pub float_from_bits-n : goal.float_from_bits-n
float_from_bits-n c = no_nan c.args.b (omega arith)

pub float_from_bits-y : goal.float_from_bits-y
float_from_bits-y c = no_nan _ (omega arith)
