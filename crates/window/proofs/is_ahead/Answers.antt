-- `window::is_ahead` meets its contract: a size is as large in an i64. Assumes nothing.
use mir.Syntax.{w64}
use mir.ValLaws.{to_z-of_z, to_z_pos}
use native.Mathlib.Omega.{arith}
use Rattle.window.proofs.is_ahead.Goals as goal

pub returns : goal.returns
returns c = let h = c.ranges.size.fits in rw (to_z-of_z w64 c.args.n c.ranges.n, to_z_pos w64 c.args.size (omega arith))
