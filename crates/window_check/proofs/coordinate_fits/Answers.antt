-- `window_check::coordinate_fits` meets its contract. Assumes nothing.
use mir.Syntax.{w32}
use mir.ValLaws.{to_z-of_z}
use Rattle.window.proofs.Check.{fits_by}
use Rattle.window_check.proofs.coordinate_fits.Goals as goal

pub returns : goal.returns
returns c = rw (to_z-of_z w32 c.args.c c.ranges.c) (fits_by c.args.c)
