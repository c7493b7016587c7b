-- `window_check::size_fits` meets its contract. Assumes nothing.
use mathlib.Core.Path.{refl}
use Rattle.window_check.proofs.size_fits.Goals as goal

pub returns : goal.returns
returns c = refl
