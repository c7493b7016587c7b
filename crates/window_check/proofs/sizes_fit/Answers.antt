-- `window_check::sizes_fit` meets its contract. Assumes nothing.
use Rattle.window.specs.Window.{sizes_fit}
use Rattle.window_check.proofs.sizes_fit.Goals as goal

pub returns : goal.returns
unfolding sizes_fit
returns c = rw (← c.size_fits.ensures, ← c.size_fits-2.ensures, ← c.size_fits-3.ensures)
