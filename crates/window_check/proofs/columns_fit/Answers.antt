-- `window_check::columns_fit` meets its contract: the first that fails decides. Assumes nothing.
use Rattle.std.proofs.Common.{sym, ◌∙◌, arith}
use Rattle.base.proofs.Every.{every-not}
use Rattle.window.specs.Window.{columns_fit}
use Rattle.window_check.proofs.columns_fit.Goals as goal

pub returns-then-not-column_fits : goal.returns-then-not-column_fits
unfolding columns_fit
returns-then-not-column_fits c = sym (every-not _ _ c.loop-k.k (omega arith) (sym c.column_fits.ensures ∙ c.if-not-column_fits.true))
