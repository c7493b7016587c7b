-- `window_check::check_window` meets its contract. Assumes nothing.
use mathlib.Core.Path.{sym, ◌∙◌}
use native.Mathlib.Omega.{arith}
use Rattle.window.proofs.Check.{sizes-small, layer-count, cell-count, column-count}
use Rattle.window_check.proofs.check_window.Goals as goal

pub overflow_mul-count : goal.overflow_mul-count
overflow_mul-count c = omega (arith, layer-count _ (sizes-small c.args.view.window.sizes (sym c.sizes_fit.ensures ∙ c.if-sizes_fit.true)))

pub overflow_mul-count-then-heights_fit : goal.overflow_mul-count-then-heights_fit
overflow_mul-count-then-heights_fit c = omega (arith, cell-count _ (sizes-small c.args.view.window.sizes (sym c.sizes_fit.ensures ∙ c.if-sizes_fit.true)))

pub overflow_mul-columns : goal.overflow_mul-columns
overflow_mul-columns c = omega (arith, column-count _ (sizes-small c.args.view.window.sizes (sym c.sizes_fit.ensures ∙ c.if-sizes_fit.true)))

pub overflow_add-count : goal.overflow_add-count
overflow_add-count c = let k = (sizes-small c.args.view.window.sizes (sym c.sizes_fit.ensures ∙ c.if-sizes_fit.true)) in omega (arith, cell-count _ k, column-count _ k)

pub overflow_cast-count : goal.overflow_cast-count
overflow_cast-count c = let k = (sizes-small c.args.view.window.sizes (sym c.sizes_fit.ensures ∙ c.if-sizes_fit.true)) in omega (arith, cell-count _ k, column-count _ k)
