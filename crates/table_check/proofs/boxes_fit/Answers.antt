-- `table_check::boxes_fit` meets its contract: the first that fails decides. Assumes nothing.
use Rattle.std.proofs.Common.{sym, ◌∙◌, arith}
use borrow.Author.Tests.{ne_eqb}
use Rattle.base.proofs.Every.{every-not}
use Rattle.table_check.proofs.boxes_fit.Goals as goal

pub returns-then-not-box_fits : goal.returns-then-not-box_fits
returns-then-not-box_fits c = sym (every-not _ _ c.loop-k.k (omega arith) (sym c.box_fits.ensures ∙ c.if-not-box_fits.true))
