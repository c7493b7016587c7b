-- `table_check::records_fit` meets its contract: the first that fails decides. Assumes nothing.
use Rattle.std.proofs.Common.{sym, ◌∙◌, arith}
use borrow.Author.Tests.{ne_eqb}
use Rattle.base.proofs.Every.{every-not}
use Rattle.table_check.proofs.records_fit.Goals as goal

pub returns-then-not-record_fits : goal.returns-then-not-record_fits
returns-then-not-record_fits c = sym (every-not _ _ c.loop-state.state (omega arith) (sym c.record_fits.ensures ∙ c.if-not-record_fits.true))
