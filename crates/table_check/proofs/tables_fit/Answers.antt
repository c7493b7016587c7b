-- `table_check::tables_fit` meets its contract: so few states fit a word. Assumes nothing.
use Rattle.std.proofs.Common.{sym, ◌∙◌, arith}
use Rattle.table_check.proofs.Limits.{few-states}
use Rattle.table_check.proofs.tables_fit.Goals as goal

pub overflow_cast-states : goal.overflow_cast-states
overflow_cast-states c = omega (arith, few-states _ _ (sym c.counts_fit.ensures ∙ c.if-not-counts_fit.false))
