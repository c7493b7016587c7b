-- `log_writer::all_fit` meets its contract: the first that does not fit decides. Assumes nothing.
use Rattle.std.proofs.Common.{sym, ◌∙◌, arith}
use Rattle.base.proofs.Every.{every-not}
use Rattle.log_writer.proofs.all_fit.Goals as goal

pub returns-then-not-event_fits : goal.returns-then-not-event_fits
returns-then-not-event_fits c = sym (every-not _ _ c.loop-i.i (omega arith) (sym c.event_fits.ensures ∙ c.if-not-event_fits.true))
