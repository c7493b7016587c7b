-- `table_check::all_lead_on` meets its contract: the first that fails decides. Assumes nothing.
use Rattle.std.proofs.Common.{sym, ◌∙◌, arith}
use borrow.Author.Tests.{ne_eqb}
use Rattle.base.proofs.Every.{every-not}
use Rattle.table_check.specs.Check.{all_lead_on}
use Rattle.table_check.proofs.all_lead_on.Goals as goal

pub returns-then-not-leads_on : goal.returns-then-not-leads_on
unfolding all_lead_on
returns-then-not-leads_on c = sym (every-not _ _ c.loop-i.i (omega arith) (rw (← c.word.ensures, ← c.leads_on.ensures) c.if-not-leads_on.true))
