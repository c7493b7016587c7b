-- `tables::word_at` meets its contract. Assumes nothing.
use Rattle.std.proofs.Common.{sym, rules}
use lib.ListN.{get_or-eq_default}
use Rattle.tables.proofs.word_or_zero.Goals as goal

pub returns-else-i-records : goal.returns-else-i-records
returns-else-i-records c = sym (get_or-eq_default c.args.records.now 0 c.if-i-records.false)
