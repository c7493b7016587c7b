-- `bodies::numbers::number_at` meets its contract. Assumes nothing.
use mathlib.Core.Path.{sym}
use lib.ListN.{get_or-eq_default}
use Rattle.tables.proofs.Lists.{get_d_any}
use Rattle.bodies.proofs.numbers.number_at.Goals as goal

pub returns-then-i-numbers : goal.returns-then-i-numbers
returns-then-i-numbers c = get_d_any c.args.numbers.now _ _ _ c.if-i-numbers.true

pub returns-else-i-numbers : goal.returns-else-i-numbers
returns-else-i-numbers c = sym (get_or-eq_default c.args.numbers.now _ c.if-i-numbers.false)
