-- `block_checks::is_marked` meets its contract. Assumes nothing.
use Rattle.std.proofs.Common.{◌∙◌}
use Rattle.block_checks.proofs.Checks.{starts_new, starts_old}
use Rattle.block_checks.proofs.is_marked.Goals as goal

pub returns-then-second : goal.returns-then-second
returns-then-second c = rw c.if-second.true (c.starts_with.ensures.value ∙ starts_new c.args.block.now)

pub returns-else-second : goal.returns-else-second
returns-else-second c = rw c.if-second.false (c.starts_with-else-second.ensures.value ∙ starts_old c.args.block.now)
