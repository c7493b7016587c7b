-- `palette_boxes::put` meets its contract. Assumes nothing.
use lib.Seq.{set_out}
use Rattle.std.proofs.Common.{sym}
use Rattle.palette_boxes.proofs.put.Goals as goal

pub returns-else-i-out : goal.returns-else-i-out
returns-else-i-out c = sym (set_out c.args.out.now _ _ c.if-i-out.false)
