-- `part_writer::put_block` meets its contract. Assumes nothing.
use Rattle.std.proofs.Common.{rules}
use mathlib.Core.Path.{ap, ◌∙◌}
use Prim.Native.Nat.{◌+◌, ◌*◌}
use native.Mathlib.Omega.{arith}
use lib.ListN.{length}
use Rattle.base.proofs.Stored.{stored-mid}
use Rattle.block_writer.proofs.Blocks.{block-length, filled_is}
use Rattle.part_writer.proofs.put_block.Goals as goal

pub returns : goal.returns
returns c =
    let number = c.args.p.first + c.args.j in
    let block = (rw c.used_in-used.ensures at c.fill_block.ensures) ∙ filled_is _ _ _ _ _ (search rules) in
    let n = ap length block ∙ block-length _ _ _ _ in
    rw (← block) (stored-mid c.args.out.now (number * 512) (number * 512 + 512) _ (omega arith) c.requires.1 (omega arith))
