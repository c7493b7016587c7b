-- `block_writer::put_payload` meets its contract. Assumes nothing.
use Rattle.std.proofs.Common.{◌≡◌, refl, arith, rules}
use Rattle.base.specs.Loop.{appended, stored}
use Rattle.block_writer.specs.Bytes.{bytes_of}
use Rattle.block_writer.proofs.Blocks.{payload-turn}
use Rattle.block_writer.proofs.put_payload.Goals as goal

pub loop-i-init : goal.loop-i-init
unfolding stored bytes_of appended
loop-i-init c = (search rules, refl)

pub loop-i-preserved : goal.loop-i-preserved
loop-i-preserved c = (search rules, payload-turn _ _ _ _ _ _ c.payload_word.ensures c.loop-i.invariant.1 c.put_word.ensures)

pub returns : goal.returns
returns c = let k : c.loop-i.i ≡ 123 = omega arith in rw k at c.loop-i.invariant.1
