-- `text::put_text` meets its contract. Assumes nothing.
use Rattle.std.proofs.Common.{arith}
use Rattle.text.proofs.Cursor.{nothing, text-turn, text-end, same_size}
use Rattle.text.proofs.put_text.Goals as goal

pub loop-i-init : goal.loop-i-init
loop-i-init c = nothing _ _

pub loop-i-preserved : goal.loop-i-preserved
loop-i-preserved c = text-turn c.args.text.now c.loop-i.i c.loop-i-test.true c.loop-i.invariant c.put-cursor.ensures

pub shape_of-out : goal.shape_of-out
shape_of-out c = same_size c.loop-i.invariant

pub returns : goal.returns
returns c = text-end c.args.text.now c.loop-i.i c.loop-i-test.false c.loop-i.invariant
