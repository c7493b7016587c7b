-- `text::put_hex` meets its contract. Assumes nothing.
use Rattle.std.proofs.Common.{arith}
use Rattle.text.specs.Text.{hex_at, hex_of}
use Rattle.text.proofs.Cursor.{nothing, listed-turn, listed-end, same_size}
use Rattle.base.specs.Loop.{listed}
use Rattle.text.proofs.put_hex.Goals as goal

pub loop-k-init : goal.loop-k-init
unfolding listed
loop-k-init c = nothing _ _

pub loop-k-preserved : goal.loop-k-preserved
loop-k-preserved c =
    listed-turn (hex_at c.bits_of_float-bits.result) c.loop-k.k c.loop-k.invariant (rw c.hex_at.ensures at c.put-cursor.ensures)

pub shape_of-out : goal.shape_of-out
shape_of-out c = same_size c.loop-k.invariant

pub returns : goal.returns
unfolding hex_of
returns c = rw (← c.bits_of_float-bits.ensures) (listed-end (hex_at c.bits_of_float-bits.result) 16 c.loop-k.k (omega arith) (omega arith) c.loop-k.invariant)
