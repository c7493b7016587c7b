-- `minute_told::lines::put_lines` meets its contract. Assumes nothing.
use Rattle.minute_told.specs.Printed.{feet_at}
use Rattle.minute_told.proofs.Text.{lines-begin, lines-turn, lines_end}
use Rattle.minute_told.proofs.lines.put_lines.Goals as goal

pub loop-i-init : goal.loop-i-init
loop-i-init c = lines-begin _ _

pub loop-i-preserved : goal.loop-i-preserved
loop-i-preserved c = lines-turn (feet_at c.args.feet.now) c.loop-i.i c.loop-i.invariant (rw c.feet_at.ensures at c.put_feet-cursor.ensures)

pub returns : goal.returns
returns c = lines_end (feet_at c.args.feet.now) c.args.ticks c.loop-i.i c.loop-i.auto.i-end c.loop-i-test.false c.loop-i.invariant
