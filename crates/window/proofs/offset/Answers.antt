-- `window::offset` meets its contract. Assumes nothing.
use Rattle.window.proofs.Signs.{Worked, worked, cast32, cast8}
use Rattle.window.proofs.offset.Goals as goal
use Rattle.window.proofs.offset.Goals.{Start}

works : (a : Start) → Worked a.args.x a.args.d a.args.o
works a = worked a.args.x a.args.d a.args.o a.ranges.x a.ranges.d a.ranges.o

pub overflow_cast-result : goal.overflow_cast-result
overflow_cast-result c = cast32 c.args.x c.ranges.x

pub overflow_cast-result-2 : goal.overflow_cast-result-2
overflow_cast-result-2 c = cast8 c.args.d c.ranges.d

pub overflow_add-result : goal.overflow_add-result
overflow_add-result c = (works (goal.at.overflow_add-result c).Start).sum

pub overflow_cast-result-3 : goal.overflow_cast-result-3
overflow_cast-result-3 c = cast32 c.args.o c.ranges.o

pub overflow_sub-result : goal.overflow_sub-result
overflow_sub-result c = (works (goal.at.overflow_sub-result c).Start).difference

pub returns : goal.returns
returns c = (works (goal.at.returns c).Start).value
