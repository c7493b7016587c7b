-- `window::is_void` meets its contract. Assumes nothing.
use mir.Syntax.{w32}
use mir.ValLaws.{to_z-of_z}
use Rattle.window.proofs.Signs.{Summed, summed, cast32, cast8, wide_is, widens32}
use Rattle.window.proofs.is_void.Goals as goal
use Rattle.window.proofs.is_void.Goals.{Start}

works : (a : Start) → Summed a.args.y a.args.d
works a = summed a.args.y a.args.d a.ranges.y a.ranges.d

pub overflow_cast-at : goal.overflow_cast-at
overflow_cast-at c = cast32 c.args.y c.ranges.y

pub overflow_cast-at-2 : goal.overflow_cast-at-2
overflow_cast-at-2 c = cast8 c.args.d c.ranges.d

pub overflow_add-at : goal.overflow_add-at
overflow_add-at c = (works (goal.at.overflow_add-at c).Start).sum

pub overflow_cast-result : goal.overflow_cast-result
overflow_cast-result c = cast32 c.args.lowest c.ranges.lowest

pub overflow_cast-result-2 : goal.overflow_cast-result-2
overflow_cast-result-2 c = cast32 c.args.highest c.ranges.highest

pub returns : goal.returns
returns c = rw ((works (goal.at.returns c).Start).value, wide_is w32 c.args.lowest c.ranges.lowest (widens32 c.ranges.lowest), wide_is w32 c.args.highest c.ranges.highest (widens32 c.ranges.highest))
