-- `ranges::layers_between` meets its contract. Assumes nothing.
use Rattle.ranges.proofs.Sums.{axis, cell-read, below-sum, below-read}
use Rattle.ranges.proofs.layers_between.Goals as goal

pub overflow_sub-first : goal.overflow_sub-first
overflow_sub-first c = below-sum _ _ c.cell-first.ensures

pub returns : goal.returns
returns c = axis _ _ _ _ _ _ _ (below-read _ _ c.cell-first.ensures) c.span-count.ensures (below-read _ _ c.cell-first.ensures) (cell-read _ _ c.cell.ensures)
