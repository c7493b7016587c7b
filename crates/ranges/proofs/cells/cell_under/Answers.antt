-- `ranges::cells::cell_under` meets its contract. Assumes nothing.
use Rattle.ranges.proofs.Sums.{cell-read, below-sum, below-read}
use Rattle.ranges.specs.Cells.{cell_under}
use Rattle.ranges.proofs.cells.cell_under.Goals as goal

pub overflow_sub-result : goal.overflow_sub-result
overflow_sub-result c = below-sum _ _ c.cell-2.ensures

pub returns : goal.returns
unfolding cell_under
returns c = rw (cell-read _ _ c.cell.ensures, below-read _ _ c.cell-2.ensures, cell-read _ _ c.cell-3.ensures)
