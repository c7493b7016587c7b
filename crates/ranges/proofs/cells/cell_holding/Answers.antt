-- `ranges::cells::cell_holding` meets its contract. Assumes nothing.
use Rattle.ranges.proofs.Sums.{cell-read}
use Rattle.ranges.specs.Cells.{cell_holding}
use Rattle.ranges.proofs.cells.cell_holding.Goals as goal

pub returns : goal.returns
unfolding cell_holding
returns c = rw (cell-read _ _ c.cell.ensures, cell-read _ _ c.cell-2.ensures, cell-read _ _ c.cell-3.ensures)
