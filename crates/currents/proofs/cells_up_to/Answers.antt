-- `currents::cells_up_to` meets its contract. Assumes nothing.
use lib.IntN.{pos, ◌-ℤ◌}
use Rattle.currents.proofs.Cells.{counted, some_fits, reached}
use Rattle.currents.proofs.cells_up_to.Goals as goal

pub overflow_cast-result : goal.overflow_cast-result
overflow_cast-result c =
    let k = counted c.cell-turned.result c.cell-first.result (reached _ _ c.cell-turned.ensures) (reached _ _ c.cell-first.ensures) in
    rw (c.from.ensures, c.from-2.ensures, k.value)
    (some_fits (pos 0 -ℤ c.cell-turned.result -ℤ c.cell-first.result) (rw (c.from.ensures, c.from-2.ensures, k.value) at c.if-n-lt0.false) k.small)
