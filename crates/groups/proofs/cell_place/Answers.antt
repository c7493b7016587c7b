-- `groups::cell_place` meets its contract. Assumes nothing.
use Rattle.groups.proofs.Places.{cell-rows, cell_row, cell-line, cell-index}
use Rattle.groups.proofs.cell_place.Goals as goal

pub overflow_mul-result : goal.overflow_mul-result
overflow_mul-result c = cell-rows c.args.s c.args.t c.requires.s_value c.requires.t_value

pub overflow_add-result : goal.overflow_add-result
overflow_add-result c = cell_row c.args.s c.args.t c.requires.s_value c.requires.t_value

pub overflow_mul-result-2 : goal.overflow_mul-result-2
overflow_mul-result-2 c = cell-line c.args.s c.args.t c.requires.s_value c.requires.t_value

pub overflow_add-result-2 : goal.overflow_add-result-2
overflow_add-result-2 c = cell-index c.args.s c.args.t c.requires.s_value c.requires.t_value
