-- `groups::group_place` meets its contract. Assumes nothing.
use Rattle.groups.proofs.Counts.{rows_fit, row_fits, line-fits, index-fits, place-fits}
use Rattle.window.proofs.Check.{sizes-small}
use Rattle.groups.proofs.group_place.Goals as goal

pub words_before-before-requires : goal.words_before-before-requires
words_before-before-requires c = c.requires.s_value

pub groups_on-across-requires : goal.groups_on-across-requires
groups_on-across-requires c = (sizes-small c.args.s c.requires.s_value).x.high

pub groups_on-deep-requires : goal.groups_on-deep-requires
groups_on-deep-requires c = (sizes-small c.args.s c.requires.s_value).z.high

pub overflow_mul-result : goal.overflow_mul-result
overflow_mul-result c = rows_fit c.args.s (sizes-small c.args.s c.requires.s_value) _ _ _ _ _ c.requires.x_bound c.requires.y_bound c.requires.z_bound c.groups_on-across.ensures c.groups_on-deep.ensures

pub overflow_add-result : goal.overflow_add-result
overflow_add-result c = row_fits c.args.s (sizes-small c.args.s c.requires.s_value) _ _ _ _ _ c.requires.x_bound c.requires.y_bound c.requires.z_bound c.groups_on-across.ensures c.groups_on-deep.ensures

pub overflow_mul-result-2 : goal.overflow_mul-result-2
overflow_mul-result-2 c = line-fits c.args.s (sizes-small c.args.s c.requires.s_value) _ _ _ _ _ c.requires.x_bound c.requires.y_bound c.requires.z_bound c.groups_on-across.ensures c.groups_on-deep.ensures

pub overflow_add-result-2 : goal.overflow_add-result-2
overflow_add-result-2 c = index-fits c.args.s (sizes-small c.args.s c.requires.s_value) _ _ _ _ _ c.requires.x_bound c.requires.y_bound c.requires.z_bound c.groups_on-across.ensures c.groups_on-deep.ensures

pub overflow_add-result-3 : goal.overflow_add-result-3
overflow_add-result-3 c = place-fits c.args.s (sizes-small c.args.s c.requires.s_value) _ _ _ _ _ c.requires.x_bound c.requires.y_bound c.requires.z_bound c.groups_on-across.ensures c.groups_on-deep.ensures _ c.words_before-before.ensures

pub returns : goal.returns
returns c = rw (c.words_before-before.ensures, c.groups_on-across.ensures, c.groups_on-deep.ensures)
