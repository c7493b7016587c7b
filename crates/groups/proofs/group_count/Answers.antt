-- `groups::group_count` meets its contract. Assumes nothing.
use Rattle.groups.proofs.Counts.{layer-groups, all-groups}
use Rattle.window.proofs.Check.{sizes-small}
use native.Mathlib.Omega.{arith}
use Rattle.groups.proofs.group_count.Goals as goal

pub groups_on-requires : goal.groups_on-requires
groups_on-requires c = (sizes-small c.args.s c.requires).x.high

pub groups_on-requires-2 : goal.groups_on-requires-2
groups_on-requires-2 c = (sizes-small c.args.s c.requires).y.high

pub groups_on-requires-3 : goal.groups_on-requires-3
groups_on-requires-3 c = (sizes-small c.args.s c.requires).z.high

pub overflow_mul-result : goal.overflow_mul-result
overflow_mul-result c = rw (c.groups_on.ensures, c.groups_on-2.ensures) (omega (arith, layer-groups _ (sizes-small c.args.s c.requires)))

pub overflow_mul-result-2 : goal.overflow_mul-result-2
overflow_mul-result-2 c = rw (c.groups_on.ensures, c.groups_on-2.ensures, c.groups_on-3.ensures) (omega (arith, all-groups _ (sizes-small c.args.s c.requires)))
