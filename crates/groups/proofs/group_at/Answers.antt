-- `groups::group_at` meets its contract. Assumes nothing.
use Rattle.groups.proofs.Counts.{some-on}
use Rattle.window.proofs.Check.{sizes-small}
use native.Mathlib.Omega.{arith}
use Rattle.groups.proofs.group_at.Goals as goal

pub groups_on-across-requires : goal.groups_on-across-requires
groups_on-across-requires c = (sizes-small c.args.s c.requires).x.high

pub groups_on-deep-requires : goal.groups_on-deep-requires
groups_on-deep-requires c = (sizes-small c.args.s c.requires).z.high

pub nonzero_div-row : goal.nonzero_div-row
nonzero_div-row c = rw c.groups_on-across.ensures (omega (arith, some-on _ (sizes-small c.args.s c.requires).x.low))

pub nonzero_rem-result : goal.nonzero_rem-result
nonzero_rem-result c = rw c.groups_on-across.ensures (omega (arith, some-on _ (sizes-small c.args.s c.requires).x.low))

pub nonzero_div-result : goal.nonzero_div-result
nonzero_div-result c = rw c.groups_on-deep.ensures (omega (arith, some-on _ (sizes-small c.args.s c.requires).z.low))

pub nonzero_rem-result-2 : goal.nonzero_rem-result-2
nonzero_rem-result-2 c = rw c.groups_on-deep.ensures (omega (arith, some-on _ (sizes-small c.args.s c.requires).z.low))
