-- `groups::layout_of` meets its contract. Assumes nothing.
use mathlib.Core.Path.{sym, ◌∙◌}
use Rattle.window.proofs.Check.{sizes-small}
use Rattle.groups.proofs.Counts.{byte-groups}
use Rattle.groups.proofs.layout_of.Goals as goal

pub groups_on-requires : goal.groups_on-requires
groups_on-requires c = (sizes-small c.args.s (sym c.sizes_fit.ensures ∙ c.if-not-sizes_fit.false)).x.high

pub overflow_cast-result : goal.overflow_cast-result
overflow_cast-result c = rw c.groups_on.ensures (byte-groups _ (sizes-small c.args.s (sym c.sizes_fit.ensures ∙ c.if-not-sizes_fit.false)).x.high)

pub groups_on-requires-2 : goal.groups_on-requires-2
groups_on-requires-2 c = (sizes-small c.args.s (sym c.sizes_fit.ensures ∙ c.if-not-sizes_fit.false)).z.high

pub overflow_cast-result-2 : goal.overflow_cast-result-2
overflow_cast-result-2 c = rw c.groups_on-2.ensures (byte-groups _ (sizes-small c.args.s (sym c.sizes_fit.ensures ∙ c.if-not-sizes_fit.false)).z.high)
