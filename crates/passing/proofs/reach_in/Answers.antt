-- `passing::reach_in` meets its contract. Assumes nothing.
use mathlib.Core.Path.{sym, ◌∙◌}
use Rattle.passing.proofs.Bounds.{first-x, first-z, across-x, across-z}
use Rattle.passing.proofs.reach_in.Goals as goal

pub overflow_cast-result : goal.overflow_cast-result
overflow_cast-result c =
    first-x c.args.view.window.sizes _ _ c.place_in-a.result c.place_in-b.result c.layout_of.ensures c.in_ok-layout.was (sym c.spans_it.ensures ∙ c.if-not-spans_it.false)

pub overflow_cast-result-2 : goal.overflow_cast-result-2
overflow_cast-result-2 c =
    first-z c.args.view.window.sizes _ _ c.place_in-a.result c.place_in-b.result c.layout_of.ensures c.in_ok-layout.was (sym c.spans_it.ensures ∙ c.if-not-spans_it.false)

pub overflow_cast-result-3 : goal.overflow_cast-result-3
overflow_cast-result-3 c =
    across-x c.args.view.window.sizes _ _ c.place_in-a.result c.place_in-b.result c.layout_of.ensures c.in_ok-layout.was (sym c.spans_it.ensures ∙ c.if-not-spans_it.false) _ c.groups_between.ensures

pub overflow_cast-result-4 : goal.overflow_cast-result-4
overflow_cast-result-4 c =
    across-z c.args.view.window.sizes _ _ c.place_in-a.result c.place_in-b.result c.layout_of.ensures c.in_ok-layout.was (sym c.spans_it.ensures ∙ c.if-not-spans_it.false) _ c.groups_between-2.ensures
