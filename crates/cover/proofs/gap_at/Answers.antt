-- `cover::gap_at` meets its contract. Assumes nothing.
use Rattle.std.proofs.Common.{◌∙◌, arith, rules, tests, refl, ap}
use Rattle.std.proofs.lemmas.Iterator.{YieldsList-from_range}
use Rattle.std.proofs.lemmas.Iterator.Search.{any_from_yields_List}
use Rattle.cover.specs.Cover.{box_count}
use mathlib.Core.Bool.{not}
use Rattle.cover.specs.Gaps.{has_point, has_gap_at}
use Rattle.cover.proofs.Ranges.{any_below}
use Rattle.cover.proofs.gap_at.Goals as goal

pub returns : goal.returns
unfolding has_gap_at
returns c =
    let test = has_point c.args.shape.now c.args.face c.args.u c.args.v in
    ap not
    (any_from_yields_List test _ _ _ c.any.ensures.ran (YieldsList-from_range 0 (box_count c.args.shape.now) (box_count c.args.shape.now) refl (omega arith)) (λ x b q k. search (rules, tests))
    ∙ any_below test (box_count c.args.shape.now))
