-- `cover::nan_on_face` meets its contract. Assumes nothing.
use Rattle.std.proofs.Common.{◌∙◌, arith, rules, tests, refl}
use Rattle.std.proofs.lemmas.Iterator.{YieldsList-from_range}
use Rattle.std.proofs.lemmas.Iterator.Search.{any_from_yields_List}
use Rattle.cover.specs.Cover.{box_count, has_nan}
use Rattle.cover.proofs.Ranges.{any_below}
use Rattle.cover.proofs.nan_on_face.Goals as goal

pub returns : goal.returns
returns c =
    let test = has_nan c.args.shape.now c.args.face in
    any_from_yields_List test _ _ _ c.any.ensures.ran (YieldsList-from_range 0 (box_count c.args.shape.now) (box_count c.args.shape.now) refl (omega arith)) (λ x b q k. search (rules, tests))
    ∙ any_below test (box_count c.args.shape.now)
