-- `cover::gap_on_face` meets its contract. Assumes nothing.
use Rattle.std.proofs.Common.{◌∙◌, arith, rules, tests, refl}
use Rattle.std.proofs.lemmas.Iterator.{YieldsList-from_range}
use Rattle.std.proofs.lemmas.Iterator.Search.{any_from_yields_List}
use Rattle.cover.specs.Cover.{box_count, on_face, u1}
use Rattle.cover.specs.Gaps.{gap_on_line, gap_past, any_gap, gap_on_face}
use Rattle.cover.proofs.Ranges.{any_below}
use Rattle.cover.proofs.gap_on_face.Goals as goal

pub returns-then-gap_on_line : goal.returns-then-gap_on_line
unfolding gap_on_face any_gap
returns-then-gap_on_line c = rw (← c.gap_on_line.ensures, c.if-gap_on_line.true)

pub returns-else-gap_on_line : goal.returns-else-gap_on_line
unfolding gap_on_face any_gap
returns-else-gap_on_line c =
    let a = c.args in
    let test = gap_past (on_face a.shape.now a.face) (u1 a.shape.now a.face) (gap_on_line a.shape.now a.face) in
    rw (← c.gap_on_line.ensures, c.if-gap_on_line.false)
    (any_from_yields_List test _ _ _ c.any.ensures.ran (YieldsList-from_range 0 (box_count c.args.shape.now) (box_count c.args.shape.now) refl (omega arith)) (λ x b q k. search (rules, tests))
    ∙ any_below test (box_count c.args.shape.now))
