-- `cover::gap_on_line` meets its contract. Assumes nothing.
use Rattle.std.proofs.Common.{◌∙◌, arith, rules, tests, refl}
use Rattle.std.proofs.lemmas.Iterator.{YieldsList-from_range}
use Rattle.std.proofs.lemmas.Iterator.Search.{any_from_yields_List}
use Rattle.cover.specs.Cover.{box_count, v1}
use Rattle.cover.specs.Gaps.{spans_line, has_gap_at, gap_past, any_gap, gap_on_line}
use Rattle.cover.proofs.Ranges.{any_below}
use Rattle.cover.proofs.gap_on_line.Goals as goal

pub returns-then-gap_at : goal.returns-then-gap_at
unfolding gap_on_line any_gap
returns-then-gap_at c = rw (← c.gap_at.ensures, c.if-gap_at.true)

pub returns-else-gap_at : goal.returns-else-gap_at
unfolding gap_on_line any_gap
returns-else-gap_at c =
    let a = c.args in
    let test = gap_past (spans_line a.shape.now a.face a.u) (v1 a.shape.now) (has_gap_at a.shape.now a.face a.u) in
    rw (← c.gap_at.ensures, c.if-gap_at.false)
    (any_from_yields_List test _ _ _ c.any.ensures.ran (YieldsList-from_range 0 (box_count c.args.shape.now) (box_count c.args.shape.now) refl (omega arith)) (λ x b q k. search (rules, tests))
    ∙ any_below test (box_count c.args.shape.now))
