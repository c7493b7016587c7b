-- `palette_boxes::first_box_of` meets its contract. Assumes nothing.
use Rattle.std.proofs.Common.{rules}
use Rattle.std.proofs.Common.{◌≡◌, refl, ap, ◌∙◌, arith, rules, le-leb}
use borrow.Author.Tests.{lt-leb}
use Rattle.base.specs.Choose.{choose}
use Rattle.palette_boxes.specs.Shapes.{first_box, first_box_of}
use Rattle.palette_boxes.proofs.Boxes.{first_next}
use Rattle.palette_boxes.proofs.first_box_of.Goals as goal

pub returns-then-state-ge212 : goal.returns-then-state-ge212
unfolding first_box_of choose
returns-then-state-ge212 c = rw (le-leb _ _ c.if-state-ge212.true)

pub loop-i-init : goal.loop-i-init
unfolding first_box
loop-i-init c = (search rules, search rules, refl)

pub overflow_add-n : goal.overflow_add-n
overflow_add-n c = omega (arith, c.box_count-n.ensures.most)

pub loop-i-preserved : goal.loop-i-preserved
loop-i-preserved c = (search rules, omega (arith, c.box_count-n.ensures.most), rw (first_next c.loop-i.i, ← c.loop-i.invariant.2, ← c.box_count-n.ensures.value))

pub returns : goal.returns
unfolding first_box_of choose
returns c =
    let e : c.loop-i.i ≡ c.args.state = omega arith in
    rw (lt-leb _ _ c.if-state-ge212.false) (c.loop-i.invariant.2 ∙ ap first_box e)
