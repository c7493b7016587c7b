-- `palette_boxes::number_of` meets its contract. Assumes nothing.
use Rattle.std.proofs.Common.{rules}
use Rattle.std.proofs.Common.{◌≡◌, ◌-◌, length, sym, refl, ap, ◌∙◌, arith, rules}
use Rattle.floats.specs.Numbers.{zero64}
use Rattle.palette_boxes.specs.Shapes.{part_numbers, boxes_of_state}
use Rattle.base.proofs.Appended.{element-here, element-on, element-none}
use Rattle.palette_boxes.proofs.Boxes.{part-six, part_none}
use Rattle.palette_boxes.proofs.number_of.Goals as goal

pub loop-part-init : goal.loop-part-init
unfolding boxes_of_state
loop-part-init c = (search rules, refl)

pub part_number-requires : goal.part_number-requires
part_number-requires c = (sym c.has_part.ensures ∙ c.if-not-has_part.false, search rules)

pub returns-then-left-lt6 : goal.returns-then-left-lt6
returns-then-left-lt6 c =
    let h : length (part_numbers c.args.state c.loop-part.part) ≡ 6 = part-six c.args.state c.loop-part.part (sym c.has_part.ensures ∙ c.if-not-has_part.false) in
    c.part_number.ensures ∙ element-here (part_numbers c.args.state) 5 c.loop-part.part c.loop-part.left zero64 _ c.loop-part-test.true (omega arith) c.loop-part.invariant.1

pub loop-part-preserved-then-not-has_part : goal.loop-part-preserved-then-not-has_part
loop-part-preserved-then-not-has_part c =
    let h : length (part_numbers c.args.state c.loop-part.part) ≡ 0 = ap length (part_none c.args.state c.loop-part.part (sym c.has_part.ensures ∙ c.if-not-has_part.true)) in
    (search rules, element-on (part_numbers c.args.state) 5 c.loop-part.part c.loop-part.left zero64 _ c.loop-part.left c.loop-part-test.true (omega arith) c.loop-part.invariant.1)

pub loop-part-preserved : goal.loop-part-preserved
loop-part-preserved c =
    let h : length (part_numbers c.args.state c.loop-part.part) ≡ 6 = part-six c.args.state c.loop-part.part (sym c.has_part.ensures ∙ c.if-not-has_part.false) in
    (search rules, element-on (part_numbers c.args.state) 5 c.loop-part.part c.loop-part.left zero64 _ (c.loop-part.left - 6) c.loop-part-test.true (omega arith) c.loop-part.invariant.1)

pub returns : goal.returns
returns c = element-none (part_numbers c.args.state) 5 c.loop-part.part c.loop-part.left zero64 _ c.loop-part-test.false c.loop-part.invariant.1
