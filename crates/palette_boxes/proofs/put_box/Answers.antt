-- `palette_boxes::put_box` meets its contract. Assumes nothing.
use Rattle.std.proofs.Common.{rules}
use Rattle.std.proofs.Common.{ℕ, map, length, refl, ap, ◌∙◌, add-zero, length-set, rules}
use Rattle.base.specs.Loop.{stored}
use Rattle.palette_boxes.specs.Shapes.{sixteenths}
use Rattle.palette_boxes.proofs.Boxes.{box-six, box-turn, box-end}
use Rattle.palette_boxes.proofs.put_box.Goals as goal

pub loop-c-init : goal.loop-c-init
loop-c-init c = (search rules, refl, ap (λ (k : ℕ). stored c.args.out.now k (map sixteenths c.box_of_part-b.result)) (add-zero c.args.at))

pub loop-c-preserved : goal.loop-c-preserved
loop-c-preserved c = (search rules, rw (c.put.ensures, length-set) c.loop-c.invariant.1, box-turn c.box_of_part-b.result c.args.at c.loop-c.c c.loop-c.out _ (ap length c.box_of_part-b.ensures ∙ box-six _ _) _ c.in_blocks.result c.loop-c-test.true c.in_blocks.ensures c.put.ensures c.loop-c.invariant.2)

pub shape_of-out : goal.shape_of-out
shape_of-out c = c.loop-c.invariant.1

pub returns : goal.returns
returns c = box-end c.box_of_part-b.result c.args.at c.loop-c.c c.loop-c.out _ (ap length c.box_of_part-b.ensures ∙ box-six _ _) c.loop-c-test.false c.loop-c.invariant.2 ∙ ap (λ b. stored c.args.out.now c.args.at (map sixteenths b)) c.box_of_part-b.ensures
