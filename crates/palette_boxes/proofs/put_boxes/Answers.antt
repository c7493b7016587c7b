-- `palette_boxes::put_boxes` meets its contract. Assumes nothing.
use Rattle.std.proofs.Common.{rules}
use Rattle.std.proofs.Common.{refl, arith, rules}
use Rattle.palette_boxes.specs.Shapes.{part_numbers, boxes_of_state}
use Rattle.base.proofs.Appended.{appended-turn, appended-end, place-turn, place_end}
use Rattle.base.proofs.Stored.{stored-length}
use Rattle.palette_boxes.proofs.Boxes.{part-short}
use Rattle.palette_boxes.proofs.put_boxes.Goals as goal

pub loop-part-init : goal.loop-part-init
unfolding boxes_of_state
loop-part-init c = (search rules, search rules, refl, refl, refl)

pub put_part-next-requires : goal.put_part-next-requires
put_part-next-requires c = omega arith

pub loop-part-preserved : goal.loop-part-preserved
loop-part-preserved c = (search rules, omega (arith, c.put_part-next.ensures.value, part-short c.args.state c.loop-part.part), rw (c.put_part-next.ensures.written, stored-length) c.loop-part.invariant.2, place-turn (part_numbers c.args.state) 5 c.loop-part.part c.loop-part.next _ c.put_part-next.result c.put_part-next.ensures.value c.loop-part-test.true c.loop-part.invariant.3, appended-turn (part_numbers c.args.state) 5 c.loop-part.part c.loop-part.out _ c.loop-part.next _ c.put_part-next.result c.put_part-next.ensures.written c.put_part-next.ensures.value c.loop-part-test.true c.loop-part.invariant.4)

pub shape_of-out : goal.shape_of-out
shape_of-out c = c.loop-part.invariant.2

pub returns : goal.returns
returns c = record { value = place_end (part_numbers c.args.state) 5 c.loop-part.part c.loop-part.next _ c.loop-part-test.false c.loop-part.invariant.3; written = appended-end (part_numbers c.args.state) 5 c.loop-part.part c.loop-part.out _ c.loop-part.next c.loop-part-test.false c.loop-part.invariant.4 }
