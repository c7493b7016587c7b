-- `palette_boxes::put_all` meets its contract. Assumes nothing.
use Rattle.std.proofs.Common.{rules}
use Rattle.std.proofs.Common.{refl, arith, rules}
use Rattle.palette_boxes.specs.Shapes.{boxes_of_state, palette_shapes}
use Rattle.base.proofs.Appended.{appended-turn, appended-end}
use Rattle.base.proofs.Stored.{stored-length}
use Rattle.palette_boxes.proofs.Boxes.{boxes-short}
use Rattle.palette_boxes.proofs.put_all.Goals as goal

pub loop-state-init : goal.loop-state-init
unfolding palette_shapes
loop-state-init c = (search rules, search rules, refl, refl)

pub put_boxes-at-requires : goal.put_boxes-at-requires
put_boxes-at-requires c = omega arith

pub loop-state-preserved : goal.loop-state-preserved
loop-state-preserved c = (search rules, omega (arith, c.put_boxes-at.ensures.value, boxes-short c.loop-state.state), rw (c.put_boxes-at.ensures.written, stored-length) c.loop-state.invariant.2, appended-turn boxes_of_state 212 c.loop-state.state c.loop-state.out _ c.loop-state.at _ c.put_boxes-at.result c.put_boxes-at.ensures.written c.put_boxes-at.ensures.value c.loop-state-test.true c.loop-state.invariant.3)

pub shape_of-out : goal.shape_of-out
shape_of-out c = c.loop-state.invariant.2

pub returns : goal.returns
returns c = appended-end boxes_of_state 212 c.loop-state.state c.loop-state.out _ c.loop-state.at c.loop-state-test.false c.loop-state.invariant.3
