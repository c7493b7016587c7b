-- `lent_boxes::clip_along_axis` meets its contract. Assumes nothing.
use mathlib.Core.Path.{ap, ◌∙◌}
use Prim.Native.Nat.{ℕ}
use native.Mathlib.Nat.{sub-zero}
use native.Mathlib.Omega.{arith}
use Rattle.sweeps.specs.Move.{clip_all}
use Rattle.sweeps.specs.Passes.{clip_along}
use Rattle.lent_boxes.specs.Boxes.{box_of, boxes_in}
use Rattle.lent_boxes.proofs.Lent.{clip-turn, clip-end}
use Rattle.lent_boxes.proofs.clip_along_axis.Goals as goal

pub loop-k-init : goal.loop-k-init
loop-k-init c = rw sub-zero

pub overflow_mul-k : goal.overflow_mul-k
overflow_mul-k c = let m = c.at_most-count.ensures in let h = c.loop-k-test.true in omega arith

pub aabb_at-b-requires : goal.aabb_at-b-requires
aabb_at-b-requires c = let m = c.at_most-count.ensures in let h = c.loop-k-test.true in omega arith

pub loop-k-preserved : goal.loop-k-preserved
loop-k-preserved c =
    let a = c.args in
    clip-turn (box_of a.numbers.now) _ c.loop-k.k (clip_along a.axis) a.mover _ c.loop-k.d _ _ c.loop-k-test.true c.aabb_at-b.ensures c.clip_along-d.ensures c.loop-k.invariant

pub returns : goal.returns
returns c =
    let a = c.args in
    let clip = clip_along a.axis in
    clip-end (box_of a.numbers.now) _ c.loop-k.k clip a.mover c.loop-k.d _ c.loop-k-test.false c.loop-k.invariant
    ∙ ap (λ (n : ℕ). clip_all clip (boxes_in a.numbers.now n) a.mover a.way) c.at_most-count.ensures
