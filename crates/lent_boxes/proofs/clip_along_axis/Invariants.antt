-- `lent_boxes::clip_along_axis` meets its contract. Assumes nothing.
use mathlib.Core.Path.{◌≡◌}
use Prim.Native.Nat.{◌-◌}
use Rattle.base.specs.Loop.{listed}
use Rattle.sweeps.specs.Move.{clip_all}
use Rattle.sweeps.specs.Passes.{clip_along}
use Rattle.lent_boxes.specs.Boxes.{box_of, boxes_in}
use Rattle.lent_boxes.proofs.clip_along_axis.Given as goal

abbrev pub invariant-loop-k : goal.invariant-loop-k
invariant-loop-k l =
    let clip = clip_along l.axis in
    clip_all clip (listed (box_of l.numbers) (l.count - l.k) l.k) l.mover l.d ≡ clip_all clip (boxes_in l.numbers l.count) l.mover l.way
