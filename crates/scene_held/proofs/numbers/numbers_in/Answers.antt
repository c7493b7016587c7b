-- `scene_held::numbers::numbers_in` meets its contract. Assumes nothing.
use Rattle.std.proofs.Common.{rules}
use mathlib.Core.Path.{◌≡◌, refl}
use mathlib.Core.List.{◌++◌}
use Prim.Native.Nat.{◌-◌, ◌≤◌}
use lib.ListN.{length, take, length-set}
use Rattle.base.specs.Loop.{listed}
use Rattle.base.proofs.Fill.{turn}
use Rattle.base.proofs.Listed.{filled}
use Rattle.files.specs.Contents.{body_float}
use Rattle.scene_held.proofs.numbers.numbers_in.Goals as goal

pub loop-k-init : goal.loop-k-init
loop-k-init c = (search rules, refl, refl)

pub loop-k-preserved : goal.loop-k-preserved
loop-k-preserved c =
    (search rules, simp length-set c.loop-k.invariant.1, turn (body_float c.args.file.now) 19 c.loop-k.k c.loop-k.numbers _ c.body_float.result c.body_float.ensures (search rules) (search rules) c.loop-k.invariant.2)

pub returns : goal.returns
returns c = filled (body_float c.args.file.now) 19 c.loop-k.k c.loop-k.numbers c.loop-k.invariant.1 c.loop-k.invariant.0 (search rules) c.loop-k.invariant.2
