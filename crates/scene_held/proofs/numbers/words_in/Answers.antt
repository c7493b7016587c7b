-- `scene_held::numbers::words_in` meets its contract. Assumes nothing.
use Rattle.std.proofs.Common.{rules}
use mathlib.Core.Path.{◌≡◌, refl}
use mathlib.Core.List.{◌++◌}
use Prim.Native.Nat.{◌-◌, ◌≤◌}
use lib.ListN.{length, take, length-set}
use Rattle.base.specs.Loop.{listed}
use Rattle.base.proofs.Fill.{turn}
use Rattle.base.proofs.Listed.{filled}
use Rattle.files.specs.Contents.{late_word}
use Rattle.scene_held.proofs.numbers.words_in.Goals as goal

pub loop-k-init : goal.loop-k-init
loop-k-init c = (search rules, refl, refl)

pub loop-k-preserved : goal.loop-k-preserved
loop-k-preserved c =
    (search rules, simp length-set c.loop-k.invariant.1, turn (late_word c.args.file.now) 7 c.loop-k.k c.loop-k.words _ c.body_word.result c.body_word.ensures (search rules) (search rules) c.loop-k.invariant.2)

pub returns : goal.returns
returns c = filled (late_word c.args.file.now) 7 c.loop-k.k c.loop-k.words c.loop-k.invariant.1 c.loop-k.invariant.0 (search rules) c.loop-k.invariant.2
