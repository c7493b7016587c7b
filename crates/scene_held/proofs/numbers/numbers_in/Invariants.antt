-- `scene_held::numbers::numbers_in` meets its contract. Assumes nothing.
use mathlib.Core.Path.{◌≡◌, refl}
use mathlib.Core.List.{◌++◌}
use Prim.Native.Nat.{◌-◌, ◌≤◌}
use lib.ListN.{length, take, length-set}
use Rattle.base.specs.Loop.{listed}
use Rattle.base.proofs.Fill.{turn}
use Rattle.base.proofs.Listed.{filled}
use Rattle.files.specs.Contents.{body_float}
use Rattle.scene_held.proofs.numbers.numbers_in.Given as goal

abbrev pub invariant-loop-k : goal.invariant-loop-k
invariant-loop-k l = (l.k ≤ 19) × (length l.numbers ≡ 19) × (take l.k l.numbers ++ listed (body_float l.file) (19 - l.k) l.k ≡ listed (body_float l.file) 19 0)
