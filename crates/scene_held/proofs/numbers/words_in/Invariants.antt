-- `scene_held::numbers::words_in` meets its contract. Assumes nothing.
use mathlib.Core.Path.{◌≡◌, refl}
use mathlib.Core.List.{◌++◌}
use Prim.Native.Nat.{◌-◌, ◌≤◌}
use lib.ListN.{length, take, length-set}
use Rattle.base.specs.Loop.{listed}
use Rattle.base.proofs.Fill.{turn}
use Rattle.base.proofs.Listed.{filled}
use Rattle.files.specs.Contents.{late_word}
use Rattle.scene_held.proofs.numbers.words_in.Given as goal

abbrev pub invariant-loop-k : goal.invariant-loop-k
invariant-loop-k l = (l.k ≤ 7) × (length l.words ≡ 7) × (take l.k l.words ++ listed (late_word l.file) (7 - l.k) l.k ≡ listed (late_word l.file) 7 0)
