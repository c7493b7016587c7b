-- `scene_held::parts::take_words` meets its contract. Assumes nothing.
use Rattle.blocks.specs.Blocks.{part_word}
use Rattle.base.proofs.Fill.{turn, whole}
use Rattle.base.specs.Loop.{listed}
use native.Mathlib.Omega.{arith}
use lib.ListN.{length, take, length-set}
use Prim.Native.Nat.{ℕ, ◌-◌, ◌≤◌}
use native.Mathlib.Nat.{sub-zero}
use mathlib.Core.List.{◌++◌}
use mathlib.Core.Path.{◌≡◌, refl, ap}
use Rattle.scene_held.proofs.parts.take_words.Given as goal

abbrev pub invariant-loop-i : goal.invariant-loop-i
invariant-loop-i l = (l.i ≤ l.n) × (l.n ≤ l.p.words) × (l.n ≤ length l.to) × (length l.to ≡ length l.initial.to) × (take l.i l.to ++ listed (part_word l.file l.p) (l.n - l.i) l.i ≡ listed (part_word l.file l.p) l.n 0)
