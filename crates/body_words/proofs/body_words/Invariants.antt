-- `body_words::body_words` meets its contract. Assumes nothing.
use mathlib.Core.Path.{◌≡◌, refl}
use mathlib.Core.List.{◌++◌}
use Prim.Native.Nat.{◌-◌, ◌≤◌}
use lib.ListN.{length, take, length-set}
use Rattle.base.specs.Loop.{listed}
use Rattle.base.proofs.Fill.{turn}
use Rattle.base.proofs.Listed.{filled}
use Rattle.body_words.specs.Words.{body_word_of}
use Rattle.body_words.proofs.body_words.Given as goal

abbrev pub invariant-loop-i : goal.invariant-loop-i
invariant-loop-i l = (l.i ≤ 49) × (length l.body ≡ 49) × (take l.i l.body ++ listed (body_word_of l.numbers l.words l.age l.n) (49 - l.i) l.i ≡ listed (body_word_of l.numbers l.words l.age l.n) 49 0)
