-- `group_words::group_word` meets its contract. Assumes nothing.
use mathlib.Core.Bool.{true}
use mathlib.Core.Path.{◌≡◌}
use Prim.Native.Nat.{◌+◌, ◌*◌}
use Rattle.base.specs.Every.{every}
use Rattle.group_words.specs.Groups.{is_empty_layer}
use Rattle.group_words.proofs.group_word.Given as goal

abbrev pub invariant-loop-k : goal.invariant-loop-k
invariant-loop-k l = every l.k (λ i. is_empty_layer l.tables.records.now l.view.words.now l.view.window l.g (l.g.y * 4 + i)) ≡ true
