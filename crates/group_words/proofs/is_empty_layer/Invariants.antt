-- `group_words::is_empty_layer` meets its contract. Assumes nothing.
use mathlib.Core.Bool.{true}
use mathlib.Core.Path.{◌≡◌}
use Prim.Native.Nat.{◌+◌, ◌*◌}
use Rattle.base.specs.Every.{every}
use Rattle.group_words.specs.Groups.{is_empty_line}
use Rattle.group_words.proofs.is_empty_layer.Given as goal

abbrev pub invariant-loop-k : goal.invariant-loop-k
invariant-loop-k l = every l.k (λ i. is_empty_line l.tables.records.now l.view.words.now l.view.window l.across (l.g.x * 4) l.y (l.g.z * 4 + i)) ≡ true
