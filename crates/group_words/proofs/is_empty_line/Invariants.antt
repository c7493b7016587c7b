-- `group_words::is_empty_line` meets its contract. Assumes nothing.
use mathlib.Core.Bool.{true}
use mathlib.Core.Path.{◌≡◌}
use Prim.Native.Nat.{◌+◌}
use Rattle.base.specs.Every.{every}
use Rattle.window.specs.Views.{look_in}
use Rattle.group_words.specs.Groups.{cell_at, is_empty}
use Rattle.group_words.proofs.is_empty_line.Given as goal

abbrev pub invariant-loop-k : goal.invariant-loop-k
invariant-loop-k l = every l.k (λ i. is_empty l.tables.records.now (look_in l.view (cell_at l.view.window (l.x + i) l.y l.z))) ≡ true
