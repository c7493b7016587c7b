-- `table_check::all_zero` meets its contract. Assumes nothing.
use mathlib.Core.Bool.{true}
use mathlib.Core.Path.{◌≡◌}
use Prim.Native.Nat.{ℕ, ◌+◌}
use lib.Dec.{eqb}
use Rattle.base.specs.Every.{every}
use Rattle.table_check.specs.Check.{all_zero}
use Rattle.tables.specs.Tables.{word_at}
use Rattle.table_check.proofs.all_zero.Given as goal

abbrev pub invariant-loop-i : goal.invariant-loop-i
invariant-loop-i l = every l.i (λ k. eqb (word_at l.tables.records.now l.state (l.from + k)) 0) ≡ true
