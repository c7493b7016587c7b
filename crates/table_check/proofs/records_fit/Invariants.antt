-- `table_check::records_fit` meets its contract. Assumes nothing.
use mathlib.Core.Bool.{true}
use mathlib.Core.Path.{◌≡◌}
use Prim.Native.Nat.{ℕ, ◌+◌}
use lib.Dec.{eqb}
use Rattle.base.specs.Every.{every}
use Rattle.table_check.specs.Check.{record_fits}
use Rattle.tables.specs.Tables.{word_at}
use Rattle.table_check.proofs.records_fit.Given as goal

abbrev pub invariant-loop-state : goal.invariant-loop-state
invariant-loop-state l = every l.state (record_fits l.tables.records.now l.tables.shapes.now) ≡ true
