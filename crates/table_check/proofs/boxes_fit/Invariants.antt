-- `table_check::boxes_fit` meets its contract. Assumes nothing.
use mathlib.Core.Bool.{true}
use mathlib.Core.Path.{◌≡◌}
use Prim.Native.Nat.{ℕ, ◌+◌}
use lib.Dec.{eqb}
use Rattle.base.specs.Every.{every}
use Rattle.table_check.specs.Check.{box_fits}
use Rattle.tables.specs.Tables.{word_at}
use Rattle.table_check.proofs.boxes_fit.Given as goal

abbrev pub invariant-loop-k : goal.invariant-loop-k
invariant-loop-k l = every l.k (box_fits l.shapes) ≡ true
