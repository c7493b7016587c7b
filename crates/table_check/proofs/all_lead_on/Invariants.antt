-- `table_check::all_lead_on` meets its contract. Assumes nothing.
use mathlib.Core.Bool.{true}
use mathlib.Core.Path.{◌≡◌}
use Prim.Native.Nat.{ℕ, ◌+◌}
use lib.Dec.{eqb}
use Rattle.base.specs.Every.{every}
use Rattle.table_check.specs.Check.{leads_on}
use Rattle.tables.specs.Tables.{word_at}
use Rattle.table_check.proofs.all_lead_on.Given as goal

abbrev pub invariant-loop-i : goal.invariant-loop-i
invariant-loop-i l = every l.i (λ k. leads_on l.tables.records.now l.kind (word_at l.tables.records.now l.state (9 + k))) ≡ true
