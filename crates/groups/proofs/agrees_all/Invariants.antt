-- `groups::agrees_all` meets its contract. Assumes nothing.
use mathlib.Core.Bool.{true}
use mathlib.Core.Path.{◌≡◌}
use Rattle.base.specs.Every.{every}
use Rattle.groups.specs.Summary.{agrees_at}
use Rattle.groups.proofs.agrees_all.Given as goal

abbrev pub invariant-loop-i : goal.invariant-loop-i
invariant-loop-i l = every l.i (agrees_at l.tables.records.now l.view.words.now l.view.window) ≡ true
