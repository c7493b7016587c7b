-- `night_windows::check_all` meets its contract. Assumes nothing.
use mathlib.Core.Path.{◌≡◌}
use mathlib.Core.List.{◌++◌}
use Prim.Native.Nat.{◌-◌}
use lib.ListN.{length, take}
use Rattle.base.specs.Loop.{listed}
use Rattle.night_windows.specs.Windows.{refusal_within, verdicts}
use Rattle.night_windows.proofs.check_all.Given as goal

abbrev pub invariant-loop-j : goal.invariant-loop-j
invariant-loop-j l =
    (length l.checked ≡ 16)
    × (take l.j (verdicts l.checked) ++ listed (refusal_within l.tables.records.now l.windows.rows.now l.windows.cells.now l.windows.count) (16 - l.j) l.j ≡ listed (refusal_within l.tables.records.now l.windows.rows.now l.windows.cells.now l.windows.count) 16 0)
