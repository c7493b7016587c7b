-- `log_writer::all_fit` meets its contract. Assumes nothing.
use mathlib.Core.Bool.{true}
use mathlib.Core.Path.{◌≡◌}
use Rattle.base.specs.Every.{every}
use Rattle.part_writer.specs.Bytes.{word_in}
use Rattle.logs.specs.Logs.{event_fits}
use Rattle.log_writer.proofs.all_fit.Given as goal

abbrev pub invariant-loop-i : goal.invariant-loop-i
invariant-loop-i l = every l.i (event_fits (word_in l.events)) ≡ true
