-- `logged::run::run_held` meets its contract. Assumes nothing.
use mathlib.Core.Path.{ap, ◌∙◌}
use native.Mathlib.Omega.{arith}
use lib.ListN.{length-take}
use Rattle.base.specs.Loop.{stored}
use Rattle.files.specs.Contents.{Contents}
use Rattle.logs.specs.Logs.{events_by}
use Rattle.minute_state.specs.Minute.{lines_as_numbers}
use Rattle.minute_state.specs.Turns.{minute_of}
use Rattle.logged.specs.Held.{held_minute}
use Rattle.logged.proofs.Scenes.{handed-on}
use Rattle.logged.proofs.run.run_held.Goals as goal

pub slice_bounds-run_among-end-2 : goal.slice_bounds-run_among-end-2
slice_bounds-run_among-end-2 c = let h = c.held-c.ensures in rw (length-take) (omega arith)

pub returns : goal.returns
returns c =
    let a = c.args in
    let same = handed-on a.scene.now a.n a.records.now a.singles.now a.words.now c.held-a.result c.held-b.result c.held-c.result c.summed_words.result c.window_in-w.result c.held-a.ensures c.held-b.ensures c.held-c.ensures c.summed_words.ensures c.window_in-w.ensures in record { value = c.run_among.ensures.value ∙ ap (λ (k : Contents). minute_of (held_minute k (events_by a.file.now a.log))) same; feet_after = c.run_among.ensures.feet_after ∙ ap (λ (k : Contents). stored a.feet.now 0 (lines_as_numbers (held_minute k (events_by a.file.now a.log)).lines)) same }
