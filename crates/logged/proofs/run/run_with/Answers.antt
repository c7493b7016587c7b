-- `logged::run::run_with` meets its contract. Assumes nothing.
use mathlib.Core.Path.{sym, ap, ◌∙◌}
use Rattle.base.specs.Loop.{stored}
use Rattle.base.specs.Refusals.{asked}
use Rattle.files.proofs.Scenes.{scene}
use Rattle.logs.specs.Logs.{events_by}
use Rattle.minute_state.specs.Minute.{State, lines_as_numbers}
use Rattle.minute_state.specs.Turns.{minute_of}
use Rattle.logged.proofs.Files.{unfit_file, no-counts, minute-by}
use Rattle.logged.proofs.run.run_with.Goals as goal

pub returns-in-Err : goal.returns-in-Err
returns-in-Err c =
    let none = no-counts c.args.file.now c.scene_in-scene.result.now c.scene_in-scene.ensures (unfit_file _ _ c.in-Err.is _ _ c.counts_of.ensures) in
    record { value = λ t. absurd (none t); feet_after = λ t. absurd (none t) }

pub returns-in-Ok : goal.returns-in-Ok
returns-in-Ok c =
    let a = c.args in
    let s = scene c.scene_in-scene.result.now _ (ap asked (sym c.in-Ok.is) ∙ c.counts_of.ensures) in
    let same = minute-by a.file.now c.scene_in-scene.result.now c.scene_in-scene.ensures _ (events_by a.file.now a.log) s.same in record { value = λ t. c.run_in.ensures.value s.test s.same ∙ ap minute_of same; feet_after = λ t. c.run_in.ensures.feet_after s.test s.same ∙ ap (λ (k : State). stored a.feet.now 0 (lines_as_numbers k.lines)) same }
