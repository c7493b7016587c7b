-- `logged::run::run_log` meets its contract. Assumes nothing.
use mathlib.Core.Path.{sym, ap, ◌∙◌}
use Rattle.base.specs.Loop.{stored}
use Rattle.files.proofs.Scenes.{are}
use Rattle.base.specs.Refusals.{asked}
use Rattle.logs.specs.Logs.{is_log, log_of}
use Rattle.minute_state.specs.Minute.{State, lines_as_numbers}
use Rattle.minute_state.specs.Turns.{minute_of}
use Rattle.logged.proofs.Files.{unfit_file, no-log, whole-log}
use Rattle.logged.proofs.run.run_log.Goals as goal

pub returns-in-Err : goal.returns-in-Err
unfolding stored lines_as_numbers
returns-in-Err c =
    let e = no-log c.args.file.now (unfit_file _ _ c.in-Err.is _ _ c.log_of.ensures) in
    record { value = c.refused_log.ensures ∙ ap minute_of e; feet_after = ap (λ (k : State). stored c.args.feet.now 0 (lines_as_numbers k.lines)) e }

pub returns-in-Ok : goal.returns-in-Ok
returns-in-Ok c =
    let a = c.args in
    let e = ap asked (sym c.in-Ok.is) ∙ c.log_of.ensures in
    let t = (are (is_log a.file.now) _ (log_of a.file.now) e).test in
    let same = whole-log a.file.now _ e in
    let ran = c.run_with.ensures in
    record { value = ran.value t ∙ ap minute_of same; feet_after = ran.feet_after t ∙ ap (λ (k : State). stored a.feet.now 0 (lines_as_numbers k.lines)) same }
