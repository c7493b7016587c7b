-- `logged::run::run_among` meets its contract. Assumes nothing.
use mathlib.Core.Path.{ap, ◌∙◌}
use Rattle.base.specs.Loop.{stored}
use Rattle.logs.specs.Logs.{events_by}
use Rattle.minute_state.specs.Minute.{State, lines_as_numbers}
use Rattle.minute_state.specs.Turns.{minute_of}
use Rattle.logged.proofs.Scenes.{among}
use Rattle.logged.proofs.run.run_among.Goals as goal

pub returns : goal.returns
returns c =
    let a = c.args in
    let same = among a.tables.records.now a.tables.shapes.now a.words.now a.window (events_by a.file.now a.log) _ _ _ _ _ _ _ _ _ c.rules_from.ensures c.body_from.ensures c.motion_from-given.ensures c.body_age.ensures c.numbers_in-numbers.ensures c.words_in-late.ensures in
    record { value = c.run.ensures.value ∙ ap minute_of same; feet_after = c.run.ensures.feet_after ∙ ap (λ (k : State). stored a.feet.now 0 (lines_as_numbers k.lines)) same }
