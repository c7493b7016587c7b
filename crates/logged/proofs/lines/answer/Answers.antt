-- `logged::lines::answer` meets its contract. Assumes nothing.
use Rattle.logged.specs.Logged.{minute_in}
use Rattle.minute_state.specs.Turns.{minute_seen}
use Rattle.minute_told.proofs.Back.{printed}
use Rattle.logged.proofs.Few.{all-feet}
use Rattle.logged.proofs.lines.answer.Goals as goal

pub returns : goal.returns
returns c =
    let file = c.args.file.now in
    let feet = c.feet_room-feet.result in
    printed (minute_in file) feet c.run_log-m.new.feet (minute_seen c.run_log-m.result)
    (all-feet file feet c.feet_room-feet.ensures) c.run_log-m.ensures.value c.run_log-m.ensures.feet_after c.put_text.ensures
