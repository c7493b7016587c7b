-- `minute_told::lines::put_text` meets its contract. Assumes nothing.
use Rattle.base.specs.Loop.{listed}
use Rattle.minute_told.specs.Printed.{feet_at}
use Rattle.minute_told.proofs.Text.{all-put}
use Rattle.minute_told.proofs.lines.put_text.Goals as goal

pub returns : goal.returns
returns g c =
    let a = c.args in
    all-put (listed (feet_at a.feet.now) a.ticks 0) _ c.put_lines-at.ensures c.put_ending.ensures
