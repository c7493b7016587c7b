-- `text::put_velocity` meets its contract. Assumes nothing.
use Rattle.text.specs.Text.{velocity_line}
use Rattle.text.proofs.Cursor.{first, last}
use Rattle.text.proofs.put_velocity.Goals as goal

pub returns : goal.returns
unfolding velocity_line
returns c =
    first _ c.put_text-name.ensures (last c.put_vec.ensures)
