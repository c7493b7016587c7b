-- `text::put_feet` meets its contract. Assumes nothing.
use Rattle.text.specs.Text.{feet_line}
use Rattle.text.proofs.Cursor.{first, last}
use Rattle.text.proofs.put_feet.Goals as goal

pub returns : goal.returns
unfolding feet_line
returns c =
    first _ c.put_text-name.ensures (last c.put_vec.ensures)
