-- `text::put_lines` meets its contract. Assumes nothing.
use Rattle.text.specs.Text.{lines_of}
use Rattle.text.proofs.Cursor.{first, last}
use Rattle.text.proofs.put_lines.Goals as goal

pub returns : goal.returns
unfolding lines_of
returns c =
    first _ c.put_feet-feet.ensures (first _ c.put_velocity-velocity.ensures (first _ c.put_ground-grounded.ensures (last c.put_liquid.ensures)))
