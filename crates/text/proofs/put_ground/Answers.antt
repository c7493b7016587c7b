-- `text::put_ground` meets its contract. Assumes nothing.
use Rattle.text.specs.Text.{ground_line}
use Rattle.text.proofs.Cursor.{first, last}
use Rattle.text.proofs.put_ground.Goals as goal

pub returns : goal.returns
unfolding ground_line
returns c =
    first _ c.put_text-name.ensures (first _ (rw c.ground_digit.ensures at c.put-digit.ensures) (last c.put_text.ensures))
