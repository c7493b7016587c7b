-- `text::put_vec` meets its contract. Assumes nothing.
use Rattle.text.specs.Text.{vec_text}
use Rattle.text.proofs.Cursor.{first, last}
use Rattle.text.proofs.put_vec.Goals as goal

pub returns : goal.returns
unfolding vec_text
returns c =
    first _ c.put_hex-x.ensures (first _ c.put_text-gap.ensures (first _ c.put_hex-y.ensures (first _ c.put_text-space.ensures (first _ c.put_hex-z.ensures (last c.put_text.ensures)))))
