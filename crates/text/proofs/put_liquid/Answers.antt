-- `text::put_liquid` meets its contract. Assumes nothing.
use Rattle.text.specs.Text.{liquid_line}
use Rattle.text.proofs.Cursor.{first, last}
use Rattle.text.proofs.put_liquid.Goals as goal

pub returns : goal.returns
unfolding liquid_line
returns c =
    first _ c.put_text-name.ensures (first _ c.put_kind-told.ensures (last c.put_text.ensures))
