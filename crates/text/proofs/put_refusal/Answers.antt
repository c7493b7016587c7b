-- `text::put_refusal` meets its contract. Assumes nothing.
use Rattle.text.specs.Text.{refused_text}
use Rattle.text.proofs.Cursor.{first, last}
use Rattle.text.proofs.put_refusal.Goals as goal

pub returns : goal.returns
unfolding refused_text
returns g c =
    first _ c.put_text-name.ensures (first _ (rw c.told.ensures at c.put-digit.ensures) (last c.put_text.ensures))
