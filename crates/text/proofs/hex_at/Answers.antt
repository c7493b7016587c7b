-- `text::hex_at` meets its contract. Assumes nothing.
use native.Mathlib.Nat.{mod-mod}
use Rattle.text.specs.Text.{hex_at}
use Rattle.text.proofs.hex_at.Goals as goal

pub returns : goal.returns
unfolding hex_at
returns c = rw (← c.shift_of-by.ensures, ← mod-mod _ 16) c.hex_digit.ensures
