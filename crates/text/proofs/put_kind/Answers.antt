-- `text::put_kind` meets its contract. Assumes nothing.
use mathlib.Core.Path.{sym}
use Rattle.text.specs.Text.{liquid_text}
use Rattle.text.proofs.put_kind.Goals as goal

pub returns-in-None : goal.returns-in-None
returns-in-None c =
    rw c.in-None.is c.put_text.ensures

pub returns-in-Water : goal.returns-in-Water
returns-in-Water c =
    rw c.in-Water.is c.put_text-in-Water.ensures

pub returns-in-Lava : goal.returns-in-Lava
returns-in-Lava c =
    rw c.in-Lava.is c.put_text-in-Lava.ensures
