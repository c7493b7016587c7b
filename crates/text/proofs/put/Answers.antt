-- `text::put` meets its contract. Assumes nothing.
use Rattle.text.proofs.Cursor.{byte-in, byte-out}
use Rattle.text.proofs.put.Goals as goal

pub returns-then-at-out : goal.returns-then-at-out
returns-then-at-out c = byte-in _ _ _ c.if-at-out.true

pub returns : goal.returns
returns c = byte-out _ _ _ c.if-at-out.false
