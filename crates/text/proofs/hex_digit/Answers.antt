-- `text::hex_digit` meets its contract. Assumes nothing.
use Rattle.text.specs.Text.{hex_digit}
use borrow.Author.Tests.{lt-ltb, le-ltb}
use Rattle.base.specs.Choose.{choose}
use Rattle.text.proofs.hex_digit.Goals as goal

pub returns-then-n-lt10 : goal.returns-then-n-lt10
unfolding hex_digit choose
returns-then-n-lt10 c = rw (lt-ltb _ _ c.if-n-lt10.true)

pub returns-else-n-lt10 : goal.returns-else-n-lt10
unfolding hex_digit choose
returns-else-n-lt10 c = rw (le-ltb _ _ c.if-n-lt10.false)
