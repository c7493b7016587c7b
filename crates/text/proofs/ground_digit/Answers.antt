-- `text::ground_digit` meets its contract. Assumes nothing.
use Rattle.text.specs.Text.{ground_digit}
use borrow.Author.Tests.{eq-eqb, ne_eqb}
use Rattle.base.specs.Choose.{choose}
use Rattle.text.proofs.ground_digit.Goals as goal

pub returns-then-grounded-eq0 : goal.returns-then-grounded-eq0
unfolding ground_digit choose
returns-then-grounded-eq0 c = rw (eq-eqb _ _ c.if-grounded-eq0.true)

pub returns-else-grounded-eq0 : goal.returns-else-grounded-eq0
unfolding ground_digit choose
returns-else-grounded-eq0 c = rw (ne_eqb _ _ c.if-grounded-eq0.false)
