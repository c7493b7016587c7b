-- `text::write_answer` meets its contract. Assumes nothing.
use Rattle.std.proofs.Common.{rules}
use Rattle.text.specs.Text.{written, written_count}
use Rattle.text.proofs.Sizes.{all-told}
use Rattle.base.specs.Choose.{choose}
use borrow.Author.Tests.{lt-ltb}
use Rattle.text.proofs.write_answer.Goals as goal

pub returns-then-out-lt160 : goal.returns-then-out-lt160
unfolding written written_count choose
returns-then-out-lt160 g c = record { out_after = first_of (rw (lt-ltb _ _ c.if-out-lt160.true), search rules); value = first_of (rw (lt-ltb _ _ c.if-out-lt160.true), search rules) }

pub returns : goal.returns
returns g c = let both = all-told _ c.args.answer c.args.out.now c.if-out-lt160.false c.put_answer.ensures in record { out_after = both.0; value = both.1 }
