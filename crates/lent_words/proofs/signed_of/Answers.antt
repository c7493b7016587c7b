-- `lent_words::signed_of` meets its contract. Assumes nothing.
use Rattle.std.proofs.Common.{rules}
use Rattle.lent_words.proofs.Signs.{signed_back}
use Rattle.lent_words.proofs.signed_of.Goals as goal

pub returns : goal.returns
returns c = rw c.cast_signed.ensures (signed_back c.args.w (search rules))
