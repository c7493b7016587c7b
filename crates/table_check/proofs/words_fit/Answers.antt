-- `table_check::words_fit` meets its contract. Assumes nothing.
use Rattle.table_check.specs.Check.{words_fit}
use Rattle.table_check.proofs.Limits.{sixteen-bits}
use Rattle.table_check.proofs.words_fit.Goals as goal

pub returns : goal.returns
unfolding words_fit
returns c =
    rw (c.is_within.ensures, c.friction.ensures, sixteen-bits, c.most_depth.ensures, c.word-liquid.ensures, c.word.ensures, c.word-2.ensures, c.word-3.ensures, c.word-4.ensures, c.word-5.ensures)
