-- `palette::fill_records` meets its contract. Assumes nothing.
use borrow.Author.Tests.{lt-ltb, le-ltb}
use Rattle.base.specs.Choose.{choose}
use mathlib.Core.Path.{◌∙◌}
use Rattle.palette.specs.Palette.{palette_records}
use Rattle.base.proofs.Stored.{stored-length, stored-first}
use Rattle.palette.proofs.Records.{records-length}
use Rattle.palette.proofs.fill_records.Goals as goal

pub returns-then-out-lt4240 : goal.returns-then-out-lt4240
unfolding choose
returns-then-out-lt4240 c = record { value = rw (lt-ltb _ _ c.if-out-lt4240.true); written = rw (lt-ltb _ _ c.if-out-lt4240.true) }

pub shape_of-out : goal.shape_of-out
shape_of-out c = rw c.put_words.ensures (stored-length _ _ _)

pub returns : goal.returns
unfolding choose
returns c = record { value = rw (le-ltb _ _ c.if-out-lt4240.false); written = rw (le-ltb _ _ c.if-out-lt4240.false) (c.put_words.ensures ∙ stored-first _ palette_records 4240 records-length c.if-out-lt4240.false) }
