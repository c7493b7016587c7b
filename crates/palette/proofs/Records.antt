-- How many words the records have. Assumes nothing.
use mathlib.Core.Path.{◌≡◌}
use Prim.Native.Nat.{◌/◌, ◌%◌}
use lib.ListN.{length}
use Rattle.base.proofs.Listed.{listed-length}
use Rattle.palette.specs.Palette.{palette_word, palette_records}

pub records-length : length palette_records ≡ 4240
unfolding palette_records
records-length = listed-length (λ i. palette_word (i / 20) (i % 20)) 4240 0
