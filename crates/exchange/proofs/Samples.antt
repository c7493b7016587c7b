-- The theorem is of something, and needs its "odd": computed. Assumes nothing.
use mathlib.Core.Bool.{true, false}
use mathlib.Core.Path.{◌≡◌, refl}
use Rattle.base.specs.Choose.{choose}
use Rattle.base.specs.Every.{every}
use Rattle.base.specs.Loop.{listed}
use Rattle.suffixes.specs.Bytes.{equal}
use Rattle.blocks.specs.Blocks.{file_word, marked, sum_of, check_of, second_of, word126, rest_zero, block_fits}
use Rattle.exchange.specs.Exchange.{from, exchange}
use Rattle.exchange.specs.Samples.{block_with, plain_block, halfway}

-- a sound block; two neighbouring words exchanged; the same read by the first rule
plain_fits : block_fits true plain_block 0 4 8 ≡ true
unfolding block_with plain_block choose every listed equal file_word marked sum_of check_of second_of word126 rest_zero block_fits
plain_fits = refl

plain-exchanged : block_fits true (exchange 0 4 5 plain_block) 0 4 8 ≡ false
unfolding block_with plain_block choose every listed equal file_word marked sum_of check_of second_of word126 rest_zero block_fits from exchange
plain-exchanged = refl

plain-first : block_fits false plain_block 0 4 8 ≡ false
unfolding block_with plain_block choose every listed equal file_word marked sum_of check_of second_of word126 rest_zero block_fits
plain-first = refl

-- two places apart, a difference of 2^31 does not show
halfway-exchanged : block_fits true (exchange 0 3 5 halfway) 0 4 8 ≡ true
unfolding block_with halfway choose every listed equal file_word marked sum_of check_of second_of word126 rest_zero block_fits from exchange
halfway-exchanged = refl
