-- Two refusals as one number: the first party's is the low word, the second's the high one.
use Rattle.std.specs.Prelude.{ℕ}
use Rattle.lent_words.specs.Words.{wide_of}
use Rattle.parties.specs.Parties.{Refusals}

abbrev pub words_told : Refusals → ℕ
words_told told = wide_of told.first told.second
