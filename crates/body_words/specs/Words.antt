-- The words of a body as they are written. Document 01's and 02's words stand in quotes.
use Rattle.std.specs.Prelude.{Bool, ◌&&◌, List, ℕ, ◌-◌, ◌/◌, ◌%◌, eqb, ltb, Float}
use Rattle.std.specs.Float.{binary64}
use Rattle.std.specs.Float.Ieee.{to_bits}
use Rattle.base.specs.Choose.{choose}
use Rattle.floats.specs.Numbers.{zero64}
use Rattle.bodies.specs.Numbers.{number_at}
use Rattle.lent_words.specs.Words.{low_of, high_of}
use Rattle.block_writer.specs.Bytes.{word_in}
use Rattle.files.specs.declared.Counts.{Counts}
use Rattle.files.specs.Places.{flap_number, present_word, age_place, word_place, states_place, boxes_place, cap_word}

-- number k is that of a flap that is not present
unfoldable pub is_absent : List ℕ → ℕ → Bool
is_absent words k = eqb k flap_number && eqb (word_in words present_word) 0

-- number k as it is written: "both flap words zero if not"
unfoldable pub written_number : List Float → List ℕ → ℕ → Float
written_number numbers words k = choose (is_absent words k) zero64 (number_at numbers k)

-- "f64 low word first", "age (low, high)": the low word of a number, and at 1 the high one
unfoldable pub word_of_wide : ℕ → ℕ → ℕ
word_of_wide n j = choose (eqb j 0) (low_of n) (high_of n)

-- payload word i of the body: numbers, age, words, "state count, box count", and the cap as it was given: 0 "is written back as 0"
unfoldable pub body_word_of : List Float → List ℕ → ℕ → Counts → ℕ → ℕ
body_word_of numbers words age n i =
    choose (ltb i age_place) (word_of_wide (to_bits binary64 (written_number numbers words (i / 2))) (i % 2))
    (choose (ltb i (word_place 0)) (word_of_wide age (i - age_place))
    (choose (ltb i states_place) (word_in words (i - word_place 0))
    (choose (eqb i states_place) n.states
    (choose (eqb i boxes_place) n.boxes (word_in words cap_word)))))
