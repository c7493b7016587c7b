-- Where the words of a body stand in its payload, counted from its first: whoever reads or writes a scene goes by these. Document 01's and 02's words
-- stand in quotes.
use Rattle.std.specs.Prelude.{ℕ, ◌+◌, ◌*◌, ◌/◌}

-- "f64 low word first": the low word of number k; the high one follows
abbrev pub number_place : ℕ → ℕ
number_place k = k * 2

-- "age (low, high)", behind 19 numbers
abbrev pub age_place : ℕ
age_place = 38

-- "state count, box count"
abbrev pub states_place : ℕ
states_place = 46

abbrev pub boxes_place : ℕ
boxes_place = 47

-- "flap" is number 12; "flap present" and "air state" are words 4 and 5
abbrev pub flap_number : ℕ
flap_number = 12

abbrev pub present_word : ℕ
present_word = 4

abbrev pub air_word : ℕ
air_word = 5

-- the cap is word 6
abbrev pub cap_word : ℕ
cap_word = 6

-- "then words": word k of the seven behind the age; the two counts stand between the first six and the cap, since the cap's "scene word follows the
-- box count"
abbrev pub word_place : ℕ → ℕ
word_place k = 40 + k + k / cap_word * 2
