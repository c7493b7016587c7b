-- Windows and bodies are lent in rows, one row after the other. How wide a row is, and what stands where in it, is said here alone.
use Rattle.std.specs.Prelude.{Bool, ◌&&◌, List, ℕ, ◌*◌, eqb, length, take, drop, Float}
use Rattle.base.specs.Choose.{choose}
use Rattle.tables.specs.Tables.{word_at}
use Rattle.bodies.specs.declared.BodyNumbers.{BodyNumbers}
use Rattle.bodies.specs.declared.Rules.{Rules}
use Rattle.bodies.specs.declared.MotionNumbers.{MotionNumbers}
use Rattle.bodies.specs.Body.{with_cap}
use Rattle.bodies.specs.Numbers.{number_at, motion_from, body_from, rules_from}
use Rattle.lent_words.specs.Words.{wide_of, window_from}
use Rattle.fall_rule.specs.declared.Fall.{Fall}
use Rattle.fall_rule.specs.Rule.{fall_of}
use Rattle.night_rows.specs.declared.WindowRow.{WindowRow}
use Rattle.night_rows.specs.declared.body.BodyRow.{BodyRow}

-- row i of rows so wide: what there is of it, where it is not there whole
abbrev pub row_of : {A : Type 0} → ℕ → List A → ℕ → List A
row_of width all i = take width (drop (i * width) all)

-- ---- a window: 8 words as in a scene, then where its own begin among the words that are lent for all windows, and how many they are

abbrev pub window_width : ℕ
window_width = 10

-- its air state is that of each body's rules
abbrev pub window_of_row : List ℕ → WindowRow
window_of_row words =
    record { window = window_from (word_at words 0) 0; first = word_at words 0 8; count = word_at words 0 9 }

unfoldable pub window_at : List ℕ → ℕ → WindowRow
window_at windows j = window_of_row (row_of window_width windows j)

-- ---- a body

-- `older` where it is an older caller's, who names no cap
pub record Row : Type 0 where
  pub older : Bool
  pub numbers : List Float
  pub words : List ℕ

abbrev pub row_with : Bool → List Float → List ℕ → Row
row_with older numbers words = record { older = older; numbers = numbers; words = words }

-- what the program holds of it
abbrev pub row_seen : BodyRow → Row
row_seen r = row_with r.older r.numbers.now r.words.now

-- numbers: the 19 of a scene in its order, then the fall record, its sum and its landed number
abbrev pub number_width : ℕ
number_width = 21

-- words: the number of its window; its age, low word first; then those of a scene in its order, "ground, model, stage, ground friction, flap
-- present, air state", and the cap, which an older row is without: what a later rule adds to these comes behind
unfoldable pub word_width : Bool → ℕ
word_width older = choose older 9 10

abbrev pub row_at : Bool → List Float → List ℕ → ℕ → Row
row_at older numbers words i = row_with older (row_of number_width numbers i) (row_of (word_width older) words i)

unfoldable pub is_whole : Row → Bool
is_whole row = eqb (length row.numbers) number_width && eqb (length row.words) (word_width row.older)

abbrev pub named_in : Row → ℕ
named_in row = word_at row.words 0 0

abbrev pub age_in : Row → ℕ
age_in row = wide_of (word_at row.words 0 1) (word_at row.words 0 2)

-- word k of a scene's
abbrev pub scene_word : Row → ℕ → ℕ
scene_word row = word_at (drop 3 row.words) 0

abbrev pub given_in : Row → MotionNumbers
given_in row = motion_from (number_at row.numbers) (scene_word row)

abbrev pub body_in : Row → BodyNumbers
body_in row = body_from (number_at row.numbers) (scene_word row)

-- "The midnight crate's older callers, who rely on 6 at 129, name 128 themselves"
unfoldable pub cap_in : Row → ℕ
cap_in row = choose row.older 128 (scene_word row 6)

abbrev pub rules_in : Row → Rules
rules_in row = with_cap (rules_from (number_at row.numbers) (scene_word row)) (cap_in row)

abbrev pub fall_in : Row → Fall
fall_in row = fall_of (number_at row.numbers 19) (number_at row.numbers 20)
