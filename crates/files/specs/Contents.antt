-- What a scene is made of, as it is handed over, and as it stands in a file. Document 01's words stand in quotes.
use Rattle.std.specs.Prelude.{List, ℕ, ◌+◌, Float}
use Rattle.std.specs.Float.{binary32, binary64}
use Rattle.std.specs.Float.Ieee.{of_bits}
use Rattle.base.specs.Loop.{listed}
use Rattle.window.specs.declared.Window.{Window}
use Rattle.lent_words.specs.Words.{wide_of}
use Rattle.blocks.specs.declared.Part.{Part}
use Rattle.blocks.specs.Blocks.{part_word, record_part, box_part, window_part, cell_part}
use Rattle.files.specs.declared.Counts.{Counts}
use Rattle.files.specs.Places.{number_place, age_place, word_place}
use Rattle.files.specs.Files.{body_word, window_in, counts_of}

-- tables, the window with its lent words, and a body: 19 numbers and 7 words in the order of `bodies`, and its age
pub record Contents : Type 0 where
  pub records : List ℕ
  pub shapes : List Float
  pub cells : List ℕ
  pub window : Window
  pub numbers : List Float
  pub words : List ℕ
  pub age : ℕ

abbrev pub contents_of : List ℕ → List Float → List ℕ → Window → List Float → List ℕ → ℕ → Contents
contents_of records shapes cells w numbers words age =
    record { records = records; shapes = shapes; cells = cells; window = w; numbers = numbers; words = words; age = age }

-- ---- "Body payload, f64 low word first"

-- number k of the body's f64
unfoldable pub body_float : List ℕ → ℕ → Float
body_float file k = of_bits binary64 (wide_of (body_word file (number_place k)) (body_word file (number_place k + 1)))

abbrev pub numbers_in : List ℕ → List Float
numbers_in file = listed (body_float file) 19 0

-- word k of those behind the numbers and the age
abbrev pub late_word : List ℕ → ℕ → ℕ
late_word file k = body_word file (word_place k)

abbrev pub late_words : List ℕ → List ℕ
late_words file = listed (late_word file) 7 0

-- "age (low, high)"
unfoldable pub body_age : List ℕ → ℕ
body_age file = wide_of (body_word file age_place) (body_word file (age_place + 1))

-- ---- a scene's tables and cells

unfoldable pub words_of : List ℕ → Part → List ℕ
words_of file p = listed (part_word file p) p.words 0

-- the same words as f32
unfoldable pub singles_of : List ℕ → Part → List Float
singles_of file p = listed (λ i. of_bits binary32 (part_word file p i)) p.words 0

-- ---- all that a file holds

-- behind these counts
abbrev pub contents_behind : List ℕ → Counts → Contents
contents_behind file n =
    contents_of
    (words_of file (record_part n.states))
    (singles_of file (box_part n.states n.boxes))
    (words_of file (cell_part n.states n.boxes n.cells))
    (window_in file (window_part n.states n.boxes))
    (numbers_in file)
    (late_words file)
    (body_age file)

abbrev pub contents_in : List ℕ → Contents
contents_in file = contents_behind file (counts_of file)
