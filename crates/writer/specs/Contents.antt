-- The contents of a scene as they are written: how many there are of each, and what is not written as it was handed over.
use Rattle.std.specs.Prelude.{List, ℕ, length}
use Rattle.base.specs.Loop.{listed}
use Rattle.cover.specs.Cover.{box_count}
use Rattle.table_check.specs.Check.{state_count}
use Rattle.window.specs.Numbers.{with_air}
use Rattle.part_writer.specs.Bytes.{word_in}
use Rattle.files.specs.declared.Counts.{Counts}
use Rattle.files.specs.Contents.{Contents, contents_of}
use Rattle.files.specs.Places.{air_word}
unfoldable pub use Rattle.body_words.specs.Words.{is_absent, written_number}

-- how many states, boxes and words of the window there are
abbrev pub counts_by : ℕ → ℕ → ℕ → Counts
counts_by states boxes cells = record { states = states; boxes = boxes; cells = cells }

abbrev pub counts_for : Contents → Counts
counts_for c = counts_by (state_count c.records) (box_count c.shapes) (length c.cells)

-- the same contents as they are read back: the window's air state is the body's
abbrev pub as_written : Contents → Contents
as_written c =
    contents_of c.records c.shapes c.cells (with_air c.window (word_in c.words air_word))
    (listed (written_number c.numbers c.words) 19 0) c.words c.age
