-- Which files are scenes, and the counts and the window that a scene holds. Document 01's words stand in quotes.
use Rattle.std.specs.Prelude.{Bool, not, ◌&&◌, ◌||◌, List, ℕ, ◌+◌, ◌*◌, eqb, leb, length}
use Rattle.window.specs.declared.Sizes.{Sizes}
use Rattle.window.specs.declared.Window.{Window}
use Rattle.window.specs.Window.{cell_count, column_count, sizes_fit}
use Rattle.lent_words.specs.Words.{window_from}
use Rattle.blocks.specs.declared.Part.{Part}
use Rattle.blocks.specs.Blocks.{part_word, part_fits, end_of, body_part, record_part, box_part, window_part, cell_part}
use Rattle.files.specs.Places.{number_place, word_place, states_place, boxes_place, flap_number, present_word, air_word}
use Rattle.files.specs.declared.Counts.{Counts}

-- ---- the body's words

abbrev pub body_word : List ℕ → ℕ → ℕ
body_word file i = part_word file body_part i

-- "flap present (both flap words zero if not)"
unfoldable pub flap_fits : List ℕ → Bool
flap_fits file =
    not (eqb (body_word file (word_place present_word)) 0)
    || (eqb (body_word file (number_place flap_number)) 0 && eqb (body_word file (number_place flap_number + 1)) 0)

-- ---- the window, whose air state is the body's

unfoldable pub window_in : List ℕ → Part → Window
window_in file p = window_from (part_word file p) (body_word file (word_place air_word))

-- ---- "counts and sizes within limits": "States: 1 to 4,096. Boxes: at most 16,384", "Window sizes: 1 to 64 each"

-- "state count, box count", and how many words a window of these sizes has: its cells, then one for each column
unfoldable pub counts_in : List ℕ → Sizes → Counts
counts_in file s = record { states = body_word file states_place; boxes = body_word file boxes_place; cells = cell_count s + column_count s }

-- the sizes stand behind the records and boxes
unfoldable pub sizes_in : List ℕ → Sizes
sizes_in file = (window_in file (window_part (body_word file states_place) (body_word file boxes_place))).sizes

unfoldable pub counts_fit : List ℕ → Bool
counts_fit file =
    leb 1 (body_word file states_place)
    && leb (body_word file states_place) 4096
    && leb (body_word file boxes_place) 16384
    && sizes_fit (sizes_in file)

abbrev pub counts_of : List ℕ → Counts
counts_of file = counts_in file (sizes_in file)

-- ---- which files are scenes

-- each block as its part has it
unfoldable pub parts_fit : List ℕ → Counts → Bool
parts_fit file n =
    part_fits file body_part
    && part_fits file (record_part n.states)
    && part_fits file (box_part n.states n.boxes)
    && part_fits file (window_part n.states n.boxes)
    && part_fits file (cell_part n.states n.boxes n.cells)

-- how many blocks the counts need
abbrev pub blocks_for : Counts → ℕ
blocks_for n = end_of (cell_part n.states n.boxes n.cells)

-- "1 to 128 blocks", "no block more than counts need"
unfoldable pub blocks_fit : List ℕ → Counts → Bool
blocks_fit file n = leb (blocks_for n) 128 && (eqb (length file) (blocks_for n * 512) && parts_fit file n)

unfoldable pub is_scene : List ℕ → Bool
is_scene file = counts_fit file && (flap_fits file && blocks_fit file (counts_of file))
