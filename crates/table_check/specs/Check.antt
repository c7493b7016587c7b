-- The table check, refusal 1: the rules and limits that document 01 sets for lent tables, row by row, with its words in quotes.
use Rattle.std.specs.Prelude.{Bool, false, ◌&&◌, ◌||◌, List, ℕ, ◌+◌, ◌/◌, ◌%◌, length, leb, ltb, eqb, pos, Float}
use Rattle.std.specs.Float.{fin}
use Rattle.std.specs.Float.Ieee.{le}
use Rattle.base.specs.Choose.{choose}
use Rattle.base.specs.Every.{every}
use Rattle.floats.specs.Numbers.{is_within_limit}
use Rattle.cover.specs.Cover.{box_count, box_number, full_faces}
use Rattle.tables.specs.Tables.{word_at, is_registered, friction_at, state_boxes}

-- ---- counts: "Records and boxes come whole." "States: 1 to 4,096. Boxes: at most 16,384"

abbrev pub state_count : List ℕ → ℕ
state_count records = length records / 20

unfoldable pub table_counts_fit : List ℕ → List Float → Bool
table_counts_fit records shapes =
    eqb (length records % 20) 0
    && eqb (length shapes % 6) 0
    && leb 1 (state_count records)
    && leb (state_count records) 4096
    && leb (box_count shapes) 16384

-- ---- the words of a state's record

-- 16: 1 * 2 ^ 4
abbrev pub sixteen : Float
sixteen = fin false 1 (pos 4)

-- "depth 0 to 15, 0 where none"
abbrev pub most_depth : ℕ → ℕ
most_depth liquid = choose (eqb liquid 0) 0 15

-- words 0 to 6
unfoldable pub words_fit : List ℕ → ℕ → Bool
words_fit records state =
    -- "bit 0 registered, bit 1 blocks motion": "Other bits of word 0 are zero."
    ltb (word_at records state 0) 4
    -- "friction, f32 bits, size at most 16"
    && is_within_limit (friction_at records state) sixteen
    -- "liquid 0 none, 1 water, 2 lava; depth"
    && leb (word_at records state 2) 2
    && leb (word_at records state 3) (most_depth (word_at records state 2))
    -- "connects as 0 nothing, 1 fence, 2 nether brick fence, 3 thin, 4 wall"
    && leb (word_at records state 4) 4
    -- "gate 0 none, 1 spans x, 2 spans z"
    && leb (word_at records state 5) 2
    -- "wall post 0 never, 1 always, 2 to 5 facing north, east, south, west"
    && leb (word_at records state 6) 5

-- words 7 and 8: boxes at most "16 for one state"; "word 7 plus word 8 is at most the number of boxes"
unfoldable pub state_boxes_fit : List ℕ → List Float → ℕ → Bool
state_boxes_fit records shapes state = leb (word_at records state 8) 16 && leb (word_at records state 7 + word_at records state 8) (box_count shapes)

-- so many words of a record are zero, from the one named on
unfoldable pub all_zero : List ℕ → ℕ → ℕ → ℕ → Bool
all_zero records state from count = every count (λ i. eqb (word_at records state (from + i)) 0)

-- "A connecting record's transitions and posts lead to registered records of the same word 4"
unfoldable pub leads_on : List ℕ → ℕ → ℕ → Bool
leads_on records kind target = is_registered records target && eqb (word_at records target 4) kind

unfoldable pub all_lead_on : List ℕ → ℕ → ℕ → Bool
all_lead_on records state kind = every 10 (λ i. leads_on records kind (word_at records state (9 + i)))

-- "posts of a fence or thin record are its own index"
unfoldable pub posts_stay : List ℕ → ℕ → Bool
posts_stay records state = eqb (word_at records state 17) state && eqb (word_at records state 18) state

-- words 9 to 16, "transitions north, east, south, west: off, on", and 17 and 18, "post off, on": those of "a connecting record" lead on, and the
-- posts of every one but a wall stay; "a record connecting as nothing has words 9 to 18 zero"
unfoldable pub links_fit : List ℕ → ℕ → Bool
links_fit records state =
    choose (eqb (word_at records state 4) 0)
    (all_zero records state 9 10)
    (all_lead_on records state (word_at records state 4) && (eqb (word_at records state 4) 4 || posts_stay records state))

-- "Word 19 equals what face cover gives."
unfoldable pub faces_fit : List ℕ → List Float → ℕ → Bool
faces_fit records shapes state = eqb (word_at records state 19) (full_faces (state_boxes records shapes state))

-- "An unregistered record is all zero."
unfoldable pub registered_or_zero : List ℕ → ℕ → Bool
registered_or_zero records state = is_registered records state || all_zero records state 0 20

unfoldable pub record_fits : List ℕ → List Float → ℕ → Bool
record_fits records shapes state =
    words_fit records state
    && state_boxes_fit records shapes state
    && links_fit records state
    && faces_fit records shapes state
    && registered_or_zero records state

-- ---- boxes: "six f32 (x0 y0 z0 x1 y1 z1), finite, size at most 4, min at or below max", also those that no record uses

-- 4: 1 * 2 ^ 2
abbrev pub four : Float
four = fin false 1 (pos 2)

unfoldable pub side_fits : Float → Float → Bool
side_fits min max = is_within_limit min four && is_within_limit max four && le min max

unfoldable pub box_fits : List Float → ℕ → Bool
box_fits shapes k =
    side_fits (box_number shapes k 0) (box_number shapes k 3)
    && side_fits (box_number shapes k 1) (box_number shapes k 4)
    && side_fits (box_number shapes k 2) (box_number shapes k 5)

-- ---- the check

unfoldable pub tables_fit : List ℕ → List Float → Bool
tables_fit records shapes =
    table_counts_fit records shapes
    && every (state_count records) (record_fits records shapes)
    && every (box_count shapes) (box_fits shapes)

abbrev pub table_refusal : List ℕ → List Float → ℕ
table_refusal records shapes = choose (tables_fit records shapes) 0 1
