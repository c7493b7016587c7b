-- A scene as it is written. Document 01's and 02's words stand in quotes.
use Rattle.std.specs.Prelude.{Result, Ok, Err, List, ◌++◌, ◌≡◌, ℕ, ◌*◌, ◌<◌, eqb, length, Float}
use Rattle.base.specs.Choose.{choose}
use Rattle.base.specs.Loop.{stored}
use Rattle.cover.specs.Cover.{box_count}
use Rattle.table_check.specs.Check.{state_count}
use Rattle.window.specs.declared.Window.{Window}
use Rattle.bodies.specs.Lent.{body_refusal}
use Rattle.lent.specs.Lent.{lent_refusal}
use Rattle.lent_words.specs.Words.{window_words}
use Rattle.blocks.specs.Blocks.{body_part, record_part, box_part, window_part, cell_part}
use Rattle.files.specs.declared.Counts.{Counts}
use Rattle.files.specs.Files.{blocks_for}
use Rattle.part_writer.specs.Bytes.{part_bytes, word_in, bits_in}
use Rattle.base.specs.declared.Refusal.{Refusal}
use Rattle.base.specs.Refusals.{number_of}
use Rattle.files.specs.Contents.{Contents}
use Rattle.writer.specs.Contents.{counts_by, counts_for}
unfoldable pub use Rattle.body_words.specs.Words.{word_of_wide, body_word_of}
unfoldable pub use Rattle.scene_room.specs.Room.{room_for}

-- ---- the scene: "Kinds in order: one 1 (body), 2, 3, one 4, 5", by the table of parts that the reader goes by

unfoldable pub bytes_by : Contents → Counts → List ℕ
bytes_by c n =
    part_bytes body_part (body_word_of c.numbers c.words c.age n)
    ++ part_bytes (record_part n.states) (word_in c.records)
    ++ part_bytes (box_part n.states n.boxes) (bits_in c.shapes)
    ++ part_bytes (window_part n.states n.boxes) (word_in (window_words c.window))
    ++ part_bytes (cell_part n.states n.boxes n.cells) (word_in c.cells)

abbrev pub scene_bytes : Contents → List ℕ
scene_bytes c = bytes_by c (counts_for c)

abbrev pub scene_blocks : Contents → ℕ
scene_blocks c = blocks_for (counts_for c)

-- ---- "Refusals: 1 to 4 as for a step; then 12, more than 128 blocks; then 11, buffer too short"

-- a refusal, or else the next
abbrev pub or_else : ℕ → ℕ → ℕ
or_else refusal next = choose (eqb refusal 0) next refusal

-- 1 and 2, then 3 and 4, or 0
unfoldable pub contents_refusal : List ℕ → List Float → List ℕ → Window → List Float → List ℕ → ℕ
contents_refusal records shapes cells w numbers words = or_else (lent_refusal records shapes cells w) (body_refusal records numbers words)

abbrev pub refusal_of_contents : Contents → ℕ
refusal_of_contents c = contents_refusal c.records c.shapes c.cells c.window c.numbers c.words

-- 12, then 11, or 0
abbrev pub room_refusal : Contents → ℕ → ℕ
room_refusal c size = room_for (scene_blocks c) size

unfoldable pub scene_refusal : Contents → ℕ → ℕ
scene_refusal c size = or_else (refusal_of_contents c) (room_refusal c size)

-- ---- what a recorder is handed: refusal 0 and how many bytes were written; or a refusal, and 0

pub record Written : Type 0 where
  pub refusal : ℕ
  pub bytes : ℕ

abbrev pub bytes_told : Result ℕ Refusal → Written
bytes_told (Ok n) = record { refusal = 0; bytes = n }
bytes_told (Err e) = record { refusal = number_of e; bytes = 0 }

-- ---- what is handed back, by the refusal: the buffer, with "bytes past the scene" as they were, and how many bytes were written

-- a refusal writes nothing
unfoldable pub written_unless : ℕ → List ℕ → Contents → List ℕ
written_unless refusal out c = choose (eqb refusal 0) (stored out 0 (scene_bytes c)) out

unfoldable pub answer_by : ℕ → Contents → Written
answer_by refusal c = record { refusal = refusal; bytes = choose (eqb refusal 0) (scene_blocks c * 512) 0 }

-- write_scene
abbrev pub written_scene : List ℕ → Contents → List ℕ
written_scene out c = written_unless (scene_refusal c (length out)) out c

abbrev pub scene_answer : ℕ → Contents → Written
scene_answer size c = answer_by (scene_refusal c size) c

-- write_checked: for contents that were looked at before
abbrev pub written_checked : List ℕ → Contents → List ℕ
written_checked out c = written_unless (room_refusal c (length out)) out c

abbrev pub checked_answer : ℕ → Contents → Written
checked_answer size c = answer_by (room_refusal c size) c

-- what the program finds of the counts: a part alone that is longer than a scene has no room
abbrev pub CountedFor : List ℕ → List Float → List ℕ → Result Counts Refusal → Type 0
CountedFor records shapes cells (Ok n) = n ≡ counts_by (state_count records) (box_count shapes) (length cells)
CountedFor records shapes cells (Err e) = (number_of e ≡ 12) × (128 < blocks_for (counts_by (state_count records) (box_count shapes) (length cells)))
