-- The log of a minute as it is written behind the scene that a buffer begins with. Document 02's words stand in quotes.
use Rattle.std.specs.Prelude.{Bool, true, ◌&&◌, List, ℕ, ◌+◌, ◌*◌, ◌/◌, ◌%◌, eqb, length}
use Rattle.base.specs.Choose.{choose}
use Rattle.base.specs.Every.{every}
use Rattle.base.specs.Loop.{listed, stored}
use Rattle.blocks.specs.declared.Part.{Part}
use Rattle.blocks.specs.Blocks.{marked, log_part}
use Rattle.files.specs.Files.{is_scene}
use Rattle.part_writer.specs.Bytes.{part_bytes, word_in}
use Rattle.writer.specs.Written.{Written, room_for}
use Rattle.logs.specs.declared.Event.{Event}
use Rattle.logs.specs.Logs.{event_fits, event_at, scene_in, blocks_in}

-- ---- events as a recorder lends them: "four words" each, without the end

abbrev pub lent_event_count : List ℕ → ℕ
lent_event_count events = length events / 4

-- whole events, each as the reader asks for it
unfoldable pub lent_events_fit : List ℕ → Bool
lent_events_fit events = eqb (length events % 4) 0 && every (lent_event_count events) (event_fits (word_in events))

abbrev pub lent_events : List ℕ → List Event
lent_events events = listed (event_at (word_in events)) (lent_event_count events) 0

-- ---- where the log stands: behind the scene at the buffer's start, which has the new mark

unfoldable pub scene_there : List ℕ → Bool
scene_there out = marked true out && is_scene (scene_in out)

abbrev pub scene_blocks_in : List ℕ → ℕ
scene_blocks_in out = blocks_in (scene_in out)

-- "30 events each", and one more: the end
abbrev pub log_blocks : List ℕ → ℕ
log_blocks events = length events / 120 + 1

abbrev pub all_blocks : List ℕ → List ℕ → ℕ
all_blocks out events = scene_blocks_in out + log_blocks events

abbrev pub part_of : List ℕ → List ℕ → Part
part_of out events = log_part (scene_blocks_in out) (log_blocks events)

-- a word that is not lent is 0: "0 (end, once, the rest zero)"
abbrev pub log_bytes : List ℕ → List ℕ → List ℕ
log_bytes out events = part_bytes (part_of out events) (word_in events)

-- ---- 8 where there is no such scene or an event does not fit; then 12 for more than 128 blocks together, then 11 for a buffer too short

unfoldable pub log_refusal : List ℕ → List ℕ → ℕ
log_refusal out events = choose (scene_there out && lent_events_fit events) (room_for (all_blocks out events) (length out)) 8

-- ---- what is handed back: a refusal writes nothing, and bytes before and past the log keep their values

unfoldable pub written_log : List ℕ → List ℕ → List ℕ
written_log out events = choose (eqb (log_refusal out events) 0) (stored out (scene_blocks_in out * 512) (log_bytes out events)) out

-- how many bytes scene and log have together
unfoldable pub log_answer : List ℕ → List ℕ → Written
log_answer out events =
    record { refusal = log_refusal out events; bytes = choose (eqb (log_refusal out events) 0) (all_blocks out events * 512) 0 }
