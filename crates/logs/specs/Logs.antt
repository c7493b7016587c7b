-- Which files are logs of a minute, and the events that they hold. Document 02's words stand in quotes.
use Rattle.std.specs.Prelude.{Bool, ◌&&◌, ◌||◌, List, [], ℕ, zero, suc, ◌+◌, ◌-◌, ◌*◌, ◌/◌, ◌%◌, min, eqb, ltb, leb, length, take}
use Rattle.base.specs.Choose.{choose}
use Rattle.base.specs.Every.{every}
use Rattle.base.specs.Loop.{listed}
use Rattle.blocks.specs.Blocks.{part_fits, part_word, log_part}
use Rattle.files.specs.Files.{counts_fit, counts_of, blocks_for, is_scene}
use Rattle.logs.specs.declared.CellSet.{CellSet}
use Rattle.logs.specs.declared.Event.{Event}
use Rattle.logs.specs.declared.Event.TheVariants as event
use Rattle.logs.specs.declared.Log.{Log}

-- ---- events: "30 events each of four words"; `word` is word i of the log's part, and event i has four from i × 4 on

-- "1 (tick, three words zero)"
unfoldable pub is_tick : (ℕ → ℕ) → ℕ → Bool
is_tick word i = eqb (word (i * 4)) 1 && eqb (word (i * 4 + 1)) 0 && eqb (word (i * 4 + 2)) 0 && eqb (word (i * 4 + 3)) 0

-- "2 (set a cell: packed position …; state; zero)", with no "position bits above 23"
unfoldable pub is_set : (ℕ → ℕ) → ℕ → Bool
is_set word i = eqb (word (i * 4)) 2 && ltb (word (i * 4 + 1)) 16777216 && eqb (word (i * 4 + 3)) 0

unfoldable pub event_fits : (ℕ → ℕ) → ℕ → Bool
event_fits word i = is_tick word i || is_set word i

-- "packed position counted from the window's origin, x in bits 0 to 7, y in 8 to 15, z in 16 to 23; state"
abbrev pub set_of : ℕ → ℕ → CellSet
set_of position state = record { x = position % 256; y = position / 256 % 256; z = position / 65536 % 256; state = state }

unfoldable pub event_at : (ℕ → ℕ) → ℕ → Event
event_at word i = choose (eqb (word (i * 4)) 1) event.Tick (event.Set (set_of (word (i * 4 + 1)) (word (i * 4 + 2))))

-- ---- "0 (end, once, the rest zero)"

-- the first event from i on whose number is 0, of so many; the one behind them all where there is none
unfoldable pub end_from : (ℕ → ℕ) → ℕ → ℕ → ℕ
end_from word zero i = i
end_from word (suc k) i = choose (eqb (word (i * 4)) 0) i (end_from word k (i + 1))

-- how many events come before the end, in so many blocks
abbrev pub event_count : (ℕ → ℕ) → ℕ → ℕ
event_count word blocks = end_from word (blocks * 30) 0

-- the end, at event e, stands in the last block: a log without one has "a missing end", and a block behind it is no rest that is zero
unfoldable pub end_fits : ℕ → ℕ → Bool
end_fits blocks e = leb (blocks * 30) (e + 30) && ltb e (blocks * 30)

-- "the rest zero"
unfoldable pub rest_of_log_zero : (ℕ → ℕ) → ℕ → ℕ → Bool
rest_of_log_zero word blocks e = every (blocks * 120 - e * 4) (λ k. eqb (word (e * 4 + k)) 0)

unfoldable pub events_fit : (ℕ → ℕ) → ℕ → ℕ → Bool
events_fit word blocks e = end_fits blocks e && (every e (event_fits word) && rest_of_log_zero word blocks e)

-- ---- "a scene, then blocks of kind 6"

-- a file's first blocks; nothing where they are more than a scene may have
unfoldable pub first_blocks : List ℕ → ℕ → List ℕ
first_blocks file blocks = choose (leb blocks 128) (take (blocks * 512) file) []

-- the scene at a file's start: as many blocks as its counts need; nothing where these are beyond their limits
unfoldable pub scene_in : List ℕ → List ℕ
scene_in file = choose (counts_fit file) (first_blocks file (blocks_for (counts_of file))) []

abbrev pub blocks_in : List ℕ → ℕ
blocks_in file = length file / 512

-- the log's words, where so many blocks are the scene's and so many the log's
abbrev pub log_word : List ℕ → ℕ → ℕ → ℕ → ℕ
log_word file first blocks = part_word file (log_part first blocks)

-- the log behind so many blocks of a scene
abbrev pub log_behind : List ℕ → ℕ → ℕ → Log
log_behind file scene blocks = record { scene = scene; blocks = blocks; events = event_count (log_word file scene blocks) blocks }

abbrev pub log_from : List ℕ → ℕ → Log
log_from file scene = log_behind file scene (blocks_in file - scene)

abbrev pub log_of : List ℕ → Log
log_of file = log_from file (blocks_in (scene_in file))

-- each block as documents 01 and 02 have it, by the rule of the file's first mark; and each event
unfoldable pub log_fits : List ℕ → Log → Bool
log_fits file l = part_fits file (log_part l.scene l.blocks) && events_fit (log_word file l.scene l.blocks) l.blocks l.events

-- not "more than 128 blocks of scene and log together", and each of them whole
unfoldable pub whole_log : List ℕ → Log → Bool
whole_log file l = leb (blocks_in file) 128 && (eqb (length file % 512) 0 && log_fits file l)

unfoldable pub is_log : List ℕ → Bool
is_log file = is_scene (scene_in file) && whole_log file (log_of file)

-- the events of a log, without its end
unfoldable pub events_by : List ℕ → Log → List Event
events_by file l = listed (event_at (log_word file l.scene l.blocks)) l.events 0

abbrev pub events_of : List ℕ → List Event
events_of file = events_by file (log_of file)

-- a log cut behind its first n events
abbrev pub first_of : Log → ℕ → Log
first_of l n = record { scene = l.scene; blocks = l.blocks; events = min n l.events }
