-- How the program holds a scene's words: its records, its shapes, and its cells with room for a summary behind them, each in a place of its own. No
-- contract of a public function cites this file.
use Rattle.std.specs.Prelude.{List, ℕ, ◌*◌, min, Float, length, take}
use Rattle.bodies.specs.Lent.{motion_at}
use Rattle.groups.specs.Summary.{summed_words}
use Rattle.blocks.specs.Blocks.{window_part}
use Rattle.files.specs.declared.Counts.{Counts}
use Rattle.files.specs.Files.{window_in}
use Rattle.files.specs.Contents.{Contents, contents_of, numbers_in, late_words, body_age}
use Rattle.logs.specs.declared.Event.{Event}
use Rattle.minute_state.specs.Minute.{State, minute}
use Rattle.logged.specs.Logged.{lent_of}

-- what stands first in the three places, with the summary's words among the cells
abbrev pub logged_contents : List ℕ → Counts → List ℕ → List Float → List ℕ → Contents
logged_contents scene n records singles words =
    contents_of
    (take (min (n.states * 20) (length records)) records)
    (take (min (n.boxes * 6) (length singles)) singles)
    (take (min (summed_words (window_in scene (window_part n.states n.boxes)).sizes) (length words)) words)
    (window_in scene (window_part n.states n.boxes))
    (numbers_in scene)
    (late_words scene)
    (body_age scene)

-- the minute over them
unfoldable pub held_minute : Contents → List Event → State
held_minute c events = minute (lent_of c) c.cells (motion_at c.numbers c.words) c.age events
