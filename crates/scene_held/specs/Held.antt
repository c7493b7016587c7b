-- How the program holds a scene's words: its records and, behind them, its cells in one array, its shapes in another. How many there is room for, of so
-- much room, and what they come to. No contract of what a host calls cites this file; `all_held` of proofs/Arrays.antt shows that a scene has room for
-- all of them.
use Rattle.std.specs.Prelude.{List, ℕ, ◌-◌, ◌*◌, min, length, take, drop, Float}
use Rattle.blocks.specs.Blocks.{window_part}
use Rattle.files.specs.declared.Counts.{Counts}
use Rattle.files.specs.Files.{window_in}
use Rattle.files.specs.Contents.{Contents, contents_of, numbers_in, late_words, body_age}

abbrev pub held_records : Counts → ℕ → ℕ
held_records n room = min (n.states * 20) room

-- behind the records
abbrev pub held_cells : Counts → ℕ → ℕ
held_cells n room = min n.cells (room - held_records n room)

abbrev pub held_shapes : Counts → ℕ → ℕ
held_shapes n room = min (n.boxes * 6) room

abbrev pub held_contents : List ℕ → Counts → List ℕ → List Float → Contents
held_contents file n words singles =
    contents_of
    (take (held_records n (length words)) words)
    (take (held_shapes n (length singles)) singles)
    (take (held_cells n (length words)) (drop (held_records n (length words)) words))
    (window_in file (window_part n.states n.boxes))
    (numbers_in file)
    (late_words file)
    (body_age file)
