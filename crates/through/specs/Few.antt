-- How the program makes a move: over a list with room for few boxes, and where more come with more room. No contract of a host's function
-- cites this file.
use Rattle.std.specs.Prelude.{Bool, List, ℕ, min, replicate, Float}
use Rattle.base.specs.Ask.{Ask, found, ◌>>=◌}
use Rattle.boxes.specs.declared.Aabb.{Aabb}
use Rattle.sweeps.specs.declared.Request.{Request}
use Rattle.sweeps.specs.declared.MoveResult.{MoveResult}
use Rattle.sweeps.specs.Lists.{cap_of, no_box}
use Rattle.sweeps.specs.Move.{move_over}
use Rattle.window.specs.declared.Pos.{Pos}
use Rattle.window.specs.Look.{Block}
use Rattle.ranges.specs.declared.Range.{Range}
use Rattle.collection.specs.Past.{collect_in_past}
use Rattle.through.specs.declared.Few.{Few}

abbrev pub few : ℕ
few = 42

-- how many boxes are collected where there is room for so many, under a cap of the rules
abbrev pub cap_within : ℕ → ℕ → ℕ
cap_within most cap = min (cap_of cap) most

unfoldable pub empty_few : Few
empty_few = record { boxes = replicate few no_box; count = 0 }

-- the move over what is collected from a range, past the layers of which `over` says so; `cap` is the cap in force
unfoldable pub move_from : ℕ → (ℕ → Bool) → (Pos → Ask Block) → List ℕ → List Float → Request → Aabb → Range → Ask MoveResult
move_from cap over look records shapes q area r = do
  boxes ← collect_in_past over cap look records shapes area r
  found (move_over boxes q.aabb q.delta q.step q.on_ground)
