-- Module 5: the Rust's `connected_state`. `look` is its `block_at`: it answers what lies in a cell (`none` where that is not loaded), or refuses
-- a cell outside the window. The first refusal ends the asking. What joins what is passed on, since it is read beside the asking.
use Rattle.std.specs.Prelude.{Bool, not, ◌||◌, List, ℕ, eqb, pos, negsuc}
use Rattle.base.specs.Choose.{choose}
use Rattle.base.specs.Ask.{Ask, found, ◌>>=◌}
use Rattle.cover.specs.declared.Side.{Side}
use Rattle.cover.specs.declared.Side.TheVariants.{North, East, South, West}
use Rattle.window.specs.declared.Pos.{Pos}
use Rattle.window.specs.declared.CellStep.{CellStep}
use Rattle.window.specs.Look.{Block, stepped}
use Rattle.joining.specs.declared.Joined.{Joined}
pub use Rattle.joining.specs.Joining.{connects}
unfoldable pub use Rattle.joining.specs.Joining.{connect_kind, is_fence, is_thin_or_wall, opposite_face, gate_decides, gate_joins, registered_connects, side_word, transition, transitions, post_transition, straight, raises, raised_by}

-- ---- sides

abbrev pub way_to : Side → CellStep
way_to North = record { x = pos 0; y = pos 0; z = negsuc 0 }
way_to East = record { x = pos 1; y = pos 0; z = pos 0 }
way_to South = record { x = pos 0; y = pos 0; z = pos 1 }
way_to West = record { x = negsuc 0; y = pos 0; z = pos 0 }

abbrev pub upwards : CellStep
upwards = record { x = pos 0; y = pos 1; z = pos 0 }

-- ---- the asking: north, east, south, west, and for a wall the cell above

unfoldable pub joins : (Pos → Ask Block) → List ℕ → Pos → ℕ → Side → Ask Bool
joins look records p kind side = do
  neighbour ← look (stepped p (way_to side))
  found (connects records kind side neighbour)

unfoldable pub post : (Pos → Ask Block) → List ℕ → Pos → Joined → Ask Bool
post look records p j = do
  above ← look (stepped p upwards)
  found (not (straight j) || raised_by records j above)

-- what connects as this kind
unfoldable pub beside_neighbours : (Pos → Ask Block) → List ℕ → Pos → ℕ → ℕ → Ask ℕ
beside_neighbours look records p kind state = do
  north ← joins look records p kind North
  east ← joins look records p kind East
  south ← joins look records p kind South
  west ← joins look records p kind West
  let j : Joined = record { north = north; east = east; south = south; west = west }
  choose (eqb kind 4)
      (do
        on ← post look records p j
        found (post_transition records on (transitions records j state)))
      (found (transitions records j state))

-- what connects as nothing stays as it is, and asks for no cell
unfoldable pub connected_state : (Pos → Ask Block) → List ℕ → Pos → ℕ → Ask ℕ
connected_state look records p state =
    choose (eqb (connect_kind records state) 0) (found state) (beside_neighbours look records p (connect_kind records state) state)
