-- The Rust's `liquid_flow`: how a liquid in a cell flows, by what is around it.
use Rattle.std.specs.Prelude.{Bool, true, false, not, ◌&&◌, Option, Some, None, List, ℕ, leb, Float}
use Rattle.base.specs.Choose.{choose}
use Rattle.base.specs.Ask.{Ask, found, ◌>>=◌, asking}
use Rattle.boxes.specs.declared.Vec3.{Vec3}
use Rattle.boxes.specs.Vectors.{zero_vec}
use Rattle.cover.specs.declared.Side.{Side}
use Rattle.tables.specs.declared.LiquidState.{LiquidState}
use Rattle.window.specs.declared.Pos.{Pos}
use Rattle.window.specs.Look.{Block, stepped}
use Rattle.flow.specs.Liquid.{alike, liquid_held, blocks_liquid_flow}
pub use Rattle.flow_sides.specs.Sides.{side_step, six64}
unfoldable pub use Rattle.flow_sides.specs.Sides.{step_beside, step_below, step_above, unit_to, effective_depth, difference_to, difference_below, flowed_by, normalised_flow, side_of}

-- ---- by how much the liquid on a side is deeper

-- a liquid of the same kind beside; otherwise, where the side stops no flow, one of the same kind below the side
unfoldable pub difference : (Pos → Ask Block) → List ℕ → Pos → LiquidState → Side → Ask (Option Float)
difference look records p state side = do
  other ← liquid_held look records (stepped p (step_beside side))
  choose (alike other.kind state.kind)
      (found (Some (difference_to (effective_depth other.depth) (effective_depth state.depth))))
      (do
        stopped ← blocks_liquid_flow look records (stepped p (step_beside side))
        choose stopped (found None)
            (do
              under ← liquid_held look records (stepped p (step_below side))
              choose (alike under.kind state.kind)
                  (found (Some (difference_below (effective_depth under.depth) (effective_depth state.depth))))
                  (found None)))

-- ---- one side

-- a falling liquid beside a wall: the side, or else the cell above it; once one is found no other is asked for
unfoldable pub walled_by : (Pos → Ask Block) → List ℕ → Pos → LiquidState → Side → Bool → Ask Bool
walled_by look records p state side walled =
    choose (leb 8 state.depth && not walled)
    (do
      stopped ← blocks_liquid_flow look records (stepped p (step_beside side))
      choose stopped (found true) (blocks_liquid_flow look records (stepped p (step_above side))))
    (found walled)

-- a flow while its sides are gone through: walled where it falls beside a wall
pub record FlowSoFar : Type 0 where
  pub flow : Vec3
  pub walled : Bool

unfoldable pub side_flow : (Pos → Ask Block) → List ℕ → Pos → LiquidState → Side → FlowSoFar → Ask FlowSoFar
side_flow look records p state side f = do
  gap ← difference look records p state side
  walled ← walled_by look records p state side f.walled
  found record { flow = flowed_by f.flow side gap; walled = walled }

-- ---- the four sides

abbrev pub side_turn : (Pos → Ask Block) → List ℕ → Pos → LiquidState → ℕ → FlowSoFar → Ask FlowSoFar
side_turn look records p state k f = side_flow look records p state (side_of k) f

unfoldable pub liquid_flow : (Pos → Ask Block) → List ℕ → Pos → LiquidState → Ask Vec3
liquid_flow look records p state = do
  f ← asking (side_turn look records p state) 4 0 record { flow = zero_vec; walled = false }
  found (normalised_flow f.flow f.walled)
