-- What liquid a cell holds and whether it stops a flow: the Rust's `liquid_at` and `blocks_liquid_flow`. `look` is its `block_at`: it answers
-- what lies in a cell (`none` where that is not loaded), or refuses a cell outside the window. The first refusal ends the asking.
-- The Rust's `Option<LiquidState>` is a `LiquidState` here, whose kind is `None` where there is no liquid.
use Rattle.std.specs.Prelude.{Bool, true, false, List, ℕ, leb}
use Rattle.base.specs.Choose.{choose}
use Rattle.base.specs.Ask.{Ask, refused, found, ◌>>=◌}
use Rattle.tables.specs.declared.LiquidKind.{LiquidKind}
use Rattle.tables.specs.declared.LiquidKind.TheVariants.{None, Water, Lava}
use Rattle.tables.specs.declared.LiquidState.{LiquidState}
use Rattle.tables.specs.Tables.{is_registered, blocks_motion, liquid_at}
use Rattle.window.specs.declared.Pos.{Pos}
use Rattle.window.specs.Look.{Block, none, some}

-- ---- kinds

abbrev pub is_water : LiquidKind → Bool
is_water None = false
is_water Water = true
is_water Lava = false

abbrev pub is_lava : LiquidKind → Bool
is_lava None = false
is_lava Water = false
is_lava Lava = true

abbrev pub is_liquid : LiquidKind → Bool
is_liquid None = false
is_liquid Water = true
is_liquid Lava = true

-- two liquids of one kind; where there is no liquid nothing is alike
unfoldable pub alike : LiquidKind → LiquidKind → Bool
alike None other = false
alike Water other = is_water other
alike Lava other = is_lava other

abbrev pub no_liquid : LiquidState
no_liquid = record { kind = None; depth = 0 }

-- depth 8 or more is falling
unfoldable pub is_falling : LiquidState → Bool
is_falling state = choose (is_liquid state.kind) (leb 8 state.depth) false

-- ---- cells

-- none where it is not loaded, and none where the state is not registered or no liquid
abbrev pub liquid_in : List ℕ → Block → LiquidState
liquid_in records none = no_liquid
liquid_in records (some state) = liquid_at records state

abbrev pub liquid_told : List ℕ → Ask Block → Ask LiquidState
liquid_told records asked = do
  block ← asked
  found (liquid_in records block)

unfoldable pub liquid_held : (Pos → Ask Block) → List ℕ → Pos → Ask LiquidState
liquid_held look records p = liquid_told records (look p)

-- what is not loaded stops a flow; a registered state does where it blocks motion; an unregistered one is refused with 7, where the Rust panics
abbrev pub stops_flow : List ℕ → Block → Ask Bool
stops_flow records none = found true
stops_flow records (some state) = choose (is_registered records state) (found (blocks_motion records state)) (refused 7)

unfoldable pub blocks_liquid_flow : (Pos → Ask Block) → List ℕ → Pos → Ask Bool
blocks_liquid_flow look records p = do
  block ← look p
  stops_flow records block
