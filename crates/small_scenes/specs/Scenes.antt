-- The small scenes that document 01 marks P, as one table, and the one statement that each is as the document says.
use Rattle.std.specs.Prelude.{Bool, true, false, ◌&&◌, ◌≡◌, List, [], ◌∷◌, ◌++◌, ℕ, ◌+◌, eqb, length, Float}
use Rattle.std.specs.Bool.{beq}
use Rattle.std.specs.Float.{binary64}
use Rattle.std.specs.Float.Ieee.{to_bits}
use Rattle.base.specs.Ask.{Ask, refused, found}
use Rattle.boxes.specs.declared.Vec3.{Vec3}
use Rattle.boxes.specs.declared.Aabb.{Aabb}
use Rattle.boxes.specs.Boxes.{vec, offset_by, from_feet}
use Rattle.sweeps.specs.Entry.{MoveAnswer, move_over_list}
use Rattle.tables.specs.declared.LiquidKind.{LiquidKind}
use Rattle.tables.specs.declared.LiquidKind.TheVariants.{None, Water}
use Rattle.tables.specs.Tables.{kind_number}
use Rattle.table_check.specs.Check.{table_refusal}
use Rattle.window.specs.declared.Window.{Window}
use Rattle.window.specs.Window.{window_refusal}
use Rattle.window.specs.Look.{look_at}
use Rattle.connect.specs.Connect.{connected_state}
use Rattle.liquids.specs.Living.{living_liquid}
use Rattle.small_scenes.specs.Moves.{ratio, whole, mover, MoveScene, list_for, p1, p2, p3, p4, p5, p6}
use Rattle.small_scenes.specs.Palette.{records, shapes, air, full_cube, water0, water1, water4, oak_fence, nether_brick_fence, plain_wall, unregistered}
use Rattle.small_scenes.specs.Windows.{middle, around, cells_around, columns_but_north, flat, upright, flow_among}

-- A fence or wall of the palette in the middle of a window: whether the column to the north is loaded, what lies north, east, south, west and above; then the state that it comes to.
pub record JoinScene : Type 0 where
  pub it : ℕ
  pub column : ℕ
  pub north : ℕ
  pub east : ℕ
  pub south : ℕ
  pub west : ℕ
  pub above : ℕ
  pub comes-to : ℕ

-- Water of depth 0 in the middle of one layer of three cells a side, rows from the north and cells from the west: how it flows.
pub record FlowScene : Type 0 where
  pub cells : List ℕ
  pub flows : Vec3

-- A living body, 0.5 wide and 1 high, in a cell of water of depth 4 with air above, its feet this far above the cell's base: what it is in.
pub record WadeScene : Type 0 where
  pub feet : Float
  pub within : LiquidKind

-- one kind for each thing that the table speaks of
pub data Scene : Type 0 where
  move : MoveScene → Scene
  join : JoinScene → Scene
  flow : FlowScene → Scene
  wade : WadeScene → Scene

-- bit for bit
abbrev pub same : Float → Float → Bool
same a b = eqb (to_bits binary64 a) (to_bits binary64 b)

abbrev pub same_vec : Vec3 → Vec3 → Bool
same_vec a b = same a.x b.x && (same a.y b.y && same a.z b.z)

abbrev pub same_box : Aabb → Aabb → Bool
same_box a b = same_vec a.min b.min && same_vec a.max b.max

-- the move is not refused, goes as far as it should and to where that leads, and has its ground flag
abbrev pub moves : MoveAnswer → Vec3 → Bool → Bool
moves r moved after =
    eqb r.refusal 0
    && (same_vec r.result.moved moved
    && (same_box r.result.aabb (offset_by mover moved)
    && beq r.result.on_ground after))

-- nothing asked for is refused, and the answer passes the test
abbrev pub has_found : {A : Type 0} → (A → Bool) → Ask A → Bool
has_found test (found a) = test a
has_found test (refused k) = false

-- the window passes its check, and what is asked of it has the answer
abbrev pub is_found_in : {A : Type 0} → List ℕ → Window → (A → Bool) → Ask A → Bool
is_found_in cells window test ask = eqb (window_refusal cells window) 0 && has_found test ask

unfoldable pub holds : Scene → Bool
holds (move m) = moves (move_over_list 128 (list_for m.boxes) mover m.delta m.step m.on_ground) m.moved m.after
holds (join j) =
    let cells : List ℕ = cells_around j.column j.north j.east j.south j.west j.above j.it in
    is_found_in cells around (eqb j.comes-to) (connected_state (look_at cells around) records middle j.it)
holds (flow f) =
    let cells : List ℕ = f.cells ++ columns_but_north 1 in
    is_found_in cells flat (same_vec f.flows) (flow_among cells)
holds (wade b) =
    let cells : List ℕ = water4 ∷ air ∷ 1 ∷ [] in
    is_found_in cells upright (λ kind. eqb (kind_number kind) (kind_number b.within))
    (living_liquid (look_at cells upright) records (from_feet (vec (ratio 1 2) b.feet (ratio 1 2)) (ratio 1 2) (whole 1)))

unfoldable pub all_of_hold : List Scene → Bool
all_of_hold [] = true
all_of_hold (s ∷ ss) = holds s && all_of_hold ss

-- ---- the table, P1 to P10

unfoldable pub scenes : List Scene
scenes =
    move p1
    ∷ move p2
    ∷ move p3
    ∷ move p4
    ∷ move p5
    ∷ move p6
    -- P7: an oak fence joins north (1) and east (2) only
    ∷ join record { it = oak_fence; column = 0; north = air; east = full_cube; south = air; west = nether_brick_fence; above = air; comes-to = oak_fence + 1 + 2 }
    -- P8: a wall joined north (1) and south (4), unregistered above: no post (16)
    ∷ join record { it = plain_wall; column = 1; north = plain_wall; east = air; south = plain_wall; west = air; above = unregistered; comes-to = plain_wall + 1 + 4 }
    -- P9: depth 1 to the east, the rest walled
    ∷ flow record { cells = full_cube ∷ full_cube ∷ full_cube ∷ full_cube ∷ water0 ∷ water1 ∷ full_cube ∷ full_cube ∷ full_cube ∷ []; flows = vec (whole 1) (whole 0) (whole 0) }
    -- P10: feet at 0.5 wet, at 0.5625 dry
    ∷ wade record { feet = ratio 1 2; within = Water }
    ∷ wade record { feet = ratio 9 16; within = None }
    ∷ []

-- the statement: the tables pass their check, and every scene is as the document says
pub record SmallScenes : Type 0 where
  pub tables : table_refusal records shapes ≡ 0
  pub hold : all_of_hold scenes ≡ true
