-- Demand 3, over the definitions of the move: "an accepted move whose box corners, delta, step height and block shapes are multiples of 1/4096 within
-- document 01's limits, all boxes of positive size, shapes inside their cell or up to half a block above it, and no overlap at the start. Then the box
-- ends overlapping no block box at all, where the block boxes, at start and end, are those of every cell whose shape the look-up settles without leaving
-- the window, collected or not; in a move over a list they are the list's own, and no cell is needed. Where no step-up is kept, the axes go y, x, z, and
-- each travels towards its share of delta as far as it can with no overlap at any multiple of 1/4096 on the way. Where one is kept, the end is free too."
-- A settled cell may lie at any height: a column that is not loaded is solid without end, and above and below the world there is the air state's shape.
-- The limits are those that an accepted move was held to. `ListDemand` and `WindowDemand` are the two theorems; proofs/OverList and proofs/Through prove
-- them. `T` of a test says that it is true, and `Block b` that b is one of the block boxes.
use Rattle.std.specs.Prelude.{◌≡◌, Bool, true, false, not, ◌&&◌, ◌||◌, ℕ, T, ℤ, pos, negsuc, ◌+ℤ◌, ◌-ℤ◌, Float}
use mathlib.Core.List.{List, Memᴰ}
use Rattle.std.specs.Float.{fin, binary64}
use Rattle.std.specs.Float.Ieee.{of_bits, add, sub, lt, le, eq}
use Rattle.base.specs.Choose.{choose}
use Rattle.base.specs.Ask.{Ask, refused, found}
use Rattle.base.specs.Every.{every}
use Rattle.floats.specs.Numbers.{zero64, one64}
use Rattle.boxes.specs.declared.Vec3.{Vec3}
use Rattle.boxes.specs.declared.Aabb.{Aabb}
use Rattle.sweeps.specs.declared.Swept.{Swept}
use Rattle.sweeps.specs.declared.BoxList.{BoxList}
use Rattle.sweeps.specs.declared.MoveResult.{MoveResult}
use Rattle.boxes.specs.Boxes.{vec, offset_by, overlap}
use Rattle.sweeps.specs.Lists.{cap_of, list_of}
use Rattle.sweeps.specs.Move.{clip_sequence, stepped_up, flat_square, tries_step}
use Rattle.sweeps.specs.Entry.{move_over_list}
use Rattle.cover.specs.Cover.{box_count}
use Rattle.tables.specs.Tables.{boxes_at, box_at}
use Rattle.window.specs.declared.Pos.{Pos}
use Rattle.window.specs.declared.Window.{Window}
use Rattle.window.specs.Look.{look_at}
use Rattle.ranges.specs.declared.Range.{Range}
use Rattle.ranges.specs.Ranges.{place_at}
use Rattle.collection.specs.Collect.{CellShape, cube, boxes as of_state, to_aabb, cell_shape, range_of, collect_block_boxes, swept_area}
use Rattle.collection.specs.Settled.{settled_boxes}
use Rattle.moves.specs.Answers.{move_entry}
use Rattle.grid.specs.Grid.{on_grid, vec_on_grid, is_proper, are_proper, is_free}

-- ---- what is demanded

-- a box that overlaps no block box, and one that overlaps some
abbrev pub Free : (Aabb → Type 0) → Aabb → Type 0
Free Block a = (b : Aabb) → Block b → T (not (overlap a b))

pub record Struck (Block : Aabb → Type 0) (a : Aabb) : Type 0 where
  pub by : Aabb
  pub is : Block by
  pub hits : T (overlap a by)

-- x is between a and b, which may stand in either order
unfoldable pub between : Float → Float → Float → Bool
between a b x = (le a x && le x b) || (le b x && le x a)

-- 1/4096, and a way longer by it, towards the share
abbrev pub grid_unit : Float
grid_unit = fin false 1 (negsuc 11)

unfoldable pub further : Float → Float → Float
further way share = choose (lt zero64 share) (add binary64 way grid_unit) (sub binary64 way grid_unit)

-- On one axis, where `at s` is the box after the way s along it: the way taken is a multiple of 1/4096 towards the share; no multiple on it,
-- both ends counted, overlaps; and if it falls short of the share, one multiple further would overlap.
pub record Travels (Block : Aabb → Type 0) (at : Float → Aabb) (share way : Float) : Type 0 where
  pub exact : T (on_grid way)
  pub towards : T (between zero64 share way)
  pub clear : (s : Float) → T (on_grid s) → T (between zero64 way s) → Free Block (at s)
  pub far : T (not (eq way share)) → Struck Block (at (further way share))

-- a box moved along one axis, as the move does it
abbrev pub moved_x : Aabb → Float → Aabb
moved_x b s = offset_by b (vec s zero64 zero64)

abbrev pub moved_y : Aabb → Float → Aabb
moved_y b s = offset_by b (vec zero64 s zero64)

abbrev pub moved_z : Aabb → Float → Aabb
moved_z b s = offset_by b (vec zero64 zero64 s)

-- y, then x, then z, each as far as it can
pub record Farthest (Block : Aabb → Type 0) (aabb : Aabb) (delta : Vec3) (r : MoveResult) : Type 0 where
  pub y : Travels Block (moved_y aabb) delta.y r.moved.y
  pub x : Travels Block (moved_x (moved_y aabb r.moved.y)) delta.x r.moved.x
  pub z : Travels Block (moved_z (moved_x (moved_y aabb r.moved.y) r.moved.x)) delta.z r.moved.z
  pub end : r.aabb ≡ moved_z (moved_x (moved_y aabb r.moved.y) r.moved.x) r.moved.z

pub record Demand3 (Block : Aabb → Type 0) (step_kept : Bool) (aabb : Aabb) (delta : Vec3) (r : MoveResult) : Type 0 where
  pub free : Free Block r.aabb
  pub farthest : step_kept ≡ false → Farthest Block aabb delta r

-- a step-up is kept: one is tried, and gets strictly farther horizontally
unfoldable pub keeps_step : List Aabb → Aabb → Vec3 → Float → Bool → Bool
keeps_step boxes aabb delta step_height was_on_ground =
    let first : Swept = clip_sequence boxes aabb delta in
    tries_step delta step_height was_on_ground first.moved && lt (flat_square first.moved) (flat_square (stepped_up boxes aabb delta step_height).moved)

-- ---- a move over a list: the block boxes are the list's own

unfoldable pub list_on_grid : BoxList → Aabb → Vec3 → Float → Bool
list_on_grid list aabb delta step_height =
    is_proper aabb && (are_proper (list_of list) && (vec_on_grid delta && (on_grid step_height && is_free aabb (list_of list))))

abbrev pub ListDemand : Type 0
ListDemand =
    (cap : ℕ) (list : BoxList) (aabb : Aabb) (delta : Vec3) (step_height : Float) (was_on_ground : Bool)
    → T (list_on_grid list aabb delta step_height)
    → (move_over_list cap list aabb delta step_height was_on_ground).refusal ≡ 0
    → Demand3 (λ b. Memᴰ b (list_of list)) (keeps_step (list_of list) aabb delta step_height was_on_ground) aabb delta
    (move_over_list cap list aabb delta step_height was_on_ground).result

-- ---- a move through a window: the block boxes are those of every cell whose shape the look-up settles without leaving the window

pub record IsSettled (records : List ℕ) (shapes : List Float) (cells : List ℕ) (w : Window) (b : Aabb) : Type 0 where
  pub cell : Pos
  pub is : Memᴰ b (settled_boxes (look_at cells w) records shapes cell)

-- 1.5
abbrev pub cell_and_half : Float
cell_and_half = of_bits binary64 4609434218613702656

-- "inside their cell or up to half a block above it"
abbrev pub is_in_cell : Aabb → Bool
is_in_cell b =
    (le zero64 b.min.x && (le zero64 b.min.y && le zero64 b.min.z))
    && (le b.max.x one64 && (le b.max.y cell_and_half && le b.max.z one64))

-- every box of a shape passes a test
unfoldable pub shape_passes : (Aabb → Bool) → List Float → Bool
shape_passes test shape = every (box_count shape) (λ k. test (to_aabb (box_at shape k)))

-- what a cell comes to, beside its neighbours: an unloaded one is a full cube, and one that the look-up does not settle has no shape
abbrev pub settled_passes : (Aabb → Bool) → List Float → Ask CellShape → Bool
settled_passes test shapes (refused k) = true
settled_passes test shapes (found cube) = true
settled_passes test shapes (found (of_state first count)) = shape_passes test (boxes_at shapes first count)

-- a test of the cell of every column of the window at one height
abbrev pub cell_from : Window → ℕ → ℤ → ℕ → Pos
cell_from w x y z = record { x = w.origin.x +ℤ pos x; y = y; z = w.origin.z +ℤ pos z }

unfoldable pub every_column : Window → (Pos → Bool) → ℤ → Bool
every_column w test y = every w.sizes.x (λ x. every w.sizes.z (λ z. test (cell_from w x y z)))

-- Above the world the cells of a column all come to the same, and so do those below it from the second on: the first has the world's lowest cell above
-- it, which a wall asks for.
abbrev pub above_world : Window → ℤ
above_world w = w.highest +ℤ pos 1

abbrev pub below_world : Window → ℤ
below_world w = w.lowest -ℤ pos 1

abbrev pub deep_below : Window → ℤ
deep_below w = w.lowest -ℤ pos 2

-- So a test at the window's heights and at these three is a test of what every cell comes to, at any height.
unfoldable pub every_height : Window → (Pos → Bool) → Bool
every_height w test =
    every w.sizes.y (λ y. every_column w test (w.origin.y +ℤ pos y))
    && (every_column w test (above_world w) && (every_column w test (below_world w) && every_column w test (deep_below w)))

abbrev pub shapes_pass : (Aabb → Bool) → List ℕ → List Float → List ℕ → Window → Bool
shapes_pass test records shapes cells w = every_height w (λ p. settled_passes test shapes (cell_shape (look_at cells w) records p))

abbrev pub shapes_on_grid : List ℕ → List Float → List ℕ → Window → Bool
shapes_on_grid records shapes cells w = shapes_pass (λ b. is_proper b && is_in_cell b) records shapes cells w

-- a test of every cell of a range
unfoldable pub every_place : Range → (Pos → Bool) → Bool
every_place r test = every r.y.count (λ y. every r.x.count (λ x. every r.z.count (λ z. test (place_at r x y z))))

-- No overlap, by the cells that a collection over the box goes through: with shapes as above no other cell's box reaches it. `start-clear` and
-- `start-tests` of proofs/Through say that this is no overlap with any block box at all.
abbrev pub is_free_in : List ℕ → List Float → List ℕ → Window → Aabb → Bool
is_free_in records shapes cells w a = every_place (range_of a) (λ p. is_free a (settled_boxes (look_at cells w) records shapes p))

unfoldable pub window_on_grid : List ℕ → List Float → List ℕ → Window → Aabb → Vec3 → Float → Bool
window_on_grid records shapes cells w aabb delta step_height =
    is_proper aabb && (shapes_on_grid records shapes cells w && (vec_on_grid delta && (on_grid step_height && is_free_in records shapes cells w aabb)))

-- a step-up is kept, among the boxes that the move collects
abbrev pub keeps_among : Ask (List Aabb) → Aabb → Vec3 → Float → Bool → Bool
keeps_among (refused n) aabb delta step_height was_on_ground = false
keeps_among (found boxes) aabb delta step_height was_on_ground = keeps_step boxes aabb delta step_height was_on_ground

unfoldable pub keeps_step_in : ℕ → List ℕ → List Float → List ℕ → Window → Aabb → Vec3 → Float → Bool → Bool
keeps_step_in cap records shapes cells w aabb delta step_height was_on_ground =
    keeps_among (collect_block_boxes (cap_of cap) (look_at cells w) records shapes (swept_area aabb delta step_height)) aabb delta step_height was_on_ground

abbrev pub WindowDemand : Type 0
WindowDemand =
    (cap : ℕ) (records : List ℕ) (shapes : List Float) (cells : List ℕ) (w : Window) (aabb : Aabb) (delta : Vec3) (step_height : Float) (was_on_ground : Bool)
    → T (window_on_grid records shapes cells w aabb delta step_height)
    → (move_entry cap records shapes cells w aabb delta step_height was_on_ground).refusal ≡ 0
    → Demand3 (IsSettled records shapes cells w) (keeps_step_in cap records shapes cells w aabb delta step_height was_on_ground) aabb delta
    (move_entry cap records shapes cells w aabb delta step_height was_on_ground).result
