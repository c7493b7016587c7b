-- What stands in a cell, as physics.rs has it in `any_block_box`: the boxes of the state that a cell has beside its neighbours, in the world's
-- coordinates. `look` is its `block_at`; what is looked up outside the window is refused.
use Rattle.std.specs.Prelude.{List, [], ◌∷◌, ℕ, Float}
use Rattle.std.specs.Float.{binary64}
use Rattle.std.specs.Float.Ieee.{of_int}
use Rattle.base.specs.Choose.{choose}
use Rattle.base.specs.Loop.{listed}
use Rattle.base.specs.Ask.{Ask, found, ◌>>=◌}
use Rattle.floats.specs.Numbers.{one64}
use Rattle.boxes.specs.declared.Vec3.{Vec3}
use Rattle.boxes.specs.declared.Aabb.{Aabb}
use Rattle.boxes.specs.Boxes.{vec, plus, box, offset_by}
use Rattle.cover.specs.Cover.{box_count}
use Rattle.tables.specs.declared.ShapeBox.{ShapeBox}
use Rattle.tables.specs.Tables.{word_at, is_registered, boxes_at, box_at}
use Rattle.window.specs.declared.Pos.{Pos}
use Rattle.window.specs.Look.{Block, none, some}
use Rattle.connect.specs.Connect.{connected_state}

-- pos.as_dvec3()
abbrev pub origin_of : Pos → Vec3
origin_of p = vec (of_int binary64 p.x) (of_int binary64 p.y) (of_int binary64 p.z)

-- Aabb::new(origin, origin + DVec3::ONE)
abbrev pub cube_at : Pos → Aabb
cube_at p = box (origin_of p) (plus (origin_of p) (vec one64 one64 one64))

-- the Rust's to_aabb
abbrev pub to_aabb : ShapeBox → Aabb
to_aabb b = box (vec b.x0 b.y0 b.z0) (vec b.x1 b.y1 b.z1)

-- block_collision_aabbs(state).map(|b| b.offset(origin)), for the part of the shapes that is the state's
abbrev pub shape_aabbs : List Float → Pos → List Aabb
shape_aabbs shape p = listed (λ k. offset_by (to_aabb (box_at shape k)) (origin_of p)) (box_count shape) 0

-- what stands in a cell: a full cube, or the boxes of a state, by words 7 and 8
pub data CellShape : Type 0 where
  cube : CellShape
  boxes : ℕ → ℕ → CellShape

abbrev pub aabbs_of : List Float → Pos → CellShape → List Aabb
aabbs_of shapes p cube = cube_at p ∷ []
aabbs_of shapes p (boxes first count) = shape_aabbs (boxes_at shapes first count) p

-- a registered state has the shape that it has beside its neighbours
unfoldable pub connected_shape : (Pos → Ask Block) → List ℕ → Pos → ℕ → Ask CellShape
connected_shape look records p id = do
  state ← connected_state look records p id
  found (boxes (word_at records state 7) (word_at records state 8))

-- what is not loaded is a full cube, what is not registered nothing
unfoldable pub shape_of : (Pos → Ask Block) → List ℕ → Pos → Block → Ask CellShape
shape_of look records p none = found cube
shape_of look records p (some id) = choose (is_registered records id) (connected_shape look records p id) (found (boxes 0 0))

unfoldable pub cell_shape : (Pos → Ask Block) → List ℕ → Pos → Ask CellShape
cell_shape look records p = do
  block ← look p
  shape_of look records p block
