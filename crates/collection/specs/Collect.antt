-- Collection, as physics.rs has `any_block_box`, `collect_block_boxes` and `collides_with_blocks`. `look` is its `block_at`; what is looked up
-- outside the window is refused, and the first refusal ends it.
use Rattle.std.specs.Prelude.{Bool, true, false, List, [], ◌∷◌, ◌++◌, ℕ, ltb, length, Float}
use Rattle.base.specs.Choose.{choose}
use Rattle.base.specs.Ask.{Ask, refused, found, ◌>>=◌, Turn, next, done, onward}
use Rattle.floats.specs.Numbers.{zero64}
use Rattle.boxes.specs.declared.Vec3.{Vec3}
use Rattle.boxes.specs.declared.Aabb.{Aabb}
use Rattle.boxes.specs.Boxes.{vec, expand_towards, overlap}
use Rattle.window.specs.declared.Pos.{Pos}
use Rattle.window.specs.Look.{Block}
use Rattle.ranges.specs.declared.Range.{Range}
use Rattle.ranges.specs.Ranges.{cells_between, layers_between}
use Rattle.ranges.specs.Walk.{walk}
pub use Rattle.solids.specs.Shapes.{origin_of, cube_at, to_aabb, shape_aabbs, CellShape, cube, boxes, aabbs_of}
unfoldable pub use Rattle.solids.specs.Shapes.{connected_shape, shape_of, cell_shape}

-- ---- visiting them: a box that strictly overlaps the area is offered, and `accept` goes on, is done, or refuses
module _ {S : Type 0} (accept : Aabb → S → Ask (Turn S Bool)) (area : Aabb) where
  abbrev pub offer : Aabb → S → Ask (Turn S Bool)
  offer b s = choose (overlap b area) (accept b s) (found (next s))

  unfoldable pub offer_all : List Aabb → S → Ask (Turn S Bool)
  offer_all [] s = found (next s)
  offer_all (b ∷ bs) s = offer b s >>= onward (offer_all bs)

  unfoldable pub visit : (Pos → Ask Block) → List ℕ → List Float → Pos → S → Ask (Turn S Bool)
  visit look records shapes p s = do
    shape ← cell_shape look records p
    offer_all (aabbs_of shapes p shape) s

-- layers from floor(min y) - 1, then x, then z, upper ends included
abbrev pub range_of : Aabb → Range
range_of area =
    record {
      x = cells_between area.min.x area.max.x;
      y = layers_between area.min.y area.max.y;
      z = cells_between area.min.z area.max.z;
    }

abbrev pub any_block_box : {S : Type 0} → (Aabb → S → Ask (Turn S Bool)) → (Pos → Ask Block) → List ℕ → List Float → Aabb → S → Ask (Turn S Bool)
any_block_box accept look records shapes area s = walk (visit accept area look records shapes) (range_of area) s

-- |aabb| { out.push(aabb); false }, where one box more than the cap is 6
abbrev pub push : ℕ → Aabb → List Aabb → Ask (Turn (List Aabb) Bool)
push cap b bs = choose (ltb (length bs) cap) (found (next (bs ++ (b ∷ [])))) (refused 6)

abbrev pub pushed : Turn (List Aabb) Bool → List Aabb
pushed (next bs) = bs
pushed (done b) = []

-- from the cells of a range
abbrev pub collect_in : ℕ → (Pos → Ask Block) → List ℕ → List Float → Aabb → Range → Ask (List Aabb)
collect_in cap look records shapes area r = do
  t ← walk (visit (push cap) area look records shapes) r []
  found (pushed t)

-- "6 reads with the cap in force"
unfoldable pub collect_block_boxes : ℕ → (Pos → Ask Block) → List ℕ → List Float → Aabb → Ask (List Aabb)
collect_block_boxes cap look records shapes area = collect_in cap look records shapes area (range_of area)

-- |_| true: it stops at its first hit
abbrev pub hit : Aabb → Bool → Ask (Turn Bool Bool)
hit b s = found (done true)

abbrev pub is_hit : Turn Bool Bool → Bool
is_hit (next s) = s
is_hit (done b) = b

unfoldable pub collides_with_blocks : (Pos → Ask Block) → List ℕ → List Float → Aabb → Ask Bool
collides_with_blocks look records shapes area = do
  t ← any_block_box hit look records shapes area false
  found (is_hit t)

-- the area that a move sweeps: towards its delta, and up by the step height
abbrev pub swept_area : Aabb → Vec3 → Float → Aabb
swept_area aabb delta step_height = expand_towards (expand_towards aabb delta) (vec zero64 step_height zero64)
