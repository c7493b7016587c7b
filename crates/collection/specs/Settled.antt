-- What a collection comes to, said without its loops: the boxes of every cell of the range, in the order of the cells, of which those are kept
-- that strictly overlap the area. `proofs/Order.antt` shows it of `collect_block_boxes`.
use Rattle.std.specs.Prelude.{List, [], ◌∷◌, ℕ, Float}
use Rattle.base.specs.Choose.{choose}
use Rattle.base.specs.Ask.{Ask, refused, found}
use Rattle.base.specs.Loop.{appended}
use Rattle.boxes.specs.declared.Aabb.{Aabb}
use Rattle.boxes.specs.Boxes.{overlap}
use Rattle.window.specs.declared.Pos.{Pos}
use Rattle.window.specs.Look.{Block}
use Rattle.ranges.specs.declared.Range.{Range}
use Rattle.ranges.specs.Ranges.{place_at}
use Rattle.collection.specs.Collect.{CellShape, aabbs_of, cell_shape}

-- the boxes of a cell whose shape the look-up settles without leaving the window; none of another
abbrev pub settled : List Float → Pos → Ask CellShape → List Aabb
settled shapes p (refused k) = []
settled shapes p (found shape) = aabbs_of shapes p shape

unfoldable pub settled_boxes : (Pos → Ask Block) → List ℕ → List Float → Pos → List Aabb
settled_boxes look records shapes p = settled shapes p (cell_shape look records p)

-- those that strictly overlap the area
unfoldable pub overlapping : Aabb → List Aabb → List Aabb
overlapping area [] = []
overlapping area (b ∷ bs) = choose (overlap b area) (b ∷ overlapping area bs) (overlapping area bs)

-- over the cells of a range: y, then x, then z
unfoldable pub all_in_order : {A : Type 0} → (Pos → List A) → Range → List A
all_in_order g r = appended (λ y. appended (λ x. appended (λ z. g (place_at r x y z)) r.z.count 0) r.x.count 0) r.y.count 0
