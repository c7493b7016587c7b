-- How the program gets at the boxes of a cell: one by one, by number. No contract of a host's function cites this file.
use Rattle.std.specs.Prelude.{List, [], ℕ, eqb, Float, length}
use Rattle.base.specs.Choose.{choose}
use Rattle.boxes.specs.declared.Aabb.{Aabb}
use Rattle.boxes.specs.Boxes.{offset_by}
use Rattle.tables.specs.Tables.{boxes_at, box_at}
use Rattle.window.specs.declared.Pos.{Pos}
use Rattle.solids.specs.declared.Shape.{Shape}
use Rattle.solids.specs.declared.Shape.TheVariants.{Cube, Part}
use Rattle.solids.specs.Shapes.{CellShape, cube, boxes, cube_at, to_aabb, origin_of}

abbrev pub shape_in : Shape → CellShape
shape_in Cube = cube
shape_in (Part first count) = boxes first count

-- its boxes: a part of the shapes that is not there whole is empty
abbrev pub part_boxes : List Float → Shape → List Float
part_boxes shapes Cube = []
part_boxes shapes (Part first count) = boxes_at shapes first count

-- how many boxes there are, and number k of them
abbrev pub count_of : Shape → List Float → ℕ
count_of Cube part = 1
count_of (Part first count) part = choose (eqb (length part) 0) 0 count

abbrev pub nth_aabb : Shape → List Float → Pos → ℕ → Aabb
nth_aabb Cube part p k = cube_at p
nth_aabb (Part first count) part p k = offset_by (to_aabb (box_at part k)) (origin_of p)
