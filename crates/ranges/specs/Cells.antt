-- The cell that a point lies in.
use Rattle.std.specs.Prelude.{pos, ◌-ℤ◌}
use Rattle.wholes.specs.Whole.{cell_of}
use Rattle.boxes.specs.declared.Vec3.{Vec3}
use Rattle.window.specs.declared.Pos.{Pos}

-- v.floor().as_ivec3()
unfoldable pub cell_holding : Vec3 → Pos
cell_holding v = record { x = cell_of v.x; y = cell_of v.y; z = cell_of v.z }

-- v.floor().as_ivec3() - IVec3::Y
unfoldable pub cell_under : Vec3 → Pos
cell_under v = record { x = cell_of v.x; y = cell_of v.y -ℤ pos 1; z = cell_of v.z }
