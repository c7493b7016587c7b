-- One number of a move.
use Rattle.std.specs.Prelude.{ℕ, eqb, Float}
use Rattle.base.specs.Choose.{choose}
use Rattle.base.specs.Ask.{Ask, refused, found}
use Rattle.floats.specs.Numbers.{zero64}
use Rattle.boxes.specs.declared.Vec3.{Vec3}
use Rattle.boxes.specs.declared.Aabb.{Aabb}
use Rattle.sweeps.specs.declared.MoveResult.{MoveResult}
use Rattle.boxes.specs.Boxes.{vec, box}

-- from its lower corner to its upper
abbrev pub box_between : Float → Float → Float → Float → Float → Float → Aabb
box_between x0 y0 z0 x1 y1 z1 = box (vec x0 y0 z0) (vec x1 y1 z1)

-- 0 is x, 1 is y, another z
unfoldable pub along_of : ℕ → Vec3 → Float
along_of k v = choose (eqb k 0) v.x (choose (eqb k 1) v.y v.z)

-- the way along axis k, +0 where the move is refused
abbrev pub way_of : ℕ → Ask MoveResult → Float
way_of k (refused n) = zero64
way_of k (found m) = along_of k m.moved
