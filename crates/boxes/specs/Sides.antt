-- A box and a mover on one axis, as the code hands them on. No contract of a public function cites this file.
use Rattle.std.specs.Prelude.{Bool, ◌||◌, Float}
use Rattle.base.specs.Choose.{choose}
use Rattle.boxes.specs.declared.Aabb.{Aabb}
use Rattle.boxes.specs.declared.Sides.{Sides}
use Rattle.boxes.specs.Boxes.{apart, stop_at}

abbrev pub on_x : Aabb → Aabb → Sides
on_x b mover = record { lo = b.min.x; hi = b.max.x; from = mover.min.x; to = mover.max.x }

abbrev pub on_y : Aabb → Aabb → Sides
on_y b mover = record { lo = b.min.y; hi = b.max.y; from = mover.min.y; to = mover.max.y }

abbrev pub on_z : Aabb → Aabb → Sides
on_z b mover = record { lo = b.min.z; hi = b.max.z; from = mover.min.z; to = mover.max.z }

abbrev pub apart_on : Sides → Bool
apart_on s = apart s.lo s.hi s.from s.to

abbrev pub stop_on : Sides → Float → Float
stop_on s d = stop_at s.lo s.hi s.from s.to d

abbrev pub clip_on : Sides → Sides → Sides → Float → Float
clip_on first second along d = choose (apart_on first || apart_on second) d (stop_on along d)
