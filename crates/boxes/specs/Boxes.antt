-- Boxes, line by line as collision.rs has them. Every operation is IEEE 754's on binary64, and every definition takes any numbers.
use Rattle.std.specs.Prelude.{Bool, ◌&&◌, ◌||◌, Float}
use Rattle.std.specs.Float.{binary64}
use Rattle.std.specs.Float.Ieee.{of_bits, add, sub, div, lt, le}
use Rattle.base.specs.Choose.{choose}
use Rattle.floats.specs.Numbers.{zero64, least_of, greatest_of}
use Rattle.boxes.specs.declared.Vec3.{Vec3}
use Rattle.boxes.specs.declared.Aabb.{Aabb}

-- 2.0
abbrev pub two64 : Float
two64 = of_bits binary64 4611686018427387904

-- DVec3::new, and its sums and differences
abbrev pub vec : Float → Float → Float → Vec3
vec x y z = record { x = x; y = y; z = z }

abbrev pub plus : Vec3 → Vec3 → Vec3
plus a b = vec (add binary64 a.x b.x) (add binary64 a.y b.y) (add binary64 a.z b.z)

abbrev pub minus : Vec3 → Vec3 → Vec3
minus a b = vec (sub binary64 a.x b.x) (sub binary64 a.y b.y) (sub binary64 a.z b.z)

-- d.min(0.0) and d.max(0.0): of two equal numbers the first, and 0.0 for a NaN
abbrev pub below0 : Float → Float
below0 d = choose (le d zero64) d zero64

abbrev pub above0 : Float → Float
above0 d = choose (le zero64 d) d zero64

abbrev pub down_of : Vec3 → Vec3
down_of d = vec (below0 d.x) (below0 d.y) (below0 d.z)

abbrev pub up_of : Vec3 → Vec3
up_of d = vec (above0 d.x) (above0 d.y) (above0 d.z)

abbrev pub box : Vec3 → Vec3 → Aabb
box min max = record { min = min; max = max }

abbrev pub from_feet : Vec3 → Float → Float → Aabb
from_feet feet width height =
    let half : Float = div binary64 width two64 in
    box
    (vec (sub binary64 feet.x half) feet.y (sub binary64 feet.z half))
    (vec (add binary64 feet.x half) (add binary64 feet.y height) (add binary64 feet.z half))

abbrev pub offset_by : Aabb → Vec3 → Aabb
offset_by b by = box (plus b.min by) (plus b.max by)

abbrev pub expand_towards : Aabb → Vec3 → Aabb
expand_towards b delta = box (plus b.min (down_of delta)) (plus b.max (up_of delta))

abbrev pub inflate_by : Aabb → Vec3 → Aabb
inflate_by b by = box (minus b.min by) (plus b.max by)

-- strict overlap on one axis, and on all three: touching is none
abbrev pub meet : Float → Float → Float → Float → Bool
meet al ah bl bh = lt al bh && lt bl ah

abbrev pub overlap : Aabb → Aabb → Bool
overlap a b =
    meet a.min.x a.max.x b.min.x b.max.x
    && (meet a.min.y a.max.y b.min.y b.max.y
    && meet a.min.z a.max.z b.min.z b.max.z)

abbrev pub feet_of : Aabb → Vec3
feet_of b =
    vec
    (div binary64 (add binary64 b.min.x b.max.x) two64)
    b.min.y
    (div binary64 (add binary64 b.min.z b.max.z) two64)

-- ---- clipping. On one axis the box goes from lo to hi, and the mover from `from` to `to`

-- mover.max <= self.min || mover.min >= self.max
abbrev pub apart : Float → Float → Float → Float → Bool
apart lo hi from to = le to lo || le hi from

-- the way d along an axis, stopped at the box: dx.min(self.min - mover.max) or dx.max(self.max - mover.min)
abbrev pub stop_at : Float → Float → Float → Float → Float → Float
stop_at lo hi from to d =
    choose (lt zero64 d && le to lo) (least_of d (sub binary64 lo to))
    (choose (lt d zero64 && le hi from) (greatest_of d (sub binary64 hi from))
    d)

-- a mover that passes the box by on one of the two other axes keeps its way
abbrev pub clip_x : Aabb → Aabb → Float → Float
clip_x b mover dx =
    choose
    (apart b.min.y b.max.y mover.min.y mover.max.y || apart b.min.z b.max.z mover.min.z mover.max.z)
    dx
    (stop_at b.min.x b.max.x mover.min.x mover.max.x dx)

abbrev pub clip_y : Aabb → Aabb → Float → Float
clip_y b mover dy =
    choose
    (apart b.min.x b.max.x mover.min.x mover.max.x || apart b.min.z b.max.z mover.min.z mover.max.z)
    dy
    (stop_at b.min.y b.max.y mover.min.y mover.max.y dy)

abbrev pub clip_z : Aabb → Aabb → Float → Float
clip_z b mover dz =
    choose
    (apart b.min.x b.max.x mover.min.x mover.max.x || apart b.min.y b.max.y mover.min.y mover.max.y)
    dz
    (stop_at b.min.z b.max.z mover.min.z mover.max.z dz)
