-- "Clipping shown exact on the 1/4096 grid": the clips of crates/boxes over whole numbers of 1/4096, line by line, and the law that on the grid the
-- clips over f64 come to the same. So none of their differences is rounded. Nor is a sum where a box is moved.
use Rattle.std.specs.Prelude.{◌≡◌, Bool, ◌&&◌, ◌||◌, ◌*◌, ◌/◌, T, ℤ, pos, ◌+ℤ◌, ◌-ℤ◌, Float}
use Rattle.std.specs.Int.Signed.{lt_z, le_z}
use Rattle.std.specs.Float.{nan, inf, fin}
use Rattle.std.specs.Float.Ieee.{up, down}
use Rattle.base.specs.Choose.{choose}
use Rattle.wholes.specs.Whole.{signed_of}
use Rattle.boxes.specs.declared.Vec3.{Vec3}
use Rattle.boxes.specs.declared.Aabb.{Aabb}
use Rattle.boxes.specs.Boxes.{offset_by, clip_x, clip_y, clip_z}
use Rattle.boxes.specs.Limits.{two_to, are_within, is_box}
use Rattle.grid.specs.Grid.{on_grid, vec_on_grid}

-- how many times 1/4096 a number on the grid is
unfoldable pub grid_units : Float → ℤ
grid_units nan = pos 0
grid_units (inf s) = pos 0
grid_units (fin s m e) = signed_of s (m * up e * 4096 / down e)

abbrev pub least_z : ℤ → ℤ → ℤ
least_z a b = choose (lt_z b a) b a

abbrev pub greatest_z : ℤ → ℤ → ℤ
greatest_z a b = choose (lt_z a b) b a

abbrev pub apart_z : ℤ → ℤ → ℤ → ℤ → Bool
apart_z lo hi from to = le_z to lo || le_z hi from

abbrev pub stop_at_z : ℤ → ℤ → ℤ → ℤ → ℤ → ℤ
stop_at_z lo hi from to d =
    choose (lt_z (pos 0) d && le_z to lo) (least_z d (lo -ℤ to))
    (choose (lt_z d (pos 0) && le_z hi from) (greatest_z d (hi -ℤ from))
    d)

-- a box, in units
pub record Units : Type 0 where
  pub x0 : ℤ
  pub y0 : ℤ
  pub z0 : ℤ
  pub x1 : ℤ
  pub y1 : ℤ
  pub z1 : ℤ

abbrev pub box_units : Aabb → Units
box_units b =
    record {
      x0 = grid_units b.min.x;
      y0 = grid_units b.min.y;
      z0 = grid_units b.min.z;
      x1 = grid_units b.max.x;
      y1 = grid_units b.max.y;
      z1 = grid_units b.max.z;
    }

abbrev pub clip_x_is : Units → Units → ℤ → ℤ
clip_x_is b m d = choose (apart_z b.y0 b.y1 m.y0 m.y1 || apart_z b.z0 b.z1 m.z0 m.z1) d (stop_at_z b.x0 b.x1 m.x0 m.x1 d)

abbrev pub clip_y_is : Units → Units → ℤ → ℤ
clip_y_is b m d = choose (apart_z b.x0 b.x1 m.x0 m.x1 || apart_z b.z0 b.z1 m.z0 m.z1) d (stop_at_z b.y0 b.y1 m.y0 m.y1 d)

abbrev pub clip_z_is : Units → Units → ℤ → ℤ
clip_z_is b m d = choose (apart_z b.x0 b.x1 m.x0 m.x1 || apart_z b.y0 b.y1 m.y0 m.y1) d (stop_at_z b.z0 b.z1 m.z0 m.z1 d)

-- a number on the grid that is n times 1/4096
pub record Exact (x : Float) (n : ℤ) : Type 0 where
  pub grid : T (on_grid x)
  pub units : grid_units x ≡ n

pub record ClipsExactly (b mover : Aabb) (d : Float) : Type 0 where
  pub x : Exact (clip_x b mover d) (clip_x_is (box_units b) (box_units mover) (grid_units d))
  pub y : Exact (clip_y b mover d) (clip_y_is (box_units b) (box_units mover) (grid_units d))
  pub z : Exact (clip_z b mover d) (clip_z_is (box_units b) (box_units mover) (grid_units d))

-- boxes within document 01's limits, and any way
abbrev pub ClipLaw : Type 0
ClipLaw =
    (b mover : Aabb) (d : Float)
    → T (is_box b && (vec_on_grid b.min && vec_on_grid b.max))
    → T (is_box mover && (vec_on_grid mover.min && vec_on_grid mover.max))
    → T (on_grid d)
    → ClipsExactly b mover d

-- ---- moving a box, along an axis too: there the two other numbers of `by` are zero

pub record OffsetsExactly (b : Aabb) (by : Vec3) : Type 0 where
  pub x0 : Exact (offset_by b by).min.x (grid_units b.min.x +ℤ grid_units by.x)
  pub y0 : Exact (offset_by b by).min.y (grid_units b.min.y +ℤ grid_units by.y)
  pub z0 : Exact (offset_by b by).min.z (grid_units b.min.z +ℤ grid_units by.z)
  pub x1 : Exact (offset_by b by).max.x (grid_units b.max.x +ℤ grid_units by.x)
  pub y1 : Exact (offset_by b by).max.y (grid_units b.max.y +ℤ grid_units by.y)
  pub z1 : Exact (offset_by b by).max.z (grid_units b.max.z +ℤ grid_units by.z)

-- on the grid, and within twice the limit of a coordinate: a box that has gone part of its way may lie past that limit
abbrev pub is_near : Vec3 → Bool
is_near v = are_within v (two_to 26) && vec_on_grid v

abbrev pub OffsetLaw : Type 0
OffsetLaw = (b : Aabb) (by : Vec3) → T (is_near b.min) → T (is_near b.max) → T (is_near by) → OffsetsExactly b by
