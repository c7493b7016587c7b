-- Vectors as glam has them: products with a number, and normalising. A product of zero is a product like any other, so that
-- the sign of a zero is the Rust's.
use Rattle.std.specs.Prelude.{◌&&◌, Float}
use Rattle.std.specs.Float.{binary64}
use Rattle.std.specs.Float.Ieee.{add, mul, div, lt}
use Rattle.base.specs.Choose.{choose}
use Rattle.floats.specs.Numbers.{zero64, is_finite, answer_where, one64}
use Rattle.roots.specs.Root.{has_root, root_of}
use Rattle.boxes.specs.declared.Vec3.{Vec3}
use Rattle.boxes.specs.Boxes.{vec}

-- DVec3::ZERO and DVec3::Y
abbrev pub zero_vec : Vec3
zero_vec = vec zero64 zero64 zero64

abbrev pub unit_y : Vec3
unit_y = vec zero64 one64 zero64

-- v * d
abbrev pub scaled : Vec3 → Float → Vec3
scaled v d = vec (mul binary64 v.x d) (mul binary64 v.y d) (mul binary64 v.z d)

-- v.dot(v): the products summed x, y, z
abbrev pub squared : Vec3 → Float
squared v = add binary64 (add binary64 (mul binary64 v.x v.x) (mul binary64 v.y v.y)) (mul binary64 v.z v.z)

-- v.length(): what the root of module 1 answers. That is 0 where the sum is infinite or a NaN; there the Rust's length is infinite or a NaN,
-- and either way normalising comes to the zero vector.
abbrev pub length_of : Vec3 → Float
length_of v = (answer_where (has_root (squared v)) (root_of (squared v))).value

-- v.normalize_or_zero(): one over the length; the zero vector where that is infinite or not above zero
unfoldable pub normalised : Vec3 → Vec3
normalised v =
    let reciprocal : Float = div binary64 one64 (length_of v) in
    choose (is_finite reciprocal && lt zero64 reciprocal) (scaled v reciprocal) zero_vec
