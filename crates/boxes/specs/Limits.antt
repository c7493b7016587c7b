-- The limits of document 01 that a box, a delta and a step height handed in are held to. Limits include their ends.
use Rattle.std.specs.Prelude.{Bool, true, false, ◌&&◌, List, [], ◌∷◌, ℕ, pos, Float}
use Rattle.std.specs.Float.{fin, binary64}
use Rattle.std.specs.Float.Ieee.{sub, le}
use Rattle.floats.specs.Numbers.{zero64, is_within_limit}
use Rattle.boxes.specs.declared.Vec3.{Vec3}
use Rattle.boxes.specs.declared.Aabb.{Aabb}

-- 2 ^ k: coordinates reach to 2 ^ 25, sides to 16, a delta to 128, a step height to 4
abbrev pub two_to : ℕ → Float
two_to k = fin false 1 (pos k)

-- each of the three finite, and of size at most the limit
abbrev pub are_within : Vec3 → Float → Bool
are_within v limit = is_within_limit v.x limit && (is_within_limit v.y limit && is_within_limit v.z limit)

-- on one axis: min at or below max, and max less min at most 16
abbrev pub is_side : Float → Float → Bool
is_side lo hi = le lo hi && le (sub binary64 hi lo) (two_to 4)

abbrev pub sides_of : Aabb → Bool
sides_of b = is_side b.min.x b.max.x && (is_side b.min.y b.max.y && is_side b.min.z b.max.z)

abbrev pub is_box : Aabb → Bool
is_box b = are_within b.min (two_to 25) && (are_within b.max (two_to 25) && sides_of b)

unfoldable pub are_boxes : List Aabb → Bool
are_boxes [] = true
are_boxes (b ∷ bs) = is_box b && are_boxes bs

abbrev pub is_delta : Vec3 → Bool
is_delta v = are_within v (two_to 7)

-- finite, and 0 to 4
abbrev pub is_step : Float → Bool
is_step h = is_within_limit h (two_to 2) && le zero64 h
