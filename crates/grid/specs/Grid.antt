-- The grid of multiples of 1/4096, and boxes on it: tests that anyone can compute from the numbers alone.
use Rattle.std.specs.Prelude.{Bool, true, false, not, ◌&&◌, List, [], ◌∷◌, ◌*◌, ◌%◌, eqb, Float}
use Rattle.std.specs.Float.{nan, inf, fin}
use Rattle.std.specs.Float.Ieee.{up, down, lt}
use Rattle.boxes.specs.declared.Vec3.{Vec3}
use Rattle.boxes.specs.declared.Aabb.{Aabb}
use Rattle.boxes.specs.Boxes.{overlap}

-- finite, and a multiple of 1/4096: m * up e / down e, times 4096, is a whole number
unfoldable pub on_grid : Float → Bool
on_grid nan = false
on_grid (inf s) = false
on_grid (fin s m e) = eqb (m * up e * 4096 % down e) 0

abbrev pub vec_on_grid : Vec3 → Bool
vec_on_grid v = on_grid v.x && (on_grid v.y && on_grid v.z)

-- min strictly below max on each axis
abbrev pub is_solid : Aabb → Bool
is_solid b = lt b.min.x b.max.x && (lt b.min.y b.max.y && lt b.min.z b.max.z)

-- both corners on the grid, and of positive size
unfoldable pub is_proper : Aabb → Bool
is_proper b = vec_on_grid b.min && (vec_on_grid b.max && is_solid b)

unfoldable pub are_proper : List Aabb → Bool
are_proper [] = true
are_proper (b ∷ bs) = is_proper b && are_proper bs

-- a overlaps none of them
unfoldable pub is_free : Aabb → List Aabb → Bool
is_free a [] = true
is_free a (b ∷ bs) = not (overlap a b) && is_free a bs
