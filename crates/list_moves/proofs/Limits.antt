-- The library's test of every box is the definition's. Assumes nothing.
use mathlib.Core.Path.{◌≡◌, refl, ap}
use mathlib.Core.Bool.{Bool, ◌&&◌}
use mathlib.Core.List.{List, [], ◌∷◌}
use Rattle.std.specs.List.{list_all}
use Rattle.boxes.specs.declared.Aabb.{Aabb}
use Rattle.boxes.specs.Limits.{is_box, are_boxes}

pub all-boxes : (bs : List Aabb) → list_all is_box bs ≡ are_boxes bs
unfolding are_boxes
all-boxes [] = refl
all-boxes (b ∷ bs) = ap (λ (t : Bool). is_box b && t) (all-boxes bs)
