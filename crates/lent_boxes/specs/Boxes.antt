-- Boxes in lent numbers, six to a box.
use Rattle.std.specs.Prelude.{Bool, ◌&&◌, List, [], ◌∷◌, ℕ, ◌*◌, ◌/◌, ◌%◌, min, length, ltb, eqb, Float}
use Rattle.base.specs.Choose.{choose}
use Rattle.base.specs.Loop.{listed, stored}
use Rattle.boxes.specs.declared.Aabb.{Aabb}
use Rattle.boxes.specs.Limits.{are_boxes}
use Rattle.movers.specs.Movers.{aabb_at}

-- box k of numbers that are six to a box
abbrev pub box_of : List Float → ℕ → Aabb
box_of numbers k = aabb_at numbers (k * 6)

-- the first n of them
abbrev pub boxes_in : List Float → ℕ → List Aabb
boxes_in numbers n = listed (box_of numbers) n 0

-- how many whole boxes there are
abbrev pub lent_count : List Float → ℕ
lent_count numbers = length numbers / 6

abbrev pub boxes_of : List Float → List Aabb
boxes_of numbers = boxes_in numbers (lent_count numbers)

-- n, or as many whole boxes as there are; and the first of them, so many
abbrev pub at_most : ℕ → List Float → ℕ
at_most n numbers = min n (lent_count numbers)

abbrev pub first_boxes : ℕ → List Float → List Aabb
first_boxes n numbers = boxes_in numbers (at_most n numbers)

-- the six of a box
abbrev pub six_of : Aabb → List Float
six_of b = b.min.x ∷ b.min.y ∷ b.min.z ∷ b.max.x ∷ b.max.y ∷ b.max.z ∷ []

-- a box put among the numbers, as box k; where there are fewer it is not put
unfoldable pub put_in : List Float → ℕ → Aabb → List Float
put_in numbers k b = choose (ltb k (lent_count numbers)) (stored numbers (k * 6) (six_of b)) numbers

-- six numbers to a box and none left over, and every one within the limits of a box
unfoldable pub lent_fit : List Float → Bool
lent_fit numbers = eqb (length numbers % 6) 0 && are_boxes (boxes_of numbers)
