-- What the answers of collection say.
use Rattle.std.specs.Prelude.{List, [], ℕ, Float, Result, Ok, Err}
use Rattle.base.specs.declared.Refusal.{Refusal}
use Rattle.base.specs.Refusals.{number_of}
use Rattle.base.specs.Ask.{Ask, refused, found}
use Rattle.boxes.specs.declared.Aabb.{Aabb}
use Rattle.sweeps.specs.Lists.{Held, held}
use Rattle.lent_boxes.specs.Boxes.{boxes_in}

-- a refused collection is an empty list
abbrev pub held_asked : Ask (List Aabb) → Held
held_asked (refused n) = held n []
held_asked (found bs) = held 0 bs

-- what a collection into lent numbers says: so many boxes are there, or none
abbrev pub held_lent : Result ℕ Refusal → List Float → Held
held_lent (Ok count) numbers = record { refusal = 0; count = count; boxes = boxes_in numbers count }
held_lent (Err e) numbers = held (number_of e) []

abbrev pub counted : Result ℕ Refusal → ℕ
counted (Ok count) = count
counted (Err e) = 0
