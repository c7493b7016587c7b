-- The capped list: room for 512 boxes and a count, and the cap on it. Its meaning is the list of its first `count` boxes; what lies beyond means
-- nothing. Document 02's words stand in quotes.
use Rattle.std.specs.Prelude.{Bool, List, [], Result, Ok, Err, ℕ, min, eqb, leb, length, take, replicate}
use Rattle.base.specs.Choose.{choose}
use Rattle.floats.specs.Numbers.{zero64}
use Rattle.boxes.specs.Boxes.{vec, box}
use Rattle.boxes.specs.declared.Aabb.{Aabb}
use Rattle.sweeps.specs.declared.BoxList.{BoxList}
use Rattle.base.specs.declared.Refusal.{Refusal}
use Rattle.base.specs.Refusals.{number_of}

-- how many boxes a list has room for
abbrev pub room : ℕ
room = 512

-- "The cap becomes a number in the rules, 0 to 512"; "a cap above 512 is 3"
unfoldable pub is_cap : ℕ → Bool
is_cap cap = leb cap room

-- the cap in force: "0 stands for 512". One that is no cap is refused before, and stands for 512 too
unfoldable pub cap_of : ℕ → ℕ
cap_of cap = choose (eqb cap 0) room (min cap room)

abbrev pub list_of : BoxList → List Aabb
list_of l = take l.count l.boxes

abbrev pub no_box : Aabb
no_box = box (vec zero64 zero64 zero64) (vec zero64 zero64 zero64)

unfoldable pub empty_list : BoxList
empty_list = record { boxes = replicate room no_box; count = 0 }

-- what an answer that carries a list says: its refusal, its count, and its boxes
pub record Held : Type 0 where
  pub refusal : ℕ
  pub count : ℕ
  pub boxes : List Aabb

-- the count is the length of the list
abbrev pub held : ℕ → List Aabb → Held
held k bs = record { refusal = k; count = length bs; boxes = bs }

-- a refusal hands back no box
abbrev pub held_in : Result BoxList Refusal → Held
held_in (Ok l) = record { refusal = 0; count = l.count; boxes = list_of l }
held_in (Err e) = held (number_of e) []
