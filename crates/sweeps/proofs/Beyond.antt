-- What lies beyond a list's count does not matter: lists of one meaning have one move, and a box at or beyond the count changes nothing.
-- Assumes nothing.
use mathlib.Core.Path.{◌≡◌, refl, ap}
use mathlib.Core.Bool.{Bool}
use Prim.Native.Nat.{ℕ, ◌≤◌}
use lib.ListN.{set}
use lib.Seq.{take-set-le}
use lib.Ieee.{Float}
use Rattle.boxes.specs.declared.Vec3.{Vec3}
use Rattle.boxes.specs.declared.Aabb.{Aabb}
use Rattle.sweeps.specs.declared.BoxList.{BoxList}
use Rattle.sweeps.specs.Lists.{list_of}
use Rattle.sweeps.specs.Move.{move_over}
use Rattle.sweeps.specs.Entry.{move_over_list}

-- two lists of one meaning, with one count
pub record Alike (k l : BoxList) : Type 0 where
  pub count : k.count ≡ l.count
  pub boxes : list_of k ≡ list_of l

pub beyond : (l : BoxList) (i : ℕ) (b : Aabb) → l.count ≤ i → Alike record { boxes = set l.boxes i b; count = l.count } l
beyond l i b h = record { count = refl; boxes = take-set-le l.count l.boxes i b h }

module _ (cap : ℕ) (k l : BoxList) (same : Alike k l) (aabb : Aabb) (delta : Vec3) (step : Float) (grounded : Bool) where
  pub same_move : move_over (list_of k) aabb delta step grounded ≡ move_over (list_of l) aabb delta step grounded
  same_move = ap (λ bs. move_over bs aabb delta step grounded) same.boxes

  pub same_answer : move_over_list cap k aabb delta step grounded ≡ move_over_list cap l aabb delta step grounded
  unfolding move_over_list
  same_answer = rw (same.boxes, same.count)
