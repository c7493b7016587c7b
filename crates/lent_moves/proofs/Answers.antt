-- The move over lent boxes is the move over a list. Assumes nothing.
use mathlib.Core.Path.{◌≡◌, refl, ap}
use mathlib.Core.Bool.{Bool, true, false, not, ◌&&◌}
use mathlib.Core.List.{List}
use Prim.Native.Nat.{ℕ, ◌%◌, ◌≤◌, ◌<◌}
use lib.Dec.{ltb, eqb}
use lib.ListN.{length}
use lib.Ieee.{Float}
use borrow.Author.Tests.{eq-eqb, lt-ltb, le-ltb}
use Rattle.base.specs.Choose.{choose}
use Rattle.sweeps.specs.declared.BoxList.{BoxList}
use Rattle.sweeps.specs.Lists.{is_cap, cap_of, list_of}
use Rattle.boxes.specs.Limits.{is_box, is_delta, is_step, are_boxes}
use Rattle.sweeps.specs.Entry.{refusal_of, move_over_list}
use Rattle.movers.specs.Movers.{vec_at, aabb_at, mover_refusal}
use Rattle.lent_boxes.specs.Boxes.{boxes_of, lent_count, lent_fit}
use Rattle.lent_boxes.specs.Refusals.{list_refusal}
use Rattle.lent_moves.specs.Moves.{moved_over, move_list_of}

-- where every slice has its length, and there is room, it is `move_over_list` of a list that holds these boxes

-- cap and step height, box, delta and lent boxes; then n
tests : (s b d a : Bool) (n : ℕ) → choose (not s) 3 (choose (not (b && (d && a))) 4 n)
    ≡ choose (not (eqb (choose s (choose (a && (b && d)) 0 4) 3) 0)) (choose s (choose (a && (b && d)) 0 4) 3) n
unfolding choose
tests false b d a n = refl
tests true true true true n = refl
tests true true true false n = refl
tests true true false true n = refl
tests true true false false n = refl
tests true false d true n = refl
tests true false d false n = refl

module _ (cap : ℕ) (boxes mover : List Float) (step : Float) (grounded places : ℕ) (nine : length mover ≡ 9) (sixes : length boxes % 6 ≡ 0) (flag : grounded < 2) (wide : 10 ≤ places) where
  same-refusal : refusal_of cap (aabb_at mover 0) (vec_at mover 6) step (are_boxes (boxes_of boxes)) (lent_count boxes) ≡ list_refusal cap boxes mover step grounded places
  unfolding list_refusal mover_refusal lent_fit choose
  same-refusal = rw (eq-eqb _ _ nine, eq-eqb _ _ sixes, lt-ltb _ _ flag, le-ltb _ _ wide) (tests (is_cap cap && is_step step) (is_box (aabb_at mover 0)) (is_delta (vec_at mover 6)) (are_boxes (boxes_of boxes)) (choose (ltb (cap_of cap) (lent_count boxes)) 6 0))

  pub as_a_list : (l : BoxList) → list_of l ≡ boxes_of boxes → l.count ≡ lent_count boxes
      → move_over_list cap l (aabb_at mover 0) (vec_at mover 6) step (eqb grounded 1) ≡ move_list_of cap boxes mover step grounded places
  unfolding move_over_list move_list_of
  as_a_list l el en = rw (el, en) (ap (λ (n : ℕ). moved_over boxes mover step grounded n) same-refusal)
