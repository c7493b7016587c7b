-- The move over a list that is handed in: it refuses 3, then 4, then 6, or is the move.
use Rattle.std.specs.Prelude.{Bool, false, not, ◌&&◌, ℕ, eqb, ltb, Float}
use Rattle.base.specs.Choose.{choose}
use Rattle.base.specs.Ask.{Ask, refused, found}
use Rattle.floats.specs.Numbers.{zero64}
use Rattle.boxes.specs.declared.Vec3.{Vec3}
use Rattle.boxes.specs.declared.Aabb.{Aabb}
use Rattle.sweeps.specs.declared.BoxList.{BoxList}
use Rattle.sweeps.specs.declared.MoveResult.{MoveResult}
use Rattle.boxes.specs.Boxes.{vec}
use Rattle.sweeps.specs.Lists.{is_cap, cap_of, list_of}
use Rattle.sweeps.specs.Move.{move_over}
use Rattle.boxes.specs.Limits.{is_step, is_box, is_delta, are_boxes}

-- 3 for the cap and the step height; 4 for the box, the delta and the list's boxes, `sound` where these are; 6 for a count above the cap in force;
-- 0 for none
abbrev pub refusal_of : ℕ → Aabb → Vec3 → Float → Bool → ℕ → ℕ
refusal_of cap aabb delta step sound count =
    choose (not (is_cap cap && is_step step)) 3
    (choose (not (is_box aabb && (is_delta delta && sound))) 4
    (choose (ltb (cap_of cap) count) 6
    0))

-- a refused move returns its box, moved zero, ground false
abbrev pub refused_move : Aabb → MoveResult
refused_move aabb = record { aabb = aabb; moved = vec zero64 zero64 zero64; on_ground = false }

-- what a move that is handed in comes to: refusal 0 and the move, or a refusal and what a refused move returns
pub record MoveAnswer : Type 0 where
  pub refusal : ℕ
  pub result : MoveResult

abbrev pub move_answer : Aabb → Ask MoveResult → MoveAnswer
move_answer aabb (found m) = record { refusal = 0; result = m }
move_answer aabb (refused k) = record { refusal = k; result = refused_move aabb }

abbrev pub answer_of : ℕ → MoveResult → Aabb → MoveAnswer
answer_of refusal moved aabb = record { refusal = refusal; result = choose (eqb refusal 0) moved (refused_move aabb) }

unfoldable pub move_over_list : ℕ → BoxList → Aabb → Vec3 → Float → Bool → MoveAnswer
move_over_list cap list aabb delta step grounded =
    answer_of (refusal_of cap aabb delta step (are_boxes (list_of list)) list.count) (move_over (list_of list) aabb delta step grounded) aabb
