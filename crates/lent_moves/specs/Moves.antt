-- The move over boxes in lent numbers; `places` are how many numbers there is room for in what is lent to be written to.
use Rattle.std.specs.Prelude.{List, ℕ, ltb, Float}
use Rattle.base.specs.Choose.{choose}
use Rattle.sweeps.specs.declared.Request.{Request}
use Rattle.sweeps.specs.Lists.{room}
use Rattle.sweeps.specs.Move.{move_over}
use Rattle.sweeps.specs.Entry.{MoveAnswer, answer_of}
use Rattle.movers.specs.Movers.{request_of}
use Rattle.lent_boxes.specs.Boxes.{lent_count, boxes_of}
use Rattle.lent_boxes.specs.Refusals.{list_refusal}

abbrev pub moved_over : List Float → List Float → Float → ℕ → ℕ → MoveAnswer
moved_over boxes mover step grounded refusal =
    let q : Request = request_of mover step grounded in
    answer_of refusal (move_over (boxes_of boxes) q.aabb q.delta q.step q.on_ground) q.aabb

unfoldable pub move_list_of : ℕ → List Float → List Float → Float → ℕ → ℕ → MoveAnswer
move_list_of cap boxes mover step grounded places = moved_over boxes mover step grounded (list_refusal cap boxes mover step grounded places)

-- for any numbers, to be timed beside the original, which refuses nothing: 6 alone, for more boxes than a list holds
unfoldable pub move_any_of : List Float → List Float → Float → ℕ → MoveAnswer
move_any_of boxes mover step grounded = moved_over boxes mover step grounded (choose (ltb room (lent_count boxes)) 6 0)
