-- What a host is handed of collection and of the move. The move itself is passed on, since it is read beside what a host is handed of it.
use Rattle.std.specs.Prelude.{Bool, false, not, ◌&&◌, List, ℕ, Float}
use Rattle.base.specs.Choose.{choose}
use Rattle.base.specs.Ask.{Ask, refused, found}
use Rattle.boxes.specs.declared.Vec3.{Vec3}
use Rattle.boxes.specs.declared.Aabb.{Aabb}
use Rattle.boxes.specs.Limits.{is_box, is_delta, is_step}
use Rattle.sweeps.specs.Lists.{Held, is_cap, cap_of}
pub use Rattle.sweeps.specs.Entry.{MoveAnswer, move_answer}
use Rattle.window.specs.declared.Window.{Window}
use Rattle.window.specs.Look.{look_at}
use Rattle.lent.specs.Lent.{unless, direct}
use Rattle.collection.specs.Collect.{collect_block_boxes, collides_with_blocks}
use Rattle.collection.specs.Answers.{held_asked}
use Rattle.summary.specs.Calls.{plain_words, summed}
unfoldable pub use Rattle.through.specs.Through.{move_aabb}

-- what a host is handed of a hit: refusal 0 and whether a box was hit, or a refusal and no
pub record HitAnswer : Type 0 where
  pub refusal : ℕ
  pub hit : Bool

abbrev pub hit_answer : Ask Bool → HitAnswer
hit_answer (refused n) = record { refusal = n; hit = false }
hit_answer (found b) = record { refusal = 0; hit = b }

-- of what a move asks for: 3 for the cap and the step height, then 4 for the box and the delta
abbrev pub numbers_refusal : ℕ → Aabb → Vec3 → Float → ℕ
numbers_refusal cap aabb delta step = choose (not (is_cap cap && is_step step)) 3 (choose (not (is_box aabb && is_delta delta)) 4 0)

-- ---- what a host calls: 1, 2, 3, also for the cap, and 4 in order, before any cell is asked for; then 5 or 6

unfoldable pub collect_entry : ℕ → List ℕ → List Float → List ℕ → Window → Aabb → Held
collect_entry cap records shapes cells w area =
    held_asked
    (direct records shapes cells w
    (unless (not (is_cap cap)) 3
    (unless (not (is_box area)) 4
    (collect_block_boxes (cap_of cap) (look_at cells w) records shapes area))))

unfoldable pub collides_entry : List ℕ → List Float → List ℕ → Window → Aabb → HitAnswer
collides_entry records shapes cells w area =
    hit_answer (direct records shapes cells w (unless (not (is_box area)) 4 (collides_with_blocks (look_at cells w) records shapes area)))

unfoldable pub move_entry : ℕ → List ℕ → List Float → List ℕ → Window → Aabb → Vec3 → Float → Bool → MoveAnswer
move_entry cap records shapes cells w aabb delta step_height was_on_ground =
    move_answer aabb
    (direct records shapes cells w
    (unless (not (is_cap cap && is_step step_height)) 3
    (unless (not (is_box aabb && is_delta delta)) 4
    (move_aabb (cap_of cap) (look_at cells w) records shapes aabb delta step_height was_on_ground))))

-- over a summary: 11 and 13 after 4, then the move over cells and columns
unfoldable pub move_summed : ℕ → List ℕ → List Float → List ℕ → Window → Aabb → Vec3 → Float → Bool → MoveAnswer
move_summed cap records shapes words w aabb delta step_height was_on_ground =
    move_answer aabb
    (direct records shapes (plain_words words w) w
    (unless (not (is_cap cap && is_step step_height)) 3
    (unless (not (is_box aabb && is_delta delta)) 4
    (summed records words w
    (move_aabb (cap_of cap) (look_at (plain_words words w) w) records shapes aabb delta step_height was_on_ground)))))
