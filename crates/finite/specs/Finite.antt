-- Request Eleven: "With document 01's limits on inputs, show that every position and velocity a step or move works out is finite". `Eleven` says it
-- of the definitions that the program is proved to answer, and how large these numbers get; proofs/Whole.antt shows it. Nothing is assumed but that
-- the entry refused nothing: its own checks are all the premises there are.
use Rattle.std.specs.Prelude.{◌≡◌, Bool, true, false, ◌&&◌, List, ℕ, ◌+◌, ◌^◌, pos, Float}
use Rattle.std.specs.Float.{fin}
use Rattle.boxes.specs.declared.Vec3.{Vec3}
use Rattle.boxes.specs.declared.Aabb.{Aabb}
use Rattle.boxes.specs.Limits.{are_within, is_box, is_delta, is_step}
use Rattle.sweeps.specs.declared.BoxList.{BoxList}
use Rattle.sweeps.specs.declared.MoveResult.{MoveResult}
use Rattle.sweeps.specs.Move.{move_over}
use Rattle.sweeps.specs.Entry.{MoveAnswer, move_over_list}
use Rattle.table_check.specs.Check.{tables_fit}
use Rattle.window.specs.declared.Window.{Window}
use Rattle.moves.specs.Answers.{move_entry}
use Rattle.bodies.specs.declared.BodyNumbers.{BodyNumbers}
use Rattle.bodies.specs.declared.Rules.{Rules}
use Rattle.bodies.specs.declared.MotionNumbers.{MotionNumbers}
use Rattle.step_answers.specs.Records.{StepAnswer}
use Rattle.step.specs.Answers.{checked_entry, step_entry}

-- ---- the numbers

-- of a move: a coordinate to 2 ^ 25 + 128, a way to 128
abbrev pub farthest_move : ℕ
farthest_move = 2 ^ 25 + 128

abbrev pub longest_way : ℕ
longest_way = 128

-- of a step: a coordinate to 2 ^ 25 + 102, and on each axis a velocity to 26,112, which one step has (`dives-fastest`, proofs/Samples.antt)
abbrev pub farthest_step : ℕ
farthest_step = 2 ^ 25 + 102

abbrev pub fastest_step : ℕ
fastest_step = 26112

-- a whole number, as a float
abbrev pub limit : ℕ → Float
limit n = fin false n (pos 0)

-- ---- what is asked of a result: each of its numbers is finite, and of size at most so much (`are_within`)

unfoldable pub is_near_move : MoveResult → Bool
is_near_move r =
    are_within r.aabb.min (limit farthest_move) && (are_within r.aabb.max (limit farthest_move) && are_within r.moved (limit longest_way))

unfoldable pub is_near_motion : MotionNumbers → Bool
is_near_motion m = are_within m.feet (limit farthest_step) && are_within m.velocity (limit fastest_step)

-- ---- the request

-- what is not refused is so
abbrev pub MoveIsNear : MoveAnswer → Type 0
MoveIsNear a = a.refusal ≡ 0 → is_near_move a.result ≡ true

abbrev pub StepIsNear : StepAnswer → Type 0
StepIsNear a = a.refusal ≡ 0 → is_near_motion a.motion ≡ true

pub record Eleven : Type 0 where
  -- a move over any boxes whatever, those with a NaN or an infinity too; so it is of all boxes that can be collected or lent
  pub over : (boxes : List Aabb) (aabb : Aabb) (delta : Vec3) (step_height : Float) (was_on_ground : Bool)
      → is_box aabb ≡ true → is_delta delta ≡ true → is_step step_height ≡ true → is_near_move (move_over boxes aabb delta step_height was_on_ground) ≡ true
  pub list : (cap : ℕ) (list : BoxList) (aabb : Aabb) (delta : Vec3) (step_height : Float) (was_on_ground : Bool) → MoveIsNear (move_over_list cap list aabb delta step_height was_on_ground)
  pub move : (cap : ℕ) (records : List ℕ) (shapes : List Float) (cells : List ℕ) (w : Window) (aabb : Aabb) (delta : Vec3) (step_height : Float) (was_on_ground : Bool)
      → MoveIsNear (move_entry cap records shapes cells w aabb delta step_height was_on_ground)
  pub step : (records : List ℕ) (shapes : List Float) (cells : List ℕ) (w : Window) (rules : Rules) (body : BodyNumbers) (given : MotionNumbers) (age : ℕ)
      → StepIsNear (step_entry records shapes cells w rules body given age)
  -- the step that checks no tables: where they pass the check that it leaves out
  pub checked : (records : List ℕ) (shapes : List Float) (cells : List ℕ) (w : Window) (rules : Rules) (body : BodyNumbers) (given : MotionNumbers) (age : ℕ)
      → tables_fit records shapes ≡ true
      → StepIsNear (checked_entry records shapes cells w rules body given age)
