-- "Prove that raising the cap alters no outcome other than a refusal 6", of what a host calls: the step, without and with a fall record, the move through
-- a window, these three also over a summary, collection, and the move over a list.
use Rattle.std.specs.Prelude.{◌≡◌, Bool, true, ◌⊎◌, List, ℕ, ◌≤◌, Float}
use Rattle.boxes.specs.declared.Vec3.{Vec3}
use Rattle.boxes.specs.declared.Aabb.{Aabb}
use Rattle.sweeps.specs.declared.BoxList.{BoxList}
use Rattle.sweeps.specs.Lists.{Held, is_cap, cap_of}
use Rattle.sweeps.specs.Entry.{MoveAnswer, move_over_list}
use Rattle.window.specs.declared.Window.{Window}
use Rattle.bodies.specs.declared.BodyNumbers.{BodyNumbers}
use Rattle.bodies.specs.declared.MotionNumbers.{MotionNumbers}
use Rattle.bodies.specs.declared.Rules.{Rules}
use Rattle.bodies.specs.Body.{with_cap}
use Rattle.moves.specs.Answers.{collect_entry, move_entry, move_summed}
use Rattle.step_answers.specs.Records.{StepAnswer}
use Rattle.step.specs.Answers.{step_entry, step_summed}
use Rattle.fall_rule.specs.declared.Fall.{Fall}
use Rattle.step_answers.specs.Records.{FallingAnswer}
use Rattle.falls.specs.Answers.{falling_entry, falling_summed}

-- two caps, of which the second in force is not below the first
pub record Raised (cap higher : ℕ) : Type 0 where
  pub first : is_cap cap ≡ true
  pub second : is_cap higher ≡ true
  pub above : cap_of cap ≤ cap_of higher

-- an outcome under the first that is refused by this number, and the outcome under the second
abbrev pub Alters6 : {A : Type 0} → ℕ → A → A → Type 0
Alters6 refusal outcome other = (refusal ≡ 6) ⊎ (outcome ≡ other)

pub record AltersNothingElse (cap higher : ℕ) : Type 0 where
  pub step : (records : List ℕ) (shapes : List Float) (cells : List ℕ) (w : Window) (rules : Rules) (body : BodyNumbers) (given : MotionNumbers) (age : ℕ)
      → let under : ℕ → StepAnswer = λ c. step_entry records shapes cells w (with_cap rules c) body given age in
      Alters6 (under cap).refusal (under cap) (under higher)
  pub falling : (records : List ℕ) (shapes : List Float) (cells : List ℕ) (w : Window) (rules : Rules) (body : BodyNumbers) (given : MotionNumbers) (age : ℕ) (fall : Fall)
      → let under : ℕ → FallingAnswer = λ c. falling_entry records shapes cells w (with_cap rules c) body given age fall in
      Alters6 (under cap).step.refusal (under cap) (under higher)
  pub move : (records : List ℕ) (shapes : List Float) (cells : List ℕ) (w : Window) (aabb : Aabb) (delta : Vec3) (step_height : Float) (was_on_ground : Bool)
      → let under : ℕ → MoveAnswer = λ c. move_entry c records shapes cells w aabb delta step_height was_on_ground in
      Alters6 (under cap).refusal (under cap) (under higher)
  pub collection : (records : List ℕ) (shapes : List Float) (cells : List ℕ) (w : Window) (area : Aabb)
      → let under : ℕ → Held = λ c. collect_entry c records shapes cells w area in
      Alters6 (under cap).refusal (under cap) (under higher)
  pub list : (boxes : BoxList) (aabb : Aabb) (delta : Vec3) (step_height : Float) (was_on_ground : Bool)
      → let under : ℕ → MoveAnswer = λ c. move_over_list c boxes aabb delta step_height was_on_ground in
      Alters6 (under cap).refusal (under cap) (under higher)
  -- and over a summary
  pub summed_step : (records : List ℕ) (shapes : List Float) (words : List ℕ) (w : Window) (rules : Rules) (body : BodyNumbers) (given : MotionNumbers) (age : ℕ)
      → let under : ℕ → StepAnswer = λ c. step_summed records shapes words w (with_cap rules c) body given age in
      Alters6 (under cap).refusal (under cap) (under higher)
  pub summed_falling : (records : List ℕ) (shapes : List Float) (words : List ℕ) (w : Window) (rules : Rules) (body : BodyNumbers) (given : MotionNumbers) (age : ℕ) (fall : Fall)
      → let under : ℕ → FallingAnswer = λ c. falling_summed records shapes words w (with_cap rules c) body given age fall in
      Alters6 (under cap).step.refusal (under cap) (under higher)
  pub summed_move : (records : List ℕ) (shapes : List Float) (words : List ℕ) (w : Window) (aabb : Aabb) (delta : Vec3) (step_height : Float) (was_on_ground : Bool)
      → let under : ℕ → MoveAnswer = λ c. move_summed c records shapes words w aabb delta step_height was_on_ground in
      Alters6 (under cap).refusal (under cap) (under higher)
