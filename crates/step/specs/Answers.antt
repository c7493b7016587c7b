-- What a host is handed.
use Rattle.std.specs.Prelude.{not, List, ℕ, eqb, Float}
use Rattle.base.specs.Ask.{Ask, refused, found}
use Rattle.floats.specs.Numbers.{Answer, zero64}
use Rattle.boxes.specs.declared.Vec3.{Vec3}
use Rattle.window.specs.declared.Window.{Window}
use Rattle.window.specs.Look.{look_at}
use Rattle.window.specs.Numbers.{with_air}
use Rattle.lent.specs.Lent.{unless, sound}
use Rattle.summary.specs.Calls.{plain_words, summed}
use Rattle.bodies.specs.declared.BodyNumbers.{BodyNumbers}
use Rattle.bodies.specs.declared.Rules.{Rules}
use Rattle.bodies.specs.declared.Motion.{Motion}
use Rattle.bodies.specs.declared.MotionNumbers.{MotionNumbers}
use Rattle.step_answers.specs.declared.Tick.{Tick}
use Rattle.step_answers.specs.Records.{StepAnswer, FrictionAnswer}
pub use Rattle.step_answers.specs.Answers.{step_answer, friction_answer}
use Rattle.bodies.specs.Body.{yes_number, body_of, motion_of}
use Rattle.bodies.specs.Limits.{rules_fit, is_position, number_refusal}
use Rattle.samples.specs.Samples.{living_sample, living_block_friction}
use Rattle.ticks.specs.Step.{step_body_sensed, step_body_past}

-- 3, then 4, before any cell is asked for
abbrev pub fitting : {A : Type 0} → List ℕ → Rules → BodyNumbers → MotionNumbers → Ask A → Ask A
fitting records rules body given ask =
    unless (not (eqb (number_refusal records rules body given) 0)) (number_refusal records rules body given) ask

-- then 5, 6 or 7 at the first such event
abbrev pub checked_asked : List ℕ → List Float → List ℕ → Window → Rules → BodyNumbers → MotionNumbers → ℕ → Ask Tick
checked_asked records shapes cells w rules body given age =
    fitting records rules body given
    (step_body_sensed (look_at cells (with_air w rules.air)) records shapes rules (body_of body) (motion_of given) age)

-- the same where the move goes by the summary behind the words; over a window that has none, or a true one, it is the same (proofs/Laws.antt)
abbrev pub past_asked : List ℕ → List Float → List ℕ → Window → Rules → BodyNumbers → MotionNumbers → ℕ → Ask Tick
past_asked records shapes words w rules body given age =
    fitting records rules body given
    (step_body_past words (with_air w rules.air) records shapes rules (body_of body) (motion_of given) age)

-- step_checked: over tables and a window that were checked before, and so was its summary, where there is one
unfoldable pub checked_entry : List ℕ → List Float → List ℕ → Window → Rules → BodyNumbers → MotionNumbers → ℕ → StepAnswer
checked_entry records shapes words w rules body given age = step_answer given (past_asked records shapes words w rules body given age)

-- step_body_sensed: 1 and 2 before all that
abbrev pub step_asked : List ℕ → List Float → List ℕ → Window → Rules → BodyNumbers → MotionNumbers → ℕ → Ask Tick
step_asked records shapes cells w rules body given age = sound records shapes cells w (checked_asked records shapes cells w rules body given age)

unfoldable pub step_entry : List ℕ → List Float → List ℕ → Window → Rules → BodyNumbers → MotionNumbers → ℕ → StepAnswer
step_entry records shapes cells w rules body given age = step_answer given (step_asked records shapes cells w rules body given age)

-- over a summary, which is of a window and an air state: 11 and 13 after 4, then the step over cells and columns
abbrev pub summed_asked : List ℕ → List Float → List ℕ → Window → Rules → BodyNumbers → MotionNumbers → ℕ → Ask Tick
summed_asked records shapes words w rules body given age =
    fitting records rules body given
    (summed records words (with_air w rules.air) (checked_asked records shapes (plain_words words w) w rules body given age))

unfoldable pub step_summed : List ℕ → List Float → List ℕ → Window → Rules → BodyNumbers → MotionNumbers → ℕ → StepAnswer
step_summed records shapes words w rules body given age =
    step_answer given (sound records shapes (plain_words words w) w (summed_asked records shapes words w rules body given age))

-- step_body: the same without what was sensed
pub record MotionAnswer : Type 0 where
  pub motion : MotionNumbers
  pub refusal : ℕ

abbrev pub motion_answer : MotionNumbers → Ask Motion → MotionAnswer
motion_answer given (refused n) = record { motion = given; refusal = n }
motion_answer given (found m) =
    record { motion = record { feet = m.feet; velocity = m.velocity; on_ground = yes_number m.on_ground }; refusal = 0 }

abbrev pub motion_alone : StepAnswer → MotionAnswer
motion_alone a = record { motion = a.motion; refusal = a.refusal }

-- ---- living_block_friction

-- 1 to 4 in order, before any cell is asked for
abbrev pub fitting_friction : {A : Type 0} → List ℕ → List Float → List ℕ → Window → Rules → Vec3 → Ask A → Ask A
fitting_friction records shapes cells w rules feet ask =
    sound records shapes cells w (unless (not (rules_fit records rules)) 3 (unless (not (is_position feet)) 4 ask))

-- then 5
unfoldable pub friction_entry : List ℕ → List Float → List ℕ → Window → Rules → Vec3 → FrictionAnswer
friction_entry records shapes cells w rules feet =
    friction_answer rules.friction
    (fitting_friction records shapes cells w rules feet (living_sample (look_at cells (with_air w rules.air)) records rules feet))

-- its number alone, as the Rust answers it; that the entry's is this one is a law (`number-kept`)
abbrev pub number_answer : Ask Float → Answer
number_answer (refused n) = record { refusal = n; value = zero64 }
number_answer (found x) = record { refusal = 0; value = x }

abbrev pub friction_alone : List ℕ → List Float → List ℕ → Window → Rules → Vec3 → Answer
friction_alone records shapes cells w rules feet =
    number_answer (fitting_friction records shapes cells w rules feet (living_block_friction (look_at cells (with_air w rules.air)) records rules feet))
