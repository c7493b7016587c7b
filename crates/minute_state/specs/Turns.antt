-- What the program works with: it counts the lines and writes each where it belongs, in a lent place. `proofs/Turns` shows that this comes to the
-- minute as defined in `Minute`.
use Rattle.std.specs.Prelude.{Result, ⊤, ℕ, ◌+◌, ◌*◌, ◌%◌, List, [], ◌∷◌, length, ◌==◌, Float}
use Rattle.base.specs.Choose.{choose}
use Rattle.base.specs.Loop.{stored}
use Rattle.base.specs.declared.Refusal.{Refusal}
use Rattle.base.specs.Refusals.{verdict}
use Rattle.boxes.specs.declared.Vec3.{Vec3}
use Rattle.bodies.specs.declared.MotionNumbers.{MotionNumbers}
use Rattle.fall_rule.specs.declared.Fall.{Fall}
use Rattle.step_answers.specs.Records.{FallingAnswer}
use Rattle.falls.specs.Answers.{falling_checked}
use Rattle.groups.specs.Summary.{set_refusal, after_set}
use Rattle.logs.specs.declared.Event.{Event}
use Rattle.logs.specs.declared.Event.TheVariants as event
use Rattle.minute_state.specs.declared.Minute.{Minute as Kept}
use Rattle.minute_state.specs.Minute.{MinuteLent, minute_window, State, older, set_place}

-- what a host is handed of the state after a log: how many ticks were done, and the refusal that ended it, or 0
pub record Minute : Type 0 where
  pub motion : MotionNumbers
  pub age : ℕ
  pub fall : Fall
  pub ticks : ℕ
  pub refusal : ℕ

-- what the program holds of it, by what is said of its end
abbrev pub seen_by : {V : Type 0} → (V → ℕ) → Kept V → Minute
seen_by says m = record { motion = m.motion; age = m.age; fall = m.fall; ticks = m.ticks; refusal = says m.ended }

abbrev pub minute_seen : Kept (Result ⊤ Refusal) → Minute
minute_seen m = seen_by verdict m

-- what a state leaves in the program's hands
abbrev pub minute_of : State → Minute
minute_of s = record { motion = s.motion; age = s.age; fall = s.fall; ticks = length s.lines; refusal = s.refusal }

abbrev pub state_of : Minute → List ℕ → List Vec3 → State
state_of m words lines = record { motion = m.motion; age = m.age; fall = m.fall; words = words; lines = lines; refusal = m.refusal }

abbrev pub ended_with : Minute → ℕ → Minute
ended_with m n = record { motion = m.motion; age = m.age; fall = m.fall; ticks = m.ticks; refusal = n }

-- ---- a tick

abbrev pub step_by : MinuteLent → List ℕ → Minute → FallingAnswer
step_by l words m = falling_checked l.records l.shapes words (minute_window l) l.rules l.body m.motion m.age m.fall

-- the ticks are counted in 32 bits: past 2^32 - 1, which no log comes near, it is 0
abbrev pub later : ℕ → ℕ
later ticks = (ticks + 1) % 4294967296

abbrev pub stepped_minute : Minute → FallingAnswer → Minute
stepped_minute m a = record { motion = a.step.motion; age = older m.age; fall = a.fall; ticks = later m.ticks; refusal = 0 }

unfoldable pub ticked_by : Minute → FallingAnswer → Minute
ticked_by m a = choose (a.step.refusal == 0) (stepped_minute m a) (ended_with m a.step.refusal)

abbrev pub feet_numbers : Vec3 → List Float
feet_numbers v = v.x ∷ v.y ∷ v.z ∷ []

unfoldable pub feet_by : List Float → Minute → FallingAnswer → List Float
feet_by feet m a = choose (a.step.refusal == 0) (stored feet (m.ticks * 3) (feet_numbers a.step.motion.feet)) feet

-- ---- an event

abbrev pub turned_by : MinuteLent → List ℕ → Minute → Event → Minute
turned_by l words m event.Tick = ticked_by m (step_by l words m)
turned_by l words m (event.Set q) = ended_with m (set_refusal words (minute_window l) (set_place l q))

abbrev pub words_by : MinuteLent → List ℕ → Event → List ℕ
words_by l words event.Tick = words
words_by l words (event.Set q) = after_set l.records words (minute_window l) (set_place l q) q.state

abbrev pub feet_after : MinuteLent → List ℕ → Minute → List Float → Event → List Float
feet_after l words m feet event.Tick = feet_by feet m (step_by l words m)
feet_after l words m feet (event.Set q) = feet
