-- A minute: a body run through a list of events. Document 02's words stand in quotes.
use Rattle.std.specs.Prelude.{ℕ, ◌+◌, ◌%◌, List, [], ◌∷◌, ◌++◌, ◌==◌, Float}
use Rattle.base.specs.Choose.{choose}
use Rattle.boxes.specs.declared.Vec3.{Vec3}
use Rattle.bodies.specs.declared.BodyNumbers.{BodyNumbers}
use Rattle.bodies.specs.declared.Rules.{Rules}
use Rattle.bodies.specs.declared.MotionNumbers.{MotionNumbers}
use Rattle.bodies.specs.Limits.{number_refusal}
use Rattle.window.specs.declared.Pos.{Pos}
use Rattle.window.specs.declared.Window.{Window}
use Rattle.window.specs.Numbers.{with_air}
use Rattle.lent.specs.Lent.{lent_refusal}
use Rattle.groups.specs.Groups.{cell_at}
use Rattle.groups.specs.Summary.{build_refusal, built, set_refusal, after_set}
use Rattle.summary.specs.Calls.{plain_words}
use Rattle.fall_rule.specs.declared.Fall.{Fall}
use Rattle.step_answers.specs.Records.{FallingAnswer}
use Rattle.fall_rule.specs.Rule.{fresh}
use Rattle.falls.specs.Answers.{falling_checked}
use Rattle.logs.specs.declared.CellSet.{CellSet}
use Rattle.logs.specs.declared.Event.{Event}
use Rattle.logs.specs.declared.Event.TheVariants as event
use Rattle.minute_state.specs.declared.Lent.{Lent}

-- ---- what a minute keeps as it is, and what an event finds and leaves

pub record MinuteLent : Type 0 where
  pub records : List ℕ
  pub shapes : List Float
  pub window : Window
  pub rules : Rules
  pub body : BodyNumbers

abbrev pub lent_by : List ℕ → List Float → Window → Rules → BodyNumbers → MinuteLent
lent_by records shapes w rules body = record { records = records; shapes = shapes; window = w; rules = rules; body = body }

-- what the program holds of it
abbrev pub lent_seen : Lent → MinuteLent
lent_seen l = lent_by l.tables.records.now l.tables.shapes.now l.window l.rules l.body

-- the window's air is that of the rules, as in every step
abbrev pub minute_window : MinuteLent → Window
minute_window l = with_air l.window l.rules.air

-- "with fall record and summary kept": the words are those of cells, columns and summary; a line is the feet after a tick; refusal is 0, or what
-- ended the run
pub record State : Type 0 where
  pub motion : MotionNumbers
  pub age : ℕ
  pub fall : Fall
  pub words : List ℕ
  pub lines : List Vec3
  pub refusal : ℕ

-- ---- a tick: the step over the window as it then is, with its own 3 and 4

-- "its age rising by one after each tick", and it "wraps at 2^64 to 0"
abbrev pub older : ℕ → ℕ
older age = (age + 1) % 18446744073709551616

abbrev pub step_on : MinuteLent → State → FallingAnswer
step_on l s = falling_checked l.records l.shapes s.words (minute_window l) l.rules l.body s.motion s.age s.fall

-- a refusal leaves all as it was
abbrev pub ended : State → ℕ → State
ended s n = record { motion = s.motion; age = s.age; fall = s.fall; words = s.words; lines = s.lines; refusal = n }

abbrev pub after_step : State → FallingAnswer → State
after_step s a =
    record {
      motion = a.step.motion;
      age = older s.age;
      fall = a.fall;
      words = s.words;
      lines = s.lines ++ (a.step.motion.feet ∷ []);
      refusal = 0;
    }

unfoldable pub ticked : State → FallingAnswer → State
ticked s a = choose (a.step.refusal == 0) (after_step s a) (ended s a.step.refusal)

-- ---- a set: one cell is written and one word of the summary mended; "5 for a set outside the window"

-- "packed position counted from the window's origin"
abbrev pub set_place : MinuteLent → CellSet → Pos
set_place l q = cell_at (minute_window l) q.x q.y q.z

abbrev pub changed : MinuteLent → State → CellSet → State
changed l s q =
    record {
      motion = s.motion;
      age = s.age;
      fall = s.fall;
      words = after_set l.records s.words (minute_window l) (set_place l q) q.state;
      lines = s.lines;
      refusal = set_refusal s.words (minute_window l) (set_place l q);
    }

-- ---- the events, one after the other: "a refusal during the run … ends it"

abbrev pub event_on : MinuteLent → State → Event → State
event_on l s event.Tick = ticked s (step_on l s)
event_on l s (event.Set q) = changed l s q

unfoldable pub after : MinuteLent → State → List Event → State
after l s [] = s
after l s (e ∷ es) = choose (s.refusal == 0) (after l (event_on l s e) es) s

-- ---- the whole: "1 to 4 of the scene, before anything runs", then 11 for words with no room for a summary

unfoldable pub start_refusal : MinuteLent → List ℕ → MotionNumbers → ℕ
start_refusal l words given =
    let lent = lent_refusal l.records l.shapes (plain_words words (minute_window l)) (minute_window l) in
    let numbers = number_refusal l.records l.rules l.body given in
    choose (lent == 0) (choose (numbers == 0) (build_refusal words (minute_window l)) numbers) lent

-- before the first event the fall record is fresh
abbrev pub start : MotionNumbers → ℕ → List ℕ → ℕ → State
start given age words n = record { motion = given; age = age; fall = fresh; words = words; lines = []; refusal = n }

unfoldable pub minute : MinuteLent → List ℕ → MotionNumbers → ℕ → List Event → State
minute l words given age events =
    choose (start_refusal l words given == 0)
    (after l (start given age (built l.records words (minute_window l)) 0) events)
    (start given age words (start_refusal l words given))

-- ---- the lines as numbers: the feet's x, y and z of each

unfoldable pub lines_as_numbers : List Vec3 → List Float
lines_as_numbers [] = []
lines_as_numbers (v ∷ vs) = v.x ∷ v.y ∷ v.z ∷ lines_as_numbers vs
