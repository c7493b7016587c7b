-- The minute of a log file, as separate steps. Document 02's words stand in quotes.
use Rattle.std.specs.Prelude.{List, [], ℕ, eqb, take}
use Rattle.base.specs.Choose.{choose}
use Rattle.floats.specs.Numbers.{zero64}
use Rattle.boxes.specs.Boxes.{vec}
use Rattle.bodies.specs.declared.MotionNumbers.{MotionNumbers}
use Rattle.bodies.specs.Limits.{number_refusal}
use Rattle.bodies.specs.Lent.{motion_at, body_at, rules_at}
use Rattle.lent.specs.Lent.{lent_refusal}
use Rattle.files.specs.Contents.{Contents, contents_in}
use Rattle.logs.specs.declared.Event.{Event}
use Rattle.logs.specs.Logs.{scene_in, is_log, events_of}
use Rattle.minute_state.specs.Minute.{MinuteLent, lent_by, minute_window, State, start}
use Rattle.minute.specs.Separate.{separately}

-- ---- over tables, cells and a body

-- "1 to 4 of the scene, before anything runs"
unfoldable pub logged_refusal : MinuteLent → List ℕ → MotionNumbers → ℕ
logged_refusal l cells given =
    let lent = lent_refusal l.records l.shapes cells (minute_window l) in
    choose (eqb lent 0) (number_refusal l.records l.rules l.body given) lent

unfoldable pub minute_alone : MinuteLent → List ℕ → MotionNumbers → ℕ → List Event → State
minute_alone l cells given age events =
    choose (eqb (logged_refusal l cells given) 0) (separately l (start given age cells 0) events) (start given age cells (logged_refusal l cells given))

-- ---- of a scene

abbrev pub lent_of : Contents → MinuteLent
lent_of c = lent_by c.records c.shapes c.window (rules_at c.numbers c.words) (body_at c.numbers c.words)

unfoldable pub minute_over : Contents → List Event → State
minute_over c events = minute_alone (lent_of c) c.cells (motion_at c.numbers c.words) c.age events

-- ---- of a file: 8 comes first, and there is nothing to hand back

abbrev pub malformed_log : State
malformed_log = start record { feet = vec zero64 zero64 zero64; velocity = vec zero64 zero64 zero64; on_ground = 0 } 0 [] 8

-- "Run the scene's body through them"
unfoldable pub minute_in : List ℕ → State
minute_in file = choose (is_log file) (minute_over (contents_in (scene_in file)) (events_of file)) malformed_log

-- the same of the first so many events
unfoldable pub minute_first : List ℕ → ℕ → State
minute_first file n = choose (is_log file) (minute_over (contents_in (scene_in file)) (take n (events_of file))) malformed_log
