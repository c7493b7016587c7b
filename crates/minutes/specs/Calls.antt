-- A minute in lent memory: a body in the order of a scene file, 19 numbers and 7 words, a log as its bytes, and `places`, how many numbers there is room
-- for in what is lent to be written to.
use Rattle.std.specs.Prelude.{Bool, ◌&&◌, List, ℕ, leb, Float}
use Rattle.base.specs.Choose.{choose}
use Rattle.bodies.specs.Numbers.{lengths_fit}
use Rattle.bodies.specs.Lent.{motion_at, body_at, rules_at, body_refusal}
use Rattle.window.specs.declared.Window.{Window}
use Rattle.lent.specs.Lent.{lent_refusal}
use Rattle.summary.specs.Calls.{plain_words}
use Rattle.lent_room.specs.Room.{short_of}
use Rattle.logs.specs.Logs.{is_log, events_of}
use Rattle.minute_state.specs.Minute.{State, lent_by, start, minute}

-- ---- what is handed over

abbrev pub minute_places : ℕ
minute_places = 12

-- lengths that fit, and room for what is written
abbrev pub whole_minute : List Float → List ℕ → ℕ → Bool
whole_minute numbers words places = lengths_fit numbers words && leb minute_places places

-- where they do not: 1 or 2, then 3 or 4, then 11
abbrev pub short_at : List ℕ → List Float → List ℕ → Window → List Float → List ℕ → ℕ
short_at records shapes cells w numbers words = short_of (lent_refusal records shapes (plain_words cells w) w) (body_refusal records numbers words)

-- ---- the state after the log: 8, then 1 to 4 and 11 in order, before anything runs; then as `minute` has it

unfoldable pub minute_at : List ℕ → List Float → List ℕ → Window → List Float → List ℕ → ℕ → List ℕ → ℕ → State
minute_at records shapes cells w numbers words age log places =
    choose (is_log log)
    (choose (whole_minute numbers words places)
    (minute (lent_by records shapes w (rules_at numbers words) (body_at numbers words)) cells (motion_at numbers words) age (events_of log))
    (start (motion_at numbers words) age cells (short_at records shapes cells w numbers words)))
    (start (motion_at numbers words) age cells 8)
