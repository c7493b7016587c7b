-- The same minute as separate steps: each tick is the single step as a host calls it, with all its checks, over a window without a summary; each set
-- writes one cell of that window. Document 02's words stand in quotes.
use Rattle.std.specs.Prelude.{true, List, [], ◌∷◌, ◌++◌, ◌≡◌, ℕ, eqb, set}
use Rattle.base.specs.Choose.{choose}
use Rattle.boxes.specs.declared.Vec3.{Vec3}
use Rattle.bodies.specs.declared.MotionNumbers.{MotionNumbers}
use Rattle.window.specs.Window.{index_of}
use Rattle.groups.specs.Summary.{is_inside, agrees}
use Rattle.summary.specs.Calls.{plain_words}
use Rattle.fall_rule.specs.declared.Fall.{Fall}
use Rattle.step_answers.specs.Records.{FallingAnswer}
use Rattle.falls.specs.Answers.{falling_entry}
use Rattle.logs.specs.declared.CellSet.{CellSet}
use Rattle.logs.specs.declared.Event.{Event}
use Rattle.logs.specs.declared.Event.TheVariants as event
use Rattle.minute_state.specs.Minute.{MinuteLent, minute_window, State, older, ended, ticked, set_place}

-- the words of a state are those of cells and columns here
abbrev pub separate_step : MinuteLent → State → FallingAnswer
separate_step l s = falling_entry l.records l.shapes s.words (minute_window l) l.rules l.body s.motion s.age s.fall

-- "the windows as each set left them"
unfoldable pub set_alone : MinuteLent → State → CellSet → State
set_alone l s q =
    choose (is_inside (minute_window l) (set_place l q))
    record {
      motion = s.motion;
      age = s.age;
      fall = s.fall;
      words = set s.words (index_of (minute_window l) (set_place l q)) q.state;
      lines = s.lines;
      refusal = 0;
    }
    (ended s 5)

abbrev pub event_alone : MinuteLent → State → Event → State
event_alone l s event.Tick = ticked s (separate_step l s)
event_alone l s (event.Set q) = set_alone l s q

unfoldable pub separately : MinuteLent → State → List Event → State
separately l s [] = s
separately l s (e ∷ es) = choose (eqb s.refusal 0) (separately l (event_alone l s e) es) s

-- "The state after the log equals that of separate steps": all of it but the summary, each of whose words equals the one built afresh
pub record Equals (l : MinuteLent) (run alone : State) : Type 0 where
  pub motion : run.motion ≡ alone.motion
  pub age : run.age ≡ alone.age
  pub fall : run.fall ≡ alone.fall
  pub cells : plain_words run.words (minute_window l) ≡ alone.words
  pub summary : agrees l.records run.words (minute_window l) ≡ true
  pub lines : run.lines ≡ alone.lines
  pub refusal : run.refusal ≡ alone.refusal
