-- The step in lent numbers: a body in the order of a scene file, 19 numbers and 7 words, and `places`, how many numbers there is room for in
-- what is lent to be written to.
use Rattle.std.specs.Prelude.{List, ℕ, leb, Float}
use Rattle.base.specs.Ask.{Ask}
use Rattle.bodies.specs.Body.{body_of, motion_of}
pub use Rattle.bodies.specs.Lent.{motion_at, body_at, rules_at}
unfoldable pub use Rattle.bodies.specs.Lent.{body_refusal}
use Rattle.lent.specs.Lent.{lent_refusal}
use Rattle.summary.specs.Calls.{plain_words, summed}
use Rattle.window.specs.declared.Window.{Window}
use Rattle.window.specs.Look.{look_at}
use Rattle.window.specs.Numbers.{with_air}
use Rattle.step_answers.specs.Records.{StepAnswer}
use Rattle.step_answers.specs.declared.Tick.{Tick}
use Rattle.step.specs.Answers.{step_answer}
use Rattle.ticks.specs.Step.{step_body_sensed, step_body_past}
use Rattle.lent_room.specs.Room.{roomy}
use Rattle.lent_steps.specs.Steps.{step_places}

-- ---- the step: 1 and 2 (`lent`), 3, 4 and 11 in order, before any cell is asked for; then 5, 6 or 7 at the first such event

abbrev pub tick_at : List ℕ → List Float → List ℕ → Window → List Float → List ℕ → ℕ → Ask Tick
tick_at records shapes cells w numbers words age =
    step_body_sensed (look_at cells (with_air w (rules_at numbers words).air)) records shapes (rules_at numbers words) (body_of (body_at numbers words)) (motion_of (motion_at numbers words)) age

-- where this tick is asked for
unfoldable pub stepped_by : ℕ → Ask Tick → List ℕ → List Float → List ℕ → ℕ → StepAnswer
stepped_by lent asked records numbers words places =
    step_answer (motion_at numbers words) (roomy lent (body_refusal records numbers words) (leb step_places places) asked)

unfoldable pub step_at : List ℕ → List Float → List ℕ → Window → List Float → List ℕ → ℕ → ℕ → StepAnswer
step_at records shapes cells w numbers words age places =
    stepped_by (lent_refusal records shapes cells w) (tick_at records shapes cells w numbers words age) records numbers words places

-- over tables and a window that were checked before, by the summary behind the window's words, where there is one
abbrev pub past_at : List ℕ → List Float → List ℕ → Window → List Float → List ℕ → ℕ → Ask Tick
past_at records shapes cells w numbers words age =
    step_body_past cells (with_air w (rules_at numbers words).air) records shapes (rules_at numbers words) (body_of (body_at numbers words)) (motion_of (motion_at numbers words)) age

unfoldable pub checked_at : List ℕ → List Float → List ℕ → Window → List Float → List ℕ → ℕ → ℕ → StepAnswer
checked_at records shapes cells w numbers words age places = stepped_by 0 (past_at records shapes cells w numbers words age) records numbers words places

-- over a summary behind the window's words: its 11 and 13 come behind the 11 of the room, and then the step over cells and columns
abbrev pub summed_tick : List ℕ → List Float → List ℕ → Window → List Float → List ℕ → ℕ → Ask Tick
summed_tick records shapes cells w numbers words age =
    summed records cells (with_air w (rules_at numbers words).air) (tick_at records shapes (plain_words cells w) w numbers words age)

unfoldable pub summed_at : List ℕ → List Float → List ℕ → Window → List Float → List ℕ → ℕ → ℕ → StepAnswer
summed_at records shapes cells w numbers words age places =
    stepped_by (lent_refusal records shapes (plain_words cells w) w) (summed_tick records shapes cells w numbers words age) records numbers words places
