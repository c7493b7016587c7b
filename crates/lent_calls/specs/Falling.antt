-- The step with a fall record, in lent numbers: a body as `Ticks` has it, and the record.
use Rattle.std.specs.Prelude.{List, ℕ, leb, Float}
use Rattle.base.specs.Choose.{choose}
use Rattle.window.specs.declared.Window.{Window}
use Rattle.lent.specs.Lent.{lent_refusal}
use Rattle.base.specs.Ask.{Ask}
use Rattle.summary.specs.Calls.{plain_words}
use Rattle.step_answers.specs.declared.Tick.{Tick}
use Rattle.step.specs.Answers.{step_answer}
use Rattle.fall_rule.specs.declared.Fall.{Fall}
use Rattle.step_answers.specs.Records.{FallingAnswer}
use Rattle.fall_rule.specs.Rule.{fall_fits}
use Rattle.falls.specs.Answers.{with_fall}
use Rattle.lent_steps.specs.Falling.{falling_places}
use Rattle.lent_room.specs.Room.{roomy}
use Rattle.lent_calls.specs.Ticks.{motion_at, body_refusal, tick_at, summed_tick}

-- 3 also for the record
unfoldable pub falling_refusal : List ℕ → List Float → List ℕ → Fall → ℕ
falling_refusal records numbers words fall = choose (fall_fits fall) (body_refusal records numbers words) 3

-- 1 and 2, 3, 4 and 11 in order, before any cell is asked for; then as the step
unfoldable pub falling_by : ℕ → Ask Tick → List ℕ → List Float → List ℕ → Fall → ℕ → FallingAnswer
falling_by lent asked records numbers words fall places =
    with_fall fall (motion_at numbers words)
    (step_answer (motion_at numbers words) (roomy lent (falling_refusal records numbers words fall) (leb falling_places places) asked))

unfoldable pub falling_at : List ℕ → List Float → List ℕ → Window → List Float → List ℕ → ℕ → Fall → ℕ → FallingAnswer
falling_at records shapes cells w numbers words age fall places =
    falling_by (lent_refusal records shapes cells w) (tick_at records shapes cells w numbers words age) records numbers words fall places

-- over a summary behind the window's words
unfoldable pub falling_summed_at : List ℕ → List Float → List ℕ → Window → List Float → List ℕ → ℕ → Fall → ℕ → FallingAnswer
falling_summed_at records shapes cells w numbers words age fall places =
    falling_by (lent_refusal records shapes (plain_words cells w) w) (summed_tick records shapes cells w numbers words age) records numbers words fall places
