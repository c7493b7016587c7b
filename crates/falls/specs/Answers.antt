-- The step with a fall record beside it: the step's own refusals and answers, a 3 more, and the record after it.
use Rattle.std.specs.Prelude.{not, List, ◌≡◌, ℕ, Float}
use Rattle.base.specs.Ask.{Ask}
use Rattle.tables.specs.declared.LiquidKind.TheVariants.{None}
use Rattle.drags.specs.declared.Support.TheVariants.{NotAsked}
use Rattle.window.specs.declared.Window.{Window}
use Rattle.lent.specs.Lent.{unless, sound}
use Rattle.summary.specs.Calls.{plain_words}
use Rattle.bodies.specs.declared.BodyNumbers.{BodyNumbers}
use Rattle.bodies.specs.declared.Rules.{Rules}
use Rattle.bodies.specs.declared.MotionNumbers.{MotionNumbers}
use Rattle.step_answers.specs.declared.Tick.{Tick}
use Rattle.step_answers.specs.Records.{FallingAnswer}
use Rattle.step_answers.specs.Answers.{step_answer}
pub use Rattle.step_answers.specs.Answers.{fall_over, refused_falling}
unfoldable pub use Rattle.step_answers.specs.Answers.{with_fall}
use Rattle.step.specs.Answers.{checked_asked, past_asked, summed_asked}
use Rattle.fall_rule.specs.declared.Fall.{Fall}
use Rattle.fall_rule.specs.Rule.{fall_fits}

-- the record's 3 is among the 3s: then the step's own 3, and 4, before any cell is asked for
abbrev pub falling_asked : List ℕ → List Float → List ℕ → Window → Rules → BodyNumbers → MotionNumbers → ℕ → Fall → Ask Tick
falling_asked records shapes cells w rules body given age fall =
    unless (not (fall_fits fall)) 3 (checked_asked records shapes cells w rules body given age)

-- step_falling_checked: over tables and a window that were checked before, and so was its summary, where there is one
unfoldable pub falling_checked : List ℕ → List Float → List ℕ → Window → Rules → BodyNumbers → MotionNumbers → ℕ → Fall → FallingAnswer
falling_checked records shapes words w rules body given age fall =
    with_fall fall given (step_answer given (unless (not (fall_fits fall)) 3 (past_asked records shapes words w rules body given age)))

-- step_falling: 1 and 2 before all that
unfoldable pub falling_entry : List ℕ → List Float → List ℕ → Window → Rules → BodyNumbers → MotionNumbers → ℕ → Fall → FallingAnswer
falling_entry records shapes cells w rules body given age fall =
    with_fall fall given (step_answer given (sound records shapes cells w (falling_asked records shapes cells w rules body given age fall)))

-- step_falling_summed: over a summary, 11 and 13 after 4
unfoldable pub falling_summed : List ℕ → List Float → List ℕ → Window → Rules → BodyNumbers → MotionNumbers → ℕ → Fall → FallingAnswer
falling_summed records shapes words w rules body given age fall =
    with_fall fall given
    (step_answer given
    (sound records shapes (plain_words words w) w
    (unless (not (fall_fits fall)) 3 (summed_asked records shapes words w rules body given age))))

-- what a refusal hands back: "position, velocity and ground flag as given and liquid none", no sample asked for, and the record unchanged
pub record HandedBack (given : MotionNumbers) (before : Fall) (r : FallingAnswer) : Type 0 where
  pub motion : r.step.motion ≡ given
  pub liquid : r.step.liquid ≡ None
  pub support : r.step.support ≡ NotAsked
  pub fall : r.fall ≡ before
