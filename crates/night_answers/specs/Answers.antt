-- One body's answer: 3 for a row that is not there whole; 10 for naming no window; 2 for what its window is; then the step's own, 3 to 7, with 13 of
-- the window's summary after 4.
use Rattle.std.specs.Prelude.{List, ℕ, ltb, eqb, Float}
use Rattle.base.specs.Choose.{choose}
use Rattle.bodies.specs.Limits.{number_refusal}
use Rattle.step_answers.specs.Records.{FallingAnswer}
use Rattle.fall_rule.specs.Rule.{fall_fits}
use Rattle.falls.specs.Answers.{refused_falling, falling_checked, falling_entry}
use Rattle.night_rows.specs.declared.WindowRow.{WindowRow}
use Rattle.night_rows.specs.Rows.{Row, window_at, is_whole, named_in, age_in, given_in, body_in, rules_in, fall_in}
use Rattle.night_windows.specs.Windows.{cells_in, last_in, refusal_at, step_words}

-- what all bodies share: the tables, and so many windows, in rows, over the words of all of them
pub record NightLent : Type 0 where
  pub records : List ℕ
  pub shapes : List Float
  pub windows : List ℕ
  pub count : ℕ
  pub cells : List ℕ

abbrev pub lent_with : List ℕ → List Float → List ℕ → ℕ → List ℕ → NightLent
lent_with records shapes windows count cells =
    record { records = records; shapes = shapes; windows = windows; count = count; cells = cells }

-- ---- a body

-- a refused body: its motion and fall record as given, and liquid none
abbrev pub refused_body : ℕ → Row → FallingAnswer
refused_body n row = refused_falling n (given_in row) (fall_in row)

-- the single step in a window, with its checks of tables and window; and the one after both
abbrev pub single_step : List ℕ → List Float → List ℕ → WindowRow → Row → FallingAnswer
single_step records shapes cells w row =
    falling_entry records shapes (cells_in cells w) w.window (rules_in row) (body_in row) (given_in row) (age_in row) (fall_in row)

unfoldable pub checked_step : List ℕ → List Float → List ℕ → WindowRow → Row → FallingAnswer
checked_step records shapes cells w row =
    falling_checked records shapes (step_words (cells_in cells w) w.window (rules_in row).air) w.window (rules_in row) (body_in row) (given_in row) (age_in row) (fall_in row)

-- 13 comes after the body's own 3 and 4
unfoldable pub late_body : List ℕ → Row → FallingAnswer
late_body records row =
    choose (fall_fits (fall_in row))
    (choose (eqb (number_refusal records (rules_in row) (body_in row) (given_in row)) 0) (refused_body 13 row)
    (refused_body (number_refusal records (rules_in row) (body_in row) (given_in row)) row))
    (refused_body 3 row)

-- a window whose check said 13, of which a body of another air state does not know, or 2
unfoldable pub wrong_step : ℕ → List ℕ → List Float → List ℕ → WindowRow → Row → FallingAnswer
wrong_step refusal records shapes cells w row =
    choose (eqb refusal 13)
    (choose (eqb (last_in (cells_in cells w)) (rules_in row).air) (late_body records row) (checked_step records shapes cells w row))
    (refused_body 2 row)

-- by what its window's check said
unfoldable pub row_answer_by : ℕ → NightLent → Row → FallingAnswer
row_answer_by refusal lent row =
    choose (is_whole row)
    (choose (ltb (named_in row) lent.count)
    (choose (eqb refusal 0) (checked_step lent.records lent.shapes lent.cells (window_at lent.windows (named_in row)) row)
    (wrong_step refusal lent.records lent.shapes lent.cells (window_at lent.windows (named_in row)) row))
    (refused_body 10 row))
    (refused_body 3 row)

abbrev pub row_answer : NightLent → Row → FallingAnswer
row_answer lent row = row_answer_by (refusal_at lent.records lent.windows lent.cells (named_in row)) lent row
