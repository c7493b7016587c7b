-- The call whole: 1, then 14, then 11, with nothing written; otherwise one answer after the other, and the rest of the buffer kept.
use Rattle.std.specs.Prelude.{Bool, List, [], ◌∷◌, ◌++◌, ℕ, eqb, length, Float}
use Rattle.base.specs.Choose.{choose}
use Rattle.base.specs.Loop.{listed, stored}
use Rattle.table_check.specs.Check.{table_refusal}
use Rattle.night_rows.specs.Rows.{Row, row_of, row_at}
use Rattle.answer_rows.specs.Answers.{answer_width, answer_numbers, count_refusal}
use Rattle.night_answers.specs.Answers.{NightLent, row_answer}

-- ---- refusals of the whole call

-- 1 before 14 and 11: the tables are checked once for all
unfoldable pub run_refusal : NightLent → ℕ → ℕ → ℕ
run_refusal lent bodies room =
    choose (eqb (table_refusal lent.records lent.shapes) 0) (count_refusal lent.count bodies room) 1

-- ---- what is written

-- so many bodies, row by row
abbrev pub bodies_of : Bool → List Float → List ℕ → ℕ → List Row
bodies_of older numbers words bodies = listed (row_at older numbers words) bodies 0

abbrev pub answer_row : NightLent → Row → List Float
answer_row lent row = answer_numbers (row_answer lent row)

-- one body's numbers behind the other's
unfoldable pub rows_of : NightLent → List Row → List Float
rows_of lent [] = []
rows_of lent (row ∷ rows) = answer_row lent row ++ rows_of lent rows

-- 14 and 11 write nothing
unfoldable pub checked_written : NightLent → List Row → List Float → List Float
checked_written lent rows out =
    choose (eqb (count_refusal lent.count (length rows) (length out)) 0) (stored out 0 (rows_of lent rows)) out

-- nor does 1
unfoldable pub run_written : NightLent → List Row → List Float → List Float
run_written lent rows out =
    choose (eqb (run_refusal lent (length rows) (length out)) 0) (stored out 0 (rows_of lent rows)) out

-- the answers in a buffer, row by row
abbrev pub answers_in : List Float → ℕ → List (List Float)
answers_in out bodies = listed (row_of answer_width out) bodies 0
