-- A midnight call for two parties over the same tables. Each has its own windows, its own bodies, which name those alone, and its own half of the
-- buffer; a refusal of the one is no business of the other.
use Rattle.std.specs.Prelude.{false, List, ◌++◌, ℕ, ltb, eqb, length, Float}
use Rattle.base.specs.Choose.{choose}
use Rattle.base.specs.Refusals.{verdict}
use Rattle.table_check.specs.Check.{table_refusal}
pub use Rattle.halves.specs.Halves.{Who, first, second, length_of_half, half_place, half_of, nobodys}
use Rattle.night_rows.specs.Rows.{Row}
use Rattle.night_answers.specs.Answers.{NightLent, lent_with}
use Rattle.answer_rows.specs.Answers.{count_refusal}
use Rattle.midnight.specs.Run.{bodies_of, checked_written, answers_in}
use Rattle.parties.specs.declared.Party.{Party as Lent}
use Rattle.parties.specs.declared.Told.{Told}

-- ---- a call

-- so many windows, in rows, over the words of all of this party's; and so many bodies, in rows
pub record Party : Type 0 where
  pub windows : List ℕ
  pub count : ℕ
  pub cells : List ℕ
  pub numbers : List Float
  pub words : List ℕ
  pub bodies : ℕ

abbrev pub party_with : List ℕ → ℕ → List ℕ → List Float → List ℕ → ℕ → Party
party_with windows count cells numbers words bodies =
    record { windows = windows; count = count; cells = cells; numbers = numbers; words = words; bodies = bodies }

-- what the program holds of it
abbrev pub party_seen : Lent → Party
party_seen p = party_with p.windows.rows.now p.windows.count p.windows.cells.now p.numbers.now p.words.now p.bodies

pub record Call : Type 0 where
  pub records : List ℕ
  pub shapes : List Float
  pub first : Party
  pub second : Party
  pub out : List Float

abbrev pub call_with : List ℕ → List Float → Party → Party → List Float → Call
call_with records shapes one two out =
    record { records = records; shapes = shapes; first = one; second = two; out = out }

-- ---- one of the two

abbrev pub party_of : Who → Call → Party
party_of first call = call.first
party_of second call = call.second

-- what its bodies share: the tables, and its windows and no others. A number that is not below their count names no window: 10
abbrev pub lent_to : Who → Call → NightLent
lent_to who call =
    lent_with call.records call.shapes (party_of who call).windows (party_of who call).count (party_of who call).cells

abbrev pub bodies_in : Who → Call → List Row
bodies_in who call = bodies_of false (party_of who call).numbers (party_of who call).words (party_of who call).bodies

-- ---- refusals

-- 14 for more than 2,048 bodies; then as the midnight call has it, 14 for more than 16 windows, then 11 for less room than the answers take; or 0
unfoldable pub party_refusal : ℕ → ℕ → ℕ → ℕ
party_refusal windows bodies room = choose (ltb 2048 bodies) 14 (count_refusal windows bodies room)

-- 1 before it, for both
unfoldable pub refusal_for : Who → Call → ℕ
refusal_for who call =
    choose (eqb (table_refusal call.records call.shapes) 0)
    (party_refusal (party_of who call).count (party_of who call).bodies (length_of_half call.out))
    1

-- one for each: 0, or the number of its refusal
pub record Refusals : Type 0 where
  pub first : ℕ
  pub second : ℕ

abbrev pub told_seen : Told → Refusals
told_seen told = record { first = verdict told.first; second = verdict told.second }

abbrev pub call_refusals : Call → Refusals
call_refusals call = record { first = refusal_for first call; second = refusal_for second call }

-- ---- what is written

-- into a half: nothing where its party is refused, else an answer for each of its bodies
unfoldable pub party_written : NightLent → List Row → List Float → List Float
party_written lent rows half = choose (ltb 2048 (length rows)) half (checked_written lent rows half)

unfoldable pub half_after : Who → Call → List Float
half_after who call =
    choose (eqb (table_refusal call.records call.shapes) 0)
    (party_written (lent_to who call) (bodies_in who call) (half_of who call.out))
    (half_of who call.out)

unfoldable pub call_written : Call → List Float
call_written call = half_after first call ++ (half_after second call ++ nobodys call.out)

-- ---- what a party is told

abbrev pub told_to : Who → Refusals → ℕ
told_to first told = told.first
told_to second told = told.second

-- its answers, row by row, in a buffer
abbrev pub answers_for : Who → Call → List Float → List (List Float)
answers_for who call out = answers_in (half_of who out) (party_of who call).bodies
