-- A window of the midnight run: its own words, and their check, which no body changes.
use Rattle.std.specs.Prelude.{Bool, ◌&&◌, ⊤, Result, List, map, ℕ, ◌+◌, ◌-◌, ltb, leb, eqb, length, get_or, take, drop}
use Rattle.base.specs.Choose.{choose}
use Rattle.base.specs.declared.Refusal.{Refusal}
use Rattle.base.specs.Refusals.{verdict}
use Rattle.window.specs.declared.Window.{Window}
use Rattle.window.specs.Window.{window_refusal}
use Rattle.window.specs.Numbers.{with_air}
use Rattle.groups.specs.Summary.{has_summary, summary_refusal}
use Rattle.summary.specs.Calls.{plain_words}
use Rattle.night_rows.specs.declared.WindowRow.{WindowRow}
use Rattle.night_rows.specs.Rows.{row_of, window_width, window_at}

-- its own words, of all that are lent
abbrev pub cells_in : List ℕ → WindowRow → List ℕ
cells_in cells row = take row.count (drop row.first cells)

-- 2 also where its row, or one of its words, is not there
abbrev pub is_there : List ℕ → List ℕ → ℕ → Bool
is_there windows cells j =
    eqb (length (row_of window_width windows j)) window_width && leb ((window_at windows j).first + (window_at windows j).count) (length cells)

-- Behind its cells and columns a window may lend a summary, and behind that one word, the air state that it is of. How many words it has tells
-- whether it does.
abbrev pub front : List ℕ → List ℕ
front own = take (length own - 1) own

abbrev pub last_in : List ℕ → ℕ
last_in own = get_or own (length own - 1) 0

unfoldable pub is_summed : List ℕ → Window → Bool
is_summed own w = has_summary (front own) w

-- 2 of cells and columns, then 13 of the summary
unfoldable pub own_refusal : List ℕ → List ℕ → Window → ℕ
own_refusal records own w =
    choose (is_summed own w)
    (choose (eqb (window_refusal (plain_words own w) w) 0) (summary_refusal records (front own) (with_air w (last_in own))) 2)
    (window_refusal own w)

unfoldable pub refusal_at : List ℕ → List ℕ → List ℕ → ℕ → ℕ
refusal_at records windows cells j =
    choose (is_there windows cells j) (own_refusal records (cells_in cells (window_at windows j)) (window_at windows j).window) 2

-- the same of the first so many; nothing names a window beyond them
unfoldable pub refusal_within : List ℕ → List ℕ → List ℕ → ℕ → ℕ → ℕ
refusal_within records windows cells count j = choose (ltb j count) (refusal_at records windows cells j) 2

-- what the checks of all windows say: 0 or a refusal's number for each
abbrev pub verdicts : List (Result ⊤ Refusal) → List ℕ
verdicts = map verdict

-- a body of the summary's air state goes by it; one that names another is stepped over cells and columns
unfoldable pub step_words : List ℕ → Window → ℕ → List ℕ
step_words own w air = choose (is_summed own w) (choose (eqb (last_in own) air) (front own) (plain_words own w)) own
