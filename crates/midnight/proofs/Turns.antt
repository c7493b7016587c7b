-- The loop that stores a row at each turn: what it has stored by turn i, and the rows still to come, are the whole. Assumes nothing.
use mathlib.Core.Path.{◌≡◌, ap, ◌∙◌}
use mathlib.Core.List.{List, ◌++◌}
use Prim.Native.Nat.{ℕ, suc, ◌+◌, ◌-◌, ◌*◌, ◌≤◌, ◌<◌}
use native.Mathlib.Omega.{arith}
use lib.ListN.{get_or}
use lib.Ieee.{Float}
use Rattle.base.specs.Loop.{listed, stored}
use Rattle.base.proofs.Fill.{stored-then}
use Rattle.step_answers.specs.Records.{FallingAnswer}
use Rattle.night_rows.specs.Rows.{Row, named_in}
use Rattle.answer_rows.specs.Answers.{answer_width, answer_numbers}
use Rattle.night_windows.specs.Windows.{refusal_within}
use Rattle.night_answers.specs.Answers.{NightLent, row_answer_by, row_answer}
use Rattle.midnight.specs.Run.{answer_row, rows_of}
use Rattle.night_answers.proofs.Bodies.{by-check}

pub rows-begin : (lent : NightLent) (f : ℕ → Row) (m : ℕ) (l : List Float) → stored l (0 * answer_width) (rows_of lent (listed f (m - 0) 0)) ≡ stored l 0 (rows_of lent (listed f m 0))
rows-begin lent f m l = let e : m - 0 ≡ m = omega arith in ap (λ (k : ℕ). stored l 0 (rows_of lent (listed f k 0))) e

module _ (lent : NightLent) (f : ℕ → Row) (m i : ℕ) (l w : List Float) where
  -- checked are the checks of all windows
  pub rows-turn : (checked : List ℕ) → lent.count ≤ 16 → checked ≡ listed (refusal_within lent.records lent.windows lent.cells lent.count) 16 0
      → (after : List Float) (a : FallingAnswer) → a ≡ row_answer_by (get_or checked (named_in (f i)) 2) lent (f i) → after ≡ stored l (i * answer_width) (answer_numbers a) → i < m
      → stored l (i * answer_width) (rows_of lent (listed f (m - i) i)) ≡ w
      → stored after ((i + 1) * answer_width) (rows_of lent (listed f (m - (i + 1)) (i + 1))) ≡ w
  unfolding rows_of listed
  rows-turn checked few ec after a ea e h inv =
      let own : a ≡ row_answer lent (f i) = ea ∙ by-check lent (f i) checked few ec in
      let q : m - i ≡ suc (m - (i + 1)) = omega arith in
      let p : (i + 1) * answer_width ≡ i * answer_width + answer_width = omega arith in
      let later : List Float = rows_of lent (listed f (m - (i + 1)) (i + 1)) in
      let all : stored l (i * answer_width) (answer_row lent (f i) ++ later) ≡ w = rw q at inv in
      ap (λ (k : ℕ). stored after k later) p
      ∙ ap (λ (r : List Float). stored r (i * answer_width + answer_width) later) (e ∙ ap (λ (b : FallingAnswer). stored l (i * answer_width) (answer_numbers b)) own)
      ∙ stored-then l (i * answer_width) (answer_row lent (f i)) later
      ∙ all

  pub rows_end : m ≤ i → stored l (i * answer_width) (rows_of lent (listed f (m - i) i)) ≡ w → l ≡ w
  unfolding rows_of stored listed
  rows_end h inv = let q : m - i ≡ 0 = omega arith in rw q at inv
