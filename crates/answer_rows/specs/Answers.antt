-- The answers of the midnight run: what stands where in a row, and how many rows there may be.
use Rattle.std.specs.Prelude.{◌||◌, List, ◌∷◌, ℕ, ◌*◌, ltb, pos, Float}
use Rattle.std.specs.Float.{binary64}
use Rattle.std.specs.Float.Ieee.{of_int}
use Rattle.base.specs.Choose.{choose}
use Rattle.base.specs.Loop.{stored}
use Rattle.step_answers.specs.Records.{FallingAnswer}
use Rattle.lent_steps.specs.Falling.{falling_numbers}

-- an answer: its refusal; feet, velocity, ground and liquid; the fall record after it; the case of its sample, and the sampled number. What a
-- later rule tells of a step comes behind
abbrev pub answer_width : ℕ
answer_width = 13

abbrev pub answer_numbers : FallingAnswer → List Float
answer_numbers a = of_int binary64 (pos a.step.refusal) ∷ falling_numbers a

-- a body's answer goes to its own row, refused or not
abbrev pub row_written : List Float → ℕ → FallingAnswer → List Float
row_written out i a = stored out (i * answer_width) (answer_numbers a)

-- how many rows a call may have: 14 for more windows or bodies than these, then 11 for less room than their answers take; or 0
unfoldable pub count_refusal : ℕ → ℕ → ℕ → ℕ
count_refusal windows bodies room =
    choose (ltb 16 windows || ltb 4096 bodies) 14 (choose (ltb room (bodies * answer_width)) 11 0)
