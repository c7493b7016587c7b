-- What every entry in lent numbers asks before any cell is asked for: 1 and 2 of what is lent, `early` (3, then 4) of what is handed over, and
-- 11 of the room for what is written.
use Rattle.std.specs.Prelude.{Bool, not, ◌&&◌, List, ℕ, eqb, leb, Float}
use Rattle.base.specs.Choose.{choose}
use Rattle.base.specs.Loop.{stored}
use Rattle.base.specs.Ask.{Ask, unless}
use Rattle.bodies.specs.Numbers.{lengths_fit}
use Rattle.step_answers.specs.Records.{StepAnswer}
use Rattle.lent_steps.specs.Steps.{step_places, step_numbers}
use Rattle.lent_steps.specs.Falling.{falling_places}

abbrev pub roomy : {A : Type 0} → ℕ → ℕ → Bool → Ask A → Ask A
roomy lent early wide ask = unless (not (eqb lent 0)) lent (unless (not (eqb early 0)) early (unless (not wide) 11 ask))

-- the refusal where there is no room: the first of those before 11, or 11
abbrev pub short_of : ℕ → ℕ → ℕ
short_of lent early = choose (eqb lent 0) (choose (eqb early 0) 11 early) lent

-- a body's lengths that fit, and room for what is written
abbrev pub whole_body : List Float → List ℕ → ℕ → Bool
whole_body numbers words places = lengths_fit numbers words && leb step_places places

-- the same with a fall record
abbrev pub whole_falling : List Float → List ℕ → ℕ → Bool
whole_falling numbers words places = lengths_fit numbers words && leb falling_places places

-- a refusal writes nothing: what the host has stays as it is
unfoldable pub answer_written : List Float → StepAnswer → List Float
answer_written out a = choose (eqb a.refusal 0) (stored out 0 (step_numbers a)) out
