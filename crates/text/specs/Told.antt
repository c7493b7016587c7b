-- The text of an answer that may be a refusal: it is `text_of` at the number that says why, which is 0 of no `Refusal`, and at 0 where there is none.
use Rattle.std.specs.Prelude.{List, ℕ, Result, Ok, Err}
use Rattle.base.specs.declared.Refusal.{Refusal}
use Rattle.base.specs.Refusals.{number_of}
use Rattle.text.specs.declared.Lines.{Lines}
use Rattle.text.specs.Text.{lines_of, refused_text}

-- by what is said of one that is refused
abbrev pub told_by : {V : Type 0} → (V → ℕ) → Result Lines V → List ℕ
told_by says (Ok l) = lines_of l.motion l.liquid
told_by says (Err v) = refused_text (says v)

abbrev pub told_text : Result Lines Refusal → List ℕ
told_text answer = told_by number_of answer
