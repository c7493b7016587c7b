-- What `oneminute` prints. Document 02's words stand in quotes.
use Rattle.std.specs.Prelude.{List, [], ◌∷◌, ◌++◌, ℕ, ◌+◌, ◌*◌, eqb, Float, get_or}
use Rattle.base.specs.Choose.{choose}
use Rattle.floats.specs.Numbers.{zero64}
use Rattle.boxes.specs.declared.Vec3.{Vec3}
use Rattle.boxes.specs.Boxes.{vec}
use Rattle.text.specs.Text.{feet_line, refused_text}
use Rattle.minute_state.specs.Minute.{State}

-- "one line of feet per tick in `onetick`'s form"
unfoldable pub feet_lines : List Vec3 → List ℕ
feet_lines [] = []
feet_lines (v ∷ vs) = feet_line v ++ feet_lines vs

-- "a refusal … prints `refused N` after the lines so far"
unfoldable pub ending : ℕ → List ℕ
ending refusal = choose (eqb refusal 0) [] (refused_text refusal)

unfoldable pub text_by : List Vec3 → ℕ → List ℕ
text_by lines refusal = feet_lines lines ++ ending refusal

abbrev pub minute_text : State → List ℕ
minute_text s = text_by s.lines s.refusal

-- the feet of tick i among the numbers that a run writes; a number that is not there is zero
abbrev pub feet_at : List Float → ℕ → Vec3
feet_at feet i = vec (get_or feet (i * 3) zero64) (get_or feet (i * 3 + 1) zero64) (get_or feet (i * 3 + 2) zero64)
