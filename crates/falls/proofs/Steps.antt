-- From a fresh record, any list of steps with it leaves what the moves of those steps say. Assumes nothing.
use mathlib.Core.Bool.{Bool, true, false}
use mathlib.Core.List.{List, [], ◌∷◌}
use mathlib.Core.Path.{◌≡◌, refl, sym, ap, ◌∙◌, subst}
use lib.Dec.{T, eqb}
use Rattle.base.specs.Choose.{choose}
use Rattle.fall_rule.specs.declared.Fall.{Fall}
use Rattle.step_answers.specs.Records.{FallingAnswer}
use Rattle.fall_rule.specs.Rule.{fall_fits, fresh}
use Rattle.falls.specs.Answers.{fall_over, with_fall}
use Rattle.falls.specs.Moves.{Fallen, fall_after_move, through, StepCall, played, step_of, step_move, moves_of}
use Rattle.fall_rule.proofs.Fits.{fresh-fits, fits_after}
use Rattle.falls.proofs.Laws.{beside}
use Rattle.falls.proofs.Moves.{moves-fallen}

played-moves : (calls : List StepCall) (fall : Fall) → T (fall_fits fall) → played fall calls ≡ through fall (moves_of calls)
unfolding played through moves_of with_fall choose
played-moves [] fall t = refl
played-moves (c ∷ cs) fall t =
    ap (λ (r : FallingAnswer). played r.fall cs) (beside c.records c.shapes c.cells c.window c.rules c.body c.given c.age fall t)
    ∙ go (eqb (step_of c).refusal 0) (λ f. played-moves cs f)
  where
    go : (b : Bool) → ((f : Fall) → T (fall_fits f) → played f cs ≡ through f (moves_of cs))
        → played (choose b (fall_over fall c.given (step_of c)) fall) cs ≡ through fall (choose b (step_move c ∷ moves_of cs) (moves_of cs))
    go true k = k (fall_after_move fall (step_move c)) (fits_after fall (step_move c).old (step_move c).new (step_move c).on_ground (step_move c).liquid t)
    go false k = k fall t

-- the theorem: from a fresh record, whatever is called
pub steps-fallen : (calls : List StepCall) → Fallen (moves_of calls) (played fresh calls)
steps-fallen calls = subst (λ (f : Fall). Fallen (moves_of calls) f) (sym (played-moves calls fresh fresh-fits)) (moves-fallen (moves_of calls))
