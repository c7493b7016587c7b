-- `moves::move_aabb` meets its contract. Assumes nothing.
use mathlib.Core.Path.{sym, ◌∙◌}
use Rattle.std.proofs.lemmas.Result.{err_from_is_err_and}
use Rattle.base.specs.Choose.{choose}
use Rattle.base.proofs.Answers.{some_number}
use Rattle.past.proofs.Plain.{direct-short}
use Rattle.through.proofs.Same.{move-without}
use Rattle.moves.specs.Answers.{move_entry}
use Rattle.moves.proofs.Numbers.{numbers-refused, numbers-passed}
use Rattle.moves.proofs.move_aabb.Goals as goal

pub returns-in_err-check_numbers : goal.returns-in_err-check_numbers
unfolding choose move_entry
returns-in_err-check_numbers c =
    let p = err_from_is_err_and c.from_residual-in_err-check_numbers.result c.from_residual-in_err-check_numbers.ensures.1 in
    rw (p.1, p.2, ← c.in_ok-check_direct.ensures, numbers-refused _ _ _ _ _ _ c.in_err-check_numbers.ensures (some_number _))

pub returns : goal.returns
unfolding choose move_entry
returns c =
    let told = c.move_through.ensures ∙ move-without _ _ _ _ _ (direct-short _ _ _ _ (sym c.in_ok-check_direct.ensures)) _ _ _ _ in
    rw (← c.in_ok-check_direct.ensures, numbers-passed _ _ _ _ _ c.in_ok-check_numbers.ensures, told)
