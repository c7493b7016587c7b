-- `moves::move_summed` meets its contract. Assumes nothing.
use mathlib.Core.Path.{sym, ◌∙◌}
use Rattle.std.proofs.lemmas.Result.{err_from_is_err_and}
use borrow.Author.Tests.{ne_eqb}
use Rattle.base.specs.Choose.{choose}
use Rattle.base.proofs.Answers.{some_number}
use Rattle.moves.specs.Answers.{move_summed}
use Rattle.moves.proofs.Numbers.{numbers-refused, numbers-passed}
use Rattle.moves.proofs.Summed.{past-plain}
use Rattle.moves.proofs.move_summed.Goals as goal

pub returns-in_err-check_numbers : goal.returns-in_err-check_numbers
unfolding choose move_summed
returns-in_err-check_numbers c =
    let checked = rw (c.plain.ensures.words, c.plain.ensures.window) at c.in_ok-check_direct.ensures in
    let p = err_from_is_err_and c.from_residual-in_err-check_numbers.result c.from_residual-in_err-check_numbers.ensures.1 in
    rw (p.1, p.2, ← checked, numbers-refused _ _ _ _ _ _ c.in_err-check_numbers.ensures (some_number _))

pub returns-in_err-check_summary : goal.returns-in_err-check_summary
unfolding choose move_summed
returns-in_err-check_summary c =
    let checked = rw (c.plain.ensures.words, c.plain.ensures.window) at c.in_ok-check_direct.ensures in
    let p = err_from_is_err_and c.from_residual-in_err-check_summary.result c.from_residual-in_err-check_summary.ensures.1 in
    rw (p.1, p.2, ← checked, numbers-passed _ _ _ _ _ c.in_ok-check_numbers.ensures, ← c.in_err-check_summary.ensures, ne_eqb _ _ (some_number c.in_err-check_summary.field-0.0))

pub returns : goal.returns
unfolding choose move_summed
returns c =
    let checked = rw (c.plain.ensures.words, c.plain.ensures.window) at c.in_ok-check_direct.ensures in
    let told = c.move_through.ensures ∙ past-plain _ _ _ _ _ (sym c.in_ok-check_summary.ensures) _ _ _ _ in
    rw (← checked, numbers-passed _ _ _ _ _ c.in_ok-check_numbers.ensures, ← c.in_ok-check_summary.ensures, told)
