-- `scene::tick::lines_for` meets its contract. Assumes nothing.
use Rattle.std.proofs.lemmas.Result.{err_from_is_err_and}
use Rattle.text.proofs.Told.{told-lines, told_refusal}
use Rattle.scene.proofs.tick.lines_for.Goals as goal

pub returns : goal.returns
returns c = λ given. rw (c.in_ok-tick.was, c.yes_number.ensures) (told-lines _)

pub returns-in_err-tick : goal.returns-in_err-tick
returns-in_err-tick c =
    let p = err_from_is_err_and c.from_residual.result c.from_residual.ensures.1 in
    λ given. rw (p.1, p.2, c.in_err-tick.was) (told_refusal _ _ _)
