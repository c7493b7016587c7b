-- `wholes::ceil` meets its contract: the ceiling is the floor of -x, turned round. Assumes nothing.
use Rattle.std.proofs.lemmas.Result.{err_from_is_err_and}
use mathlib.Core.Path.{◌≡◌, sym, ap, ◌∙◌}
use lib.Ieee.{neg}
use Rattle.base.specs.Choose.{choose}
use Rattle.wholes.proofs.Rounding.{neg-finite, ceil-by-floor}
use Rattle.floats.proofs.Answers.{taken, was-taken, was-turned-away}
use Rattle.wholes.proofs.ceil.Goals as goal

pub returns-in_err-floor : goal.returns-in_err-floor
unfolding choose
returns-in_err-floor c =
    let e = c.in_err-floor.field-0.0 in
    let t = was-turned-away _ _ e c.in_err-floor.ensures in
    let y = err_from_is_err_and c.from_residual.result c.from_residual.ensures.1 in
    let k : y.0 ≡ e = y.2 in
    rw (y.1, k, t.1, ← neg-finite c.args.x, t.0)

pub returns : goal.returns
returns c =
    let below = was-taken _ _ _ c.in_ok-floor.ensures in
    let finite = sym (neg-finite c.args.x) ∙ below.0 in
    taken _ _ _ finite (ap neg below.1 ∙ ceil-by-floor c.args.x finite)
