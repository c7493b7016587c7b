-- `flow::sides::liquid_flow` meets its contract. Assumes nothing.
use Rattle.std.proofs.lemmas.Result.{err_from_is_err_and}
use Rattle.flow.proofs.FourSides.{no_difference, no_wall, sides_end, sides_next}
use Rattle.flow.proofs.sides.liquid_flow.Goals as goal

pub returns-in_err-difference : goal.returns-in_err-difference
returns-in_err-difference c =
    let p = err_from_is_err_and c.from_residual.result c.from_residual.ensures.1 in
    rw (p.1, p.2) (no_difference _ _ _ _ c.loop-side.invariant c.loop-side-test.true _ c.in_err-difference.ensures)

pub returns-in_err-walled : goal.returns-in_err-walled
returns-in_err-walled c =
    let p = err_from_is_err_and c.from_residual-in_err-walled.result c.from_residual-in_err-walled.ensures.1 in
    rw (p.1, p.2) (no_wall _ _ _ _ c.loop-side.invariant c.loop-side-test.true _ c.in_ok-difference.ensures _ c.in_err-walled.ensures)

pub loop-side-preserved : goal.loop-side-preserved
loop-side-preserved c =
    sides_next _ _ _ _ c.loop-side.invariant c.loop-side-test.true _ c.in_ok-difference.ensures _ _ c.in_ok-walled.ensures c.flow_by-flow.ensures

pub returns : goal.returns
returns c = sides_end _ _ _ _ c.loop-side.invariant _ c.loop-side-test.false c.normalised_flow.ensures
