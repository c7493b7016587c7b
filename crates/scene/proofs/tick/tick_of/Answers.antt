-- `scene::tick::tick_of` meets its contract. Assumes nothing.
use Rattle.std.proofs.lemmas.Result.{err_from_is_err_and}
use Rattle.base.specs.Refusals.{asked}
use Rattle.scene.proofs.Scenes.{no-tick, tick-by}
use Rattle.scene.proofs.tick.tick_of.Goals as goal

pub returns-in_err-n : goal.returns-in_err-n
returns-in_err-n c =
    let p = err_from_is_err_and c.from_residual.result c.from_residual.ensures.1 in
    rw (p.1, p.2) (no-tick _ _ c.in_err-n.ensures)

pub returns : goal.returns
returns c = tick-by _ _ (asked c.step_in.result) c.in_ok-n.ensures c.step_in.ensures
