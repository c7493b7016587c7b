-- `liquids::living::living_liquid_in` meets its contract. Assumes nothing.
use mathlib.Core.Path.{refl, ap}
use Rattle.std.proofs.lemmas.Result.{err_from_is_err_and}
use Rattle.base.specs.Ask.{found}
use Rattle.base.specs.Choose.{choose}
use Rattle.ranges.proofs.Walking.{walked_start, walked_end, walked_stop, walked-done, walked_next, walked-less}
use Rattle.liquids.specs.Living.{living_liquid}
use Rattle.liquids.specs.Answers.{search_of}
use Rattle.liquids.proofs.living.living_liquid_in.Goals as goal

pub loop-t-init : goal.loop-t-init
loop-t-init c = walked_start _ _ _ _ c.start-t.ensures

pub returns-in_err-kind : goal.returns-in_err-kind
unfolding living_liquid
returns-in_err-kind c =
    let p = err_from_is_err_and c.from_residual.result c.from_residual.ensures.1 in
    rw (p.1, p.2, ← c.shrink-b.ensures, ← c.cells_of-r.ensures, walked_stop c.loop-t.invariant c.loop-t-test.true c.place.ensures c.in_err-kind.ensures _ refl)

pub returns-in-Break : goal.returns-in-Break
unfolding living_liquid
returns-in-Break c =
    rw (← c.shrink-b.ensures, ← c.cells_of-r.ensures, walked-done c.loop-t.invariant c.loop-t-test.true c.place.ensures c.in_ok-kind.ensures _ (ap (λ x. found (search_of x)) c.in-Break.is))

pub loop-t-smaller : goal.loop-t-smaller
loop-t-smaller c = walked-less c.loop-t.invariant c.loop-t-test.true _ c.next-t.ensures

pub loop-t-preserved : goal.loop-t-preserved
loop-t-preserved c =
    walked_next c.loop-t.invariant c.loop-t-test.true c.place.ensures c.in_ok-kind.ensures _ (ap (λ x. found (search_of x)) c.in-Continue.is) _ c.next-t.ensures

pub returns-then-lava : goal.returns-then-lava
unfolding living_liquid choose
returns-then-lava c =
    rw (← c.shrink-b.ensures, ← c.cells_of-r.ensures, walked_end c.loop-t.invariant c.loop-t-test.false, c.if-lava.true)

pub returns-else-lava : goal.returns-else-lava
unfolding living_liquid choose
returns-else-lava c =
    rw (← c.shrink-b.ensures, ← c.cells_of-r.ensures, walked_end c.loop-t.invariant c.loop-t-test.false, c.if-lava.false)
