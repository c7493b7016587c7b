-- `currents::item_current` meets its contract. Assumes nothing.
use Rattle.std.proofs.lemmas.Result.{err_from_is_err_and}
use Rattle.ranges.proofs.Walking.{walked_start, walked_end, walked_stop, walked_next, walked-less}
use Rattle.currents.specs.Current.{item_current}
use mathlib.Core.Path.{refl}
use Rattle.base.specs.Choose.{choose}
use Rattle.currents.proofs.item_current.Goals as goal

pub returns-then-is_beyond : goal.returns-then-is_beyond
unfolding item_current choose
returns-then-is_beyond c = rw (← c.is_beyond.ensures, c.if-is_beyond.true)

pub loop-t-init : goal.loop-t-init
loop-t-init c = walked_start _ _ _ _ c.start-t.ensures

pub returns-in_err-s : goal.returns-in_err-s
unfolding item_current choose
returns-in_err-s c =
    let p = err_from_is_err_and c.from_residual.result c.from_residual.ensures.1 in
    rw (p.1, p.2, ← c.is_beyond.ensures, c.if-is_beyond.false, ← c.current_range-r.ensures, ← c.no_streams-s.ensures, walked_stop c.loop-t.invariant c.loop-t-test.true c.place.ensures c.in_err-s.ensures _ refl)

pub loop-t-smaller : goal.loop-t-smaller
loop-t-smaller c = walked-less c.loop-t.invariant c.loop-t-test.true _ c.next-t.ensures

pub loop-t-preserved : goal.loop-t-preserved
loop-t-preserved c = walked_next c.loop-t.invariant c.loop-t-test.true c.place.ensures c.in_ok-s.ensures _ refl _ c.next-t.ensures

pub returns : goal.returns
unfolding item_current choose
returns c =
    rw (← c.is_beyond.ensures, c.if-is_beyond.false, ← c.current_range-r.ensures, ← c.no_streams-s.ensures, walked_end c.loop-t.invariant c.loop-t-test.false, c.current_of.ensures)
