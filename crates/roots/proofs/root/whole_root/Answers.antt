-- `roots::root::whole_root` meets its contract, by the facts of `Confirmed.antt`. Assumes nothing.
use Rattle.roots.proofs.Confirmed.{square-fits, root_below}
use Rattle.roots.proofs.root.whole_root.Goals as goal

pub overflow_mul-p : goal.overflow_mul-p
overflow_mul-p c = record { fits = square-fits _ c.proposed-s.ensures }

pub returns-then-p-m-2 : goal.returns-then-p-m-2
returns-then-p-m-2 c = root_below _ _ c.if-p-m.false c.if-p-m-2.true
