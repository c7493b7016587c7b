-- `groups::offset_in` meets its contract. Assumes nothing.
use Rattle.groups.proofs.Places.{apart, inside, below-all, beyond}
use Rattle.groups.proofs.offset_in.Goals as goal
use Rattle.groups.proofs.offset_in.Goals.{else-n-ge0-via-then-n-ge0+else-n-from, else-n-ge0-via-else-n-ge0}

pub returns-then-n-from : goal.returns-then-n-from
returns-then-n-from c =
    let n = apart c.args.c c.args.origin c.ranges.c c.ranges.origin in
    let low = rw (c.from.ensures, c.from-2.ensures, n) at c.if-n-ge0.true in
    let high = rw (c.from.ensures, c.from-2.ensures, n, c.from-then-n-ge0.ensures) at c.if-n-from.true in
    rw (c.from.ensures, c.from-2.ensures, n) (inside c.args.c c.args.origin c.args.size c.ranges.size low high)

pub returns-else-n-ge0 : goal.returns-else-n-ge0
returns-else-n-ge0 c =
    let n = apart c.args.c c.args.origin c.ranges.c c.ranges.origin in
    elim c.else-n-ge0.branch [
      | else-n-ge0-via-then-n-ge0+else-n-from w ↦ beyond c.args.c c.args.origin c.args.size c.ranges.size (rw (c.from.ensures, c.from-2.ensures, n, w.from-then-n-ge0.ensures) at w.if-n-from.false)
      | else-n-ge0-via-else-n-ge0 w ↦ below-all c.args.c c.args.origin c.args.size c.ranges.size (rw (c.from.ensures, c.from-2.ensures, n) at w.if-n-ge0.false)
    ]
