-- `ranges::on` meets its contract. Assumes nothing.
use mir.Syntax.{w32}
use mir.ValLaws.{to_z-of_z}
use Rattle.base.specs.Choose.{choose}
use Rattle.ranges.specs.Ranges.{on_from}
use Rattle.ranges.proofs.Sums.{summed, sum_fits}
use Rattle.ranges.proofs.on.Goals as goal

pub returns-then-s-le67108864 : goal.returns-then-s-le67108864
unfolding on_from choose
returns-then-s-le67108864 c =
    let s = summed c.args.a c.args.n c.ranges.a c.ranges.n in
    let h = rw (c.from.ensures, c.from-2.ensures, s) at c.if-s-le67108864.true in
    rw (c.from.ensures, c.from-2.ensures, s, to_z-of_z w32 _ (sum_fits c.args.a c.args.n c.ranges.a h), h)

pub returns-else-s-le67108864 : goal.returns-else-s-le67108864
unfolding on_from choose
returns-else-s-le67108864 c = rw (rw (c.from.ensures, c.from-2.ensures, summed c.args.a c.args.n c.ranges.a c.ranges.n) at c.if-s-le67108864.false)
