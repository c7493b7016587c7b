-- `ranges::span` meets its contract. Assumes nothing.
use lib.IntN.{pos, ◌+ℤ◌, ◌-ℤ◌}
use Rattle.ranges.specs.Ranges.{span_of}
use Rattle.ranges.proofs.Sums.{spanned, none_left, counted, counted-most}
use Rattle.ranges.proofs.span.Goals as goal

pub returns-then-n-lt0 : goal.returns-then-n-lt0
unfolding span_of
returns-then-n-lt0 c =
    none_left (c.args.b -ℤ c.args.a +ℤ pos 1) (rw (c.from.ensures, c.from-2.ensures, spanned c.args.a c.args.b c.ranges.a c.ranges.b) at c.if-n-lt0.true)

pub returns-then-n-lt4294967295 : goal.returns-then-n-lt4294967295
unfolding span_of
returns-then-n-lt4294967295 c =
    let s = spanned c.args.a c.args.b c.ranges.a c.ranges.b in
    let low = rw (c.from.ensures, c.from-2.ensures, s) at c.if-n-lt0.false in
    let high = rw (c.from.ensures, c.from-2.ensures, s) at c.if-n-lt4294967295.true in
    rw (c.from.ensures, c.from-2.ensures, s) (counted (c.args.b -ℤ c.args.a +ℤ pos 1) low high)

pub returns-else-n-lt4294967295 : goal.returns-else-n-lt4294967295
unfolding span_of
returns-else-n-lt4294967295 c =
    counted-most (c.args.b -ℤ c.args.a +ℤ pos 1) (rw (c.from.ensures, c.from-2.ensures, spanned c.args.a c.args.b c.ranges.a c.ranges.b) at c.if-n-lt4294967295.false)
