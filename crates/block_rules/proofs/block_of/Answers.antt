-- `block_rules::block_of` meets its contract. Assumes nothing.
use Rattle.std.proofs.Common.{◌≡◌, ◌+◌, ◌-◌, ◌*◌, arith}
use borrow.Author.Tests.{lt-ltb}
use Rattle.base.specs.Choose.{choose}
use Rattle.block_rules.specs.Rules.{block_of}
use Rattle.block_rules.proofs.block_of.Goals as goal

pub returns-then-b-file : goal.returns-then-b-file
unfolding block_of choose
returns-then-b-file c =
    let e : c.args.b * 512 + 512 - c.args.b * 512 ≡ 512 = omega arith in
    rw (lt-ltb _ _ c.if-b-file.true, e)
