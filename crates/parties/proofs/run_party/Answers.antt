-- `parties::run_party` meets its contract. Assumes nothing.
use mathlib.Core.Bool.{false}
use borrow.Author.Tests.{lt-ltb, le-ltb}
use Rattle.base.specs.Choose.{choose}
use Rattle.night_rows.specs.Rows.{row_at}
use Rattle.base.proofs.Listed.{listed-length}
use Rattle.parties.specs.Parties.{party_written}
use Rattle.parties.proofs.run_party.Goals as goal

pub returns-then-party-gt2048-clause-half_after : goal.returns-then-party-gt2048-clause-half_after
unfolding party_written choose
returns-then-party-gt2048-clause-half_after c =
    let p = c.args.party in
    rw (listed-length (row_at false p.numbers.now p.words.now) p.bodies 0, lt-ltb _ _ c.if-party-gt2048.true)

pub returns-clause-half_after : goal.returns-clause-half_after
unfolding party_written choose
returns-clause-half_after c =
    let p = c.args.party in
    rw (listed-length (row_at false p.numbers.now p.words.now) p.bodies 0, le-ltb _ _ c.if-party-gt2048.false) c.run_checked.ensures.out_after
