-- `tables::head_at` meets its contract. Assumes nothing.
use Rattle.std.proofs.Common.{refl, ◌∙◌, rules}
use Rattle.tables.proofs.Lists.{whole-head}
use Rattle.tables.proofs.Tables.head.Goals as goal

pub returns-then-i-records : goal.returns-then-i-records
returns-then-i-records c =
    c.head_of.ensures ∙ whole-head c.args.self.records.now _ _ _ refl c.if-i-records.true
