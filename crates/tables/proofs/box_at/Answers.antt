-- `tables::box_at` meets its contract. Assumes nothing.
use Rattle.std.proofs.Common.{refl, ◌∙◌, rules}
use Rattle.tables.proofs.Lists.{whole-box}
use Rattle.tables.proofs.box_at.Goals as goal

pub returns-then-i-shape : goal.returns-then-i-shape
returns-then-i-shape c =
    c.box_of.ensures ∙ whole-box c.args.shape.now _ _ _ refl c.if-i-shape.true
