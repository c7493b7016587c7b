-- `lent_boxes::aabb_at` meets its contract. Assumes nothing.
use Rattle.lent_boxes.proofs.Lent.{whole-box}
use Rattle.lent_boxes.proofs.aabb_at.Goals as goal

pub returns : goal.returns
returns c = whole-box c.args.numbers.now _ _ c.requires
