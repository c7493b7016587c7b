-- `list_moves::clip_sequence` meets its contract. Assumes nothing.
use Rattle.sweeps.proofs.Shape.{one-attempt}
use Rattle.sweeps.specs.Lists.{list_of}
use Rattle.list_moves.proofs.clip_sequence.Goals as goal

pub returns : goal.returns
returns c = let k = c.args in one-attempt (list_of k.list) k.aabb k.delta c.swept_over-s.result c.swept_over-s.ensures
