-- `scene_held::parts::single_at` meets its contract. Assumes nothing.
use Rattle.scene_held.proofs.parts.single_at.Goals as goal

pub returns : goal.returns
returns c = rw (← c.part_word.ensures, ← c.single_of.ensures)
