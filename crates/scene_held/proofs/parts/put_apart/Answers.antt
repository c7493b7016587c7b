-- `scene_held::parts::put_apart` meets its contract. Assumes nothing.
use Rattle.scene_held.proofs.parts.put_apart.Goals as goal

pub returns : goal.returns
returns c =
    record { records_after = rw c.record_part.ensures at c.take_words.ensures; singles_after = rw c.box_part.ensures at c.take_singles.ensures; words_after = rw c.cell_part.ensures at c.take_words-2.ensures }
