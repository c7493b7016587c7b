-- `scene_held::numbers::body_float` meets its contract. Assumes nothing.
use Rattle.files.specs.Contents.{body_float}
use Rattle.scene_held.proofs.numbers.body_float.Goals as goal

pub returns : goal.returns
unfolding body_float
returns c =
    rw (← c.body_word-low.ensures, ← c.body_word-high.ensures, ← c.join.ensures, ← c.float_of_bits.ensures)
