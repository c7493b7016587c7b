-- `scene_held::numbers::body_age` meets its contract. Assumes nothing.
use Rattle.files.specs.Contents.{body_age}
use Rattle.scene_held.proofs.numbers.body_age.Goals as goal

pub returns : goal.returns
unfolding body_age
returns c = rw (← c.body_word-low.ensures, ← c.body_word-high.ensures, ← c.join.ensures)
