-- `scene::tick::answer` meets its contract. Assumes nothing.
use mathlib.Core.Path.{ap}
use Rattle.scene.specs.Given.{scene_given}
use Rattle.scene.proofs.tick.answer.Goals as goal

pub returns : goal.returns
returns c =
    rw (← c.tick_of.ensures, ← c.lines_for-told.ensures (scene_given c.args.file.now)) record { out_after = c.write_answer.ensures.out_after; value = c.write_answer.ensures.value }
