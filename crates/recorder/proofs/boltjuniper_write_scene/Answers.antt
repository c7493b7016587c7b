-- `recorder::boltjuniper_write_scene` meets its contract. Assumes nothing.
use mathlib.Core.Path.{ap, ◌∙◌}
use mir.Syntax.{w32}
use mir.ValLaws.{to_z-of_z}
use Rattle.recorder.specs.Answers.{bytes_or_refusal}
use Rattle.recorder.proofs.boltjuniper_write_scene.Goals as goal

pub returns : goal.returns
returns c =
    let a = c.args in
    let w = rw (to_z-of_z w32 a.ox c.ranges.ox, to_z-of_z w32 a.oy c.ranges.oy, to_z-of_z w32 a.oz c.ranges.oz, to_z-of_z w32 a.lowest c.ranges.lowest, to_z-of_z w32 a.highest c.ranges.highest) at c.window_of.ensures in
    record { value = c.bytes_or_refusal.ensures ∙ ap bytes_or_refusal (rw w at c.write_scene.ensures.value); out_after = rw w at c.write_scene.ensures.out_after }
