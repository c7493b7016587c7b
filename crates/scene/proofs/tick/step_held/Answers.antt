-- `scene::tick::step_held` meets its contract. Assumes nothing.
use mathlib.Core.Path.{ap, ◌∙◌}
use lib.ListN.{length-take}
use native.Mathlib.Omega.{arith}
use Rattle.scene_held.proofs.Arrays.{handed-on}
use Rattle.scene.specs.Scene.{step_of_contents}
use Rattle.scene.proofs.tick.step_held.Goals as goal

pub slice_bounds-tables-end : goal.slice_bounds-tables-end
slice_bounds-tables-end c = let h = c.held-a.ensures in rw (length-take) (omega arith)

pub slice_bounds-tables-end-2 : goal.slice_bounds-tables-end-2
slice_bounds-tables-end-2 c = let h = c.held-b.ensures in rw (length-take) (omega arith)

pub returns : goal.returns
returns c =
    c.step_among.ensures
    ∙ ap step_of_contents (handed-on c.args.file.now c.args.n c.args.words.now c.args.singles.now c.held-a.result c.held-b.result c.held-c.result c.window_in-window.result c.held-a.ensures c.held-b.ensures c.held-c.ensures c.window_in-window.ensures)
