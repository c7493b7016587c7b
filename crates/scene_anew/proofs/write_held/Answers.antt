-- `scene_anew::write_held` meets its contract. Assumes nothing.
use mathlib.Core.Path.{ap, ◌∙◌}
use lib.ListN.{length, length-take}
use native.Mathlib.Omega.{arith}
use Rattle.writer.specs.Written.{written_scene, scene_answer}
use Rattle.scene_held.proofs.Arrays.{handed-on}
use Rattle.scene_anew.proofs.write_held.Goals as goal

pub slice_bounds-tables-end : goal.slice_bounds-tables-end
slice_bounds-tables-end c = let h = c.held-a.ensures in rw (length-take) (omega arith)

pub slice_bounds-tables-end-2 : goal.slice_bounds-tables-end-2
slice_bounds-tables-end-2 c = let h = c.held-b.ensures in rw (length-take) (omega arith)

pub returns : goal.returns
returns c =
    let same = handed-on c.args.file.now c.args.n c.args.words.now c.args.singles.now c.held-a.result c.held-b.result c.held-c.result c.window_in-window.result c.held-a.ensures c.held-b.ensures c.held-c.ensures c.window_in-window.ensures in
    record { out_after = c.write_among.ensures.out_after ∙ ap (written_scene c.args.out.now) same; value = c.write_among.ensures.value ∙ ap (scene_answer (length c.args.out.now)) same }
