-- `scene::tick::step_in` meets its contract. Assumes nothing.
use Rattle.std.proofs.Common.{rules}
use mathlib.Core.Path.{ap, ◌∙◌}
use lib.ListN.{length-replicate}
use Prim.Native.Nat.{ℕ}
use lib.Ieee.{Float, of_bits, binary32}
use Rattle.scene_held.proofs.Arrays.{all_held}
use Rattle.scene.specs.Scene.{step_of_contents, step_in}
use Rattle.scene.proofs.tick.step_in.Goals as goal

pub returns : goal.returns
unfolding step_in
returns c =
    let all = c.put_all.ensures in
    λ few.
    c.step_held.ensures
    ∙ ap step_of_contents (all_held c.args.file.now c.args.n c.put_all.new.words c.put_all.new.singles _ _ (length-replicate {0} {A = ℕ} 15744 0) (length-replicate {0} {A = Float} 15744 (of_bits binary32 0)) (search rules) (search rules) all.words_after all.words_after_2 all.singles_after few)
