-- `scene_anew::write_in` meets its contract. Assumes nothing.
use Rattle.std.proofs.Common.{rules}
use mathlib.Core.Path.{ap, ◌∙◌}
use Prim.Native.Nat.{ℕ}
use lib.ListN.{length, length-replicate}
use lib.Ieee.{Float, of_bits, binary32}
use Rattle.writer.specs.Written.{written_scene, scene_answer}
use Rattle.scene_held.proofs.Arrays.{all_held}
use Rattle.scene_anew.proofs.write_in.Goals as goal

pub returns : goal.returns
returns c =
    let all = c.put_all.ensures in
    let same = all_held c.args.file.now c.args.n c.put_all.new.words c.put_all.new.singles _ _ (length-replicate {0} {A = ℕ} 15744 0) (length-replicate {0} {A = Float} 15744 (of_bits binary32 0)) (search rules) (search rules) all.words_after all.words_after_2 all.singles_after in
    record { out_after = λ few. c.write_held.ensures.out_after ∙ ap (written_scene c.args.out.now) (same few); value = λ few. c.write_held.ensures.value ∙ ap (scene_answer (length c.args.out.now)) (same few) }
