-- `scene_held::parts::put_all` meets its contract. Assumes nothing.
use Rattle.std.proofs.Common.{rules}
use native.Mathlib.Omega.{arith}
use Prim.Native.Nat.{◌-◌}
use lib.ListN.{length}
use Rattle.scene_held.proofs.Arrays.{put_front, put-behind}
use Rattle.scene_held.proofs.parts.put_all.Goals as goal

pub returns : goal.returns
returns c =
    let held-is = c.held-a.ensures in
    let words = c.take_words.new.to in
    let behind = c.take_words-2.new.to in
    record { words_after = put_front _ _ c.held-a.result (length words - c.held-a.result) words behind held-is (search rules) (rw c.record_part.ensures at c.take_words.ensures); words_after_2 = put-behind _ _ c.held-a.result _ _ words behind held-is (omega arith) (search rules) (search rules) (rw c.cell_part.ensures at c.take_words-2.ensures); singles_after = rw c.box_part.ensures at c.take_singles.ensures }
