-- `palette::put_words` meets its contract. Assumes nothing.
use Rattle.std.proofs.Common.{rules}
use mathlib.Core.Path.{refl}
use Prim.Native.Nat.{◌/◌, ◌%◌}
use lib.ListN.{length-set}
use Rattle.palette.specs.Palette.{palette_word, palette_records}
use Rattle.palette_boxes.proofs.Boxes.{list-turn, list-end}
use Rattle.palette.proofs.put_words.Goals as goal

pub loop-i-init : goal.loop-i-init
unfolding palette_records
loop-i-init c = (search rules, refl, refl)

pub loop-i-preserved : goal.loop-i-preserved
loop-i-preserved c = (search rules, rw (length-set) c.loop-i.invariant.1, list-turn (λ i. palette_word (i / 20) (i % 20)) 4240 c.loop-i.i c.loop-i.out _ _ c.palette_word.result c.palette_word.ensures refl c.loop-i-test.true c.loop-i.invariant.2)

pub shape_of-out : goal.shape_of-out
shape_of-out c = c.loop-i.invariant.1

pub returns : goal.returns
returns c = list-end (λ i. palette_word (i / 20) (i % 20)) 4240 c.loop-i.i c.loop-i.out _ c.loop-i-test.false c.loop-i.invariant.2
