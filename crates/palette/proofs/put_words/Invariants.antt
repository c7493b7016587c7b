-- `palette::put_words` meets its contract. Assumes nothing.
use mathlib.Core.Path.{◌≡◌}
use Prim.Native.Nat.{◌-◌, ◌/◌, ◌%◌, ◌≤◌}
use lib.ListN.{length}
use Rattle.base.specs.Loop.{listed, stored}
use Rattle.palette.specs.Palette.{palette_word, palette_records}
use Rattle.palette.proofs.put_words.Given as goal

abbrev pub invariant-loop-i : goal.invariant-loop-i
invariant-loop-i l = (l.i ≤ 4240) × (length l.out ≡ length l.initial.out) × (stored l.out l.i (listed (λ i. palette_word (i / 20) (i % 20)) (4240 - l.i) l.i) ≡ stored l.initial.out 0 palette_records)
