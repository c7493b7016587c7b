-- `part_writer::put_part` meets its contract. Assumes nothing.
use Rattle.std.proofs.Common.{◌≡◌, ℕ, ◌*◌, ◌≤◌, length}
use Rattle.base.specs.Loop.{appended, stored}
use Rattle.blocks.specs.Blocks.{blocks_of}
use Rattle.part_writer.specs.Bytes.{part_block}
use Rattle.part_writer.proofs.put_part.Given as goal

abbrev pub invariant-loop-j : goal.invariant-loop-j
invariant-loop-j g l =
    (l.j ≤ blocks_of l.p)
    × (length l.out ≡ length l.initial.out)
    × ((f : ℕ → ℕ) → ((i w : ℕ) → goal.F-post g l.word i w → w ≡ f i) → l.out ≡ stored l.initial.out (l.p.first * 512) (appended (part_block l.p f) l.j 0))
