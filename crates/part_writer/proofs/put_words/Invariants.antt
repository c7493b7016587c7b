-- `part_writer::put_words` meets its contract. Assumes nothing.
use Rattle.std.proofs.Common.{◌≡◌, ◌*◌, ◌≤◌, length}
use Rattle.base.specs.Loop.{appended, stored}
use Rattle.blocks.specs.Blocks.{blocks_of}
use Rattle.part_writer.specs.Bytes.{part_block, word_in}
use Rattle.part_writer.proofs.put_words.Given as goal

abbrev pub invariant-loop-j : goal.invariant-loop-j
invariant-loop-j l =
    (l.j ≤ blocks_of l.p)
    × (length l.out ≡ length l.initial.out)
    × (l.out ≡ stored l.initial.out (l.p.first * 512) (appended (part_block l.p (word_in l.words)) l.j 0))
