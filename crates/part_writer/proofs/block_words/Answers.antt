-- `part_writer::block_words` meets its contract. Assumes nothing.
use Rattle.std.proofs.Common.{◌+◌, rules}
use lib.ListN.{length-set}
use Rattle.base.proofs.Fill.{turn}
use Rattle.base.proofs.Listed.{filled}
use Rattle.part_writer.proofs.block_words.Goals as goal

pub loop-k-preserved : goal.loop-k-preserved
loop-k-preserved g c =
    (search rules, simp length-set c.loop-k.invariant.1, λ f h. turn (λ i. f (c.args.from + i)) 123 c.loop-k.k c.loop-k.words _ c.word.result (h _ _ c.word.ensures) (search rules) (search rules) (c.loop-k.invariant.2 f h))

pub returns : goal.returns
returns g c =
    λ f h. filled (λ i. f (c.args.from + i)) 123 c.loop-k.k c.loop-k.words c.loop-k.invariant.1 c.loop-k.invariant.0 (search rules) (c.loop-k.invariant.2 f h)
