-- `block_writer::put_head` meets its contract. Assumes nothing.
use Rattle.block_writer.proofs.Blocks.{head-put}
use Rattle.block_writer.proofs.put_head.Goals as goal

pub returns : goal.returns
returns c =
    head-put _ _ _ _ _ _ _ c.mark_word.ensures c.put_word.ensures c.put_word-2.ensures c.put_word-3.ensures
