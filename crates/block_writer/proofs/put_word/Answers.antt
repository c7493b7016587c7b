-- `block_writer::put_word` meets its contract. Assumes nothing.
use Rattle.std.proofs.Common.{◌+◌, ◌*◌, ◌∙◌, arith}
use Rattle.base.proofs.Stored.{stored-mid}
use Rattle.block_writer.specs.Bytes.{word_bytes}
use Rattle.block_writer.proofs.Words.{le-bytes}
use Rattle.block_writer.proofs.put_word.Goals as goal

pub returns : goal.returns
unfolding word_bytes
returns c =
    let at = c.args.k * 4 in
    let put = c.copy_from_slice.ensures.after ∙ c.to_le_bytes.ensures ∙ le-bytes c.args.w in
    rw put (stored-mid c.args.block.now at (at + 4) (word_bytes c.args.w) (omega arith) c.requires (omega arith))
