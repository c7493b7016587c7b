-- `block_writer::fill_block` meets its contract. Assumes nothing.
use Rattle.block_writer.proofs.Blocks.{filled, filled_is, other-kept}
use mathlib.Core.Path.{sym, ◌∙◌}
use Rattle.block_writer.proofs.fill_block.Goals as goal

pub returns-then-block-eq512 : goal.returns-then-block-eq512
returns-then-block-eq512 c =
    filled _ _ _ _ _ _ _ _ _ _ _ c.if-block-eq512.true c.put_head.ensures c.put_payload.ensures c.second_of-second.ensures
    c.put_word.ensures c.check_of-check.ensures c.put_word-then-block-eq512.ensures
    ∙ sym (filled_is _ _ _ _ _ c.if-block-eq512.true)

pub returns-else-block-eq512 : goal.returns-else-block-eq512
returns-else-block-eq512 c = sym (other-kept _ _ _ _ _ c.if-block-eq512.false)
