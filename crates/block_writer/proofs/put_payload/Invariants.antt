-- `block_writer::put_payload` meets its contract. Assumes nothing.
use Rattle.std.proofs.Common.{◌≡◌, ◌+◌, ◌≤◌}
use Rattle.base.specs.Loop.{stored}
use Rattle.block_writer.specs.Bytes.{bytes_of, payload_word, word_in}
use Rattle.block_writer.proofs.put_payload.Given as goal

abbrev pub invariant-loop-i : goal.invariant-loop-i
invariant-loop-i l = (l.i ≤ 123) × (l.block ≡ stored l.initial.block 12 (bytes_of (payload_word (λ k. word_in l.words (l.from + k)) l.used) l.i))
