-- What the writer makes of a part: its blocks, and the buffer with these in it. Document 01's and 02's words stand in quotes. A part's words are a
-- function f of their places.
use Rattle.std.specs.Prelude.{Bool, ◌&&◌, List, ℕ, ◌+◌, ◌*◌, leb, length, get_or, Float}
use Rattle.std.specs.Float.{binary32}
use Rattle.std.specs.Float.Ieee.{to_bits}
use Rattle.base.specs.Choose.{choose}
use Rattle.base.specs.Loop.{appended, stored}
use Rattle.floats.specs.Numbers.{zero64}
use Rattle.blocks.specs.declared.Part.{Part}
use Rattle.blocks.specs.Blocks.{per_block, blocks_of, end_of, used_in}
pub use Rattle.block_writer.specs.Bytes.{byte_of, word_in}
unfoldable pub use Rattle.block_writer.specs.Bytes.{word_bytes, bytes_of, head_bytes, payload_word, with_second, with_check, block_bytes}

-- ---- a part: its blocks, one after the other

-- block j of a part
unfoldable pub part_block : Part → (ℕ → ℕ) → ℕ → List ℕ
part_block p f j = block_bytes (p.first + j) p.kind (λ k. f (j * per_block p.kind + k)) (used_in p j)

unfoldable pub part_bytes : Part → (ℕ → ℕ) → List ℕ
part_bytes p f = appended (part_block p f) (blocks_of p) 0

-- the part ends within a scene's 128 blocks, and within a buffer of this size
unfoldable pub part_room : ℕ → Part → Bool
part_room size p = leb (end_of p) 128 && leb (end_of p * 512) size

-- the buffer with the part's bytes at their place; as it was where there is no room for them
unfoldable pub written_part : List ℕ → Part → (ℕ → ℕ) → List ℕ
written_part out p f = choose (part_room (length out) p) (stored out (p.first * 512) (part_bytes p f)) out

-- the bits of f32 number i of lent numbers
unfoldable pub bits_in : List Float → ℕ → ℕ
bits_in numbers i = to_bits binary32 (get_or numbers i zero64)
