-- What the writer makes of a block, byte for byte. Document 01's and 02's words stand in quotes. A block's words are a function f of their places.
use Rattle.std.specs.Prelude.{List, [], ◌∷◌, ◌++◌, ℕ, ◌*◌, ◌/◌, ◌%◌, ◌^◌, eqb, ltb, length, get_or}
use Rattle.base.specs.Choose.{choose}
use Rattle.base.specs.Loop.{appended}
use Rattle.block_checks.specs.Checks.{new_mark, check_of, second_of}

-- ---- words as bytes: "little-endian words"

abbrev pub byte_of : ℕ → ℕ → ℕ
byte_of w j = w / 2 ^ (j * 8) % 256

unfoldable pub word_bytes : ℕ → List ℕ
word_bytes w = byte_of w 0 ∷ byte_of w 1 ∷ byte_of w 2 ∷ byte_of w 3 ∷ []

-- the bytes of so many words
unfoldable pub bytes_of : (ℕ → ℕ) → ℕ → List ℕ
bytes_of word n = appended (λ k. word_bytes (word k)) n 0

-- ---- a block

-- "The mark becomes 53 43 4E 32", "word 1 the kind; word 2 the block's number from 0"
unfoldable pub head_bytes : ℕ → ℕ → List ℕ
head_bytes number kind = new_mark ++ (word_bytes kind ++ word_bytes number)

-- "3 to 125 payload", "unused words zero": word 3 + i
unfoldable pub payload_word : (ℕ → ℕ) → ℕ → ℕ → ℕ
payload_word f used i = choose (ltb i used) (f i) 0

-- "Word 126 becomes the second check" of what stands before it
unfoldable pub with_second : List ℕ → List ℕ
with_second before = before ++ word_bytes (second_of before)

-- "127 the check" of what stands before it, word 126 with it
unfoldable pub with_check : List ℕ → List ℕ
with_check before = before ++ word_bytes (check_of before)

unfoldable pub block_bytes : ℕ → ℕ → (ℕ → ℕ) → ℕ → List ℕ
block_bytes number kind f used = with_check (with_second (head_bytes number kind ++ bytes_of (payload_word f used) 123))

-- a buffer of a block's length with the block in it; one of another length keeps its bytes
unfoldable pub filled_block : List ℕ → ℕ → ℕ → (ℕ → ℕ) → ℕ → List ℕ
filled_block old number kind f used = choose (eqb (length old) 512) (block_bytes number kind f used) old

-- word i of lent words; one that is not there is 0
abbrev pub word_in : List ℕ → ℕ → ℕ
word_in words i = get_or words i 0
