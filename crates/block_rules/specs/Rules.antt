-- The blocks of a scene file, and what binds in every one. Document 01's and 02's words stand in quotes.
use Rattle.std.specs.Prelude.{Bool, true, ◌&&◌, ◌||◌, List, [], ℕ, ◌+◌, ◌*◌, ◌/◌, eqb, ltb, length, take, drop}
use Rattle.base.specs.Choose.{choose}
use Rattle.base.specs.Every.{every}
use Rattle.block_checks.specs.Checks.{file_word, marked, word126, check_of}

-- "blocks of 512 bytes": block b of a file; nothing where it is not there whole
unfoldable pub block_of : List ℕ → ℕ → List ℕ
block_of file b = choose (ltb b (length file / 512)) (take 512 (drop (b * 512) file)) []

-- "a file whose first mark is the old one is read by the old rule"
unfoldable pub is_second : List ℕ → Bool
is_second file = marked true (block_of file 0)

-- "3 to 125 payload" and "unused words zero": each word from 3 to 125 is one of those in use, or zero
unfoldable pub rest_zero : List ℕ → ℕ → Bool
rest_zero block used = every 123 (λ i. ltb i used || eqb (file_word block (3 + i)) 0)

-- "word 1 the kind; word 2 the block's number from 0", and "127 the check"
unfoldable pub block_fits : Bool → List ℕ → ℕ → ℕ → ℕ → Bool
block_fits second block number kind used =
    marked second block
    && eqb (file_word block 1) kind
    && eqb (file_word block 2) number
    && rest_zero block used
    && eqb (file_word block 126) (word126 second block)
    && eqb (file_word block 127) (check_of block)
