-- The words, the marks and the two checks of a block of a scene file. Document 01's and 02's words stand in quotes.
use Rattle.std.specs.Prelude.{ℕ, zero, suc, ◌+◌, ◌*◌, ◌%◌, Bool, List, take, slice_index}
use Rattle.base.specs.Choose.{choose}
use Rattle.suffixes.specs.Bytes.{bytes, equal}

-- ---- words: "little-endian words"

-- word k of a block; a byte that is not there is 0
unfoldable pub file_word : List ℕ → ℕ → ℕ
file_word block k =
    slice_index block (k * 4) + slice_index block (k * 4 + 1) * 256 + slice_index block (k * 4 + 2) * 65536 + slice_index block (k * 4 + 3) * 16777216

-- ---- marks

-- There are two rules. By the first "Word 0 is the four bytes 53 43 4E 31" and word 126 is zero; by the second "The mark becomes 53 43 4E 32" and
-- "Word 126 becomes the second check". All else is the same. `second` says that it is the second.
abbrev pub old_mark : List ℕ
old_mark = bytes "SCN1"

abbrev pub new_mark : List ℕ
new_mark = bytes "SCN2"

unfoldable pub marked : Bool → List ℕ → Bool
marked second block = equal (take 4 block) (choose second new_mark old_mark)

-- ---- checks

-- f 0, f 1 and so on, as many as the number says, added up
unfoldable pub sum_of : (ℕ → ℕ) → ℕ → ℕ
sum_of f zero = 0
sum_of f (suc n) = sum_of f n + f n

-- "the check: the sum of words 0 to 126, wrapping at 2^32"
unfoldable pub check_of : List ℕ → ℕ
check_of block = sum_of (file_word block) 127 % 4294967296

-- "the second check: the sum over words 0 to 125 of (index + 1) times the word, wrapping at 2^32"
unfoldable pub second_of : List ℕ → ℕ
second_of block = sum_of (λ k. (k + 1) * file_word block k) 126 % 4294967296

-- what word 126 is to be
unfoldable pub word126 : Bool → List ℕ → ℕ
word126 second block = choose second (second_of block) 0
