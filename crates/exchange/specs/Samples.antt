-- Two small blocks of the new mark, to compute on: the second says what an even distance can hide.
use Rattle.std.specs.Prelude.{List, [], ◌∷◌, ℕ, ◌/◌, ◌%◌, eqb, get_or}
use Rattle.base.specs.Choose.{choose}
use Rattle.base.specs.Loop.{listed}
use Rattle.part_writer.specs.Bytes.{byte_of}

-- a block: its first words, words 126 and 127, and zeros
unfoldable pub block_with : List ℕ → ℕ → ℕ → List ℕ
block_with first second check = listed (λ n. byte_of (choose (eqb (n / 4) 126) second (choose (eqb (n / 4) 127) check (get_or first (n / 4) 0))) (n % 4)) 512 0

-- a window's eight words, with the mark, kind 4 and number 0
unfoldable pub plain_block : List ℕ
plain_block = block_with (843989843 ∷ 4 ∷ 0 ∷ 10 ∷ 20 ∷ 30 ∷ 40 ∷ 50 ∷ 60 ∷ 70 ∷ 80 ∷ []) 843992971 1687983178

-- the same with words 3 and 5, two places apart, that differ by 2^31: no less than 2^31 is hidden there
unfoldable pub halfway : List ℕ
halfway = block_with (843989843 ∷ 4 ∷ 0 ∷ 0 ∷ 7 ∷ 2147483648 ∷ 40 ∷ 50 ∷ 60 ∷ 70 ∷ 80 ∷ []) 843992686 3835466488
