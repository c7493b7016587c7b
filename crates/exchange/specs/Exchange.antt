-- Two words of a block exchanged, and what is said of it. Document 02's words stand in quotes.
use Rattle.std.specs.Prelude.{true, false, List, ◌≡◌, ℕ, ◌+◌, ◌-◌, ◌*◌, ◌/◌, ◌%◌, ◌^◌, ◌<◌, ◌≤◌, eqb, length, get_or}
use Rattle.base.specs.Choose.{choose}
use Rattle.base.specs.Loop.{listed}
use Rattle.blocks.specs.Blocks.{block_of, file_word, is_second, block_fits}
use Rattle.files.specs.Files.{is_scene}

-- how far two numbers are apart
abbrev pub distance : ℕ → ℕ → ℕ
distance a b = (a - b) + (b - a)

-- "two words among 1 to 125"
pub record Among (i j : ℕ) : Type 0 where
  pub one : 1 ≤ i
  pub one-most : i ≤ 125
  pub two : 1 ≤ j
  pub two-most : j ≤ 125

-- ---- of a file

-- the word that comes to stand at k when those at i and j change places
unfoldable pub from : ℕ → ℕ → ℕ → ℕ
from i j k = choose (eqb k i) j (choose (eqb k j) i k)

-- a file with words i and j of its block b exchanged: a block has 128 words, and a word four bytes
unfoldable pub exchange : ℕ → ℕ → ℕ → List ℕ → List ℕ
exchange b i j file = listed (λ n. get_or file (from (b * 128 + i) (b * 128 + j) (n / 4) * 4 + n % 4) 0) (length file) 0

-- a scene of the new mark, a block of it and two places in that
pub record Exchange (file : List ℕ) (b i j : ℕ) : Type 0 where
  pub bytes : (k : ℕ) → get_or file k 0 < 256
  pub scene : is_scene file ≡ true
  pub new : is_second file ≡ true
  pub there : b < length file / 512
  pub among : Among i j

abbrev pub word_of : List ℕ → ℕ → ℕ → ℕ
word_of file b k = file_word (block_of file b) k

-- "exchanging two unequal words among 1 to 125 of a sound new-mark block, an odd number of places apart, is always refused"
abbrev pub OddRefused : Type 0
OddRefused = (file : List ℕ) (b i j : ℕ) → Exchange file b i j → distance i j % 2 ≡ 1 → (word_of file b i ≡ word_of file b j → ⊥) → is_scene (exchange b i j file) ≡ false

-- ---- beyond the document

-- At any distance: where the exchange is not refused, 2^32 divides the places apart times the difference of the words.
abbrev pub OnlyMultiples : Type 0
OnlyMultiples = (file : List ℕ) (b i j : ℕ) → Exchange file b i j → is_scene (exchange b i j file) ≡ true → distance i j * distance (word_of file b i) (word_of file b j) % 4294967296 ≡ 0

-- So at a distance of 2^k times an odd number the words agree in their last 32 - k bits, or the exchange is refused.
abbrev pub LastBits : Type 0
LastBits = (file : List ℕ) (b i j k e : ℕ) → Exchange file b i j → k ≤ 32 → distance i j ≡ 2 ^ k * (2 * e + 1) → is_scene (exchange b i j file) ≡ true
    → distance (word_of file b i) (word_of file b j) % 2 ^ (32 - k) ≡ 0

-- And unequal words below 2^26, as all but floats, ages and negative numbers are, are refused at every distance.
abbrev pub SmallRefused : Type 0
SmallRefused = (file : List ℕ) (b i j : ℕ) → Exchange file b i j → word_of file b i < 67108864 → word_of file b j < 67108864
    → (word_of file b i ≡ word_of file b j → ⊥) → is_scene (exchange b i j file) ≡ false

-- ---- of a block, wherever it stands

-- the words of f become those of g: the two at i and j have changed places, and each other of the 128 is as it was
pub record Exchanged (f g : ℕ → ℕ) (i j : ℕ) : Type 0 where
  pub there : g i ≡ f j
  pub back : g j ≡ f i
  pub others : (k : ℕ) → k < 128 → (k ≡ i → ⊥) → (k ≡ j → ⊥) → g k ≡ f k

-- whatever else a file holds, it is no scene if one of its blocks is a sound one with two such words exchanged
abbrev pub BlockRefused : Type 0
BlockRefused = (block : List ℕ) (number kind used i j : ℕ) → ((k : ℕ) → get_or block k 0 < 256) → block_fits true block number kind used ≡ true
    → Among i j → distance i j % 2 ≡ 1 → (file_word block i ≡ file_word block j → ⊥)
    → (file : List ℕ) (b : ℕ) → b < length file / 512 → Exchanged (file_word block) (file_word (block_of file b)) i j → is_scene file ≡ false
