-- Words of a block: of bytes they are below 2^32, and sums of the same words are the same. Assumes nothing.
use Rattle.std.proofs.Common.{◌≡◌, ℕ, zero, suc, ◌+◌, ◌*◌, ◌<◌, List, get_or, take, refl, arith, get_or-take}
use Rattle.block_checks.specs.Checks.{file_word, sum_of}

pub sum_same : (f g : ℕ → ℕ) (n : ℕ) → ((k : ℕ) → k < n → f k ≡ g k) → sum_of f n ≡ sum_of g n
unfolding sum_of
sum_same f g zero h = refl
sum_same f g (suc n) h = rw (sum_same f g n (λ k l. h k (omega arith)), h n (omega arith))

-- ---- a word of bytes

four-fit : (a b c d : ℕ) → a < 256 → b < 256 → c < 256 → d < 256 → a + b * 256 + c * 65536 + d * 16777216 < 4294967296
four-fit a b c d ha hb hc hd = omega arith

pub word_fits : (l : List ℕ) → ((i : ℕ) → get_or l i 0 < 256) → (k : ℕ) → file_word l k < 4294967296
unfolding file_word
word_fits l s k = four-fit _ _ _ _ (s (k * 4)) (s (k * 4 + 1)) (s (k * 4 + 2)) (s (k * 4 + 3))

-- word 0 is its four bytes
pub first_word : (l m : List ℕ) → take 4 l ≡ m → file_word l 0 ≡ file_word m 0
unfolding file_word
first_word l m e = rw (← e, get_or-take 4 l 0 0 (omega arith), get_or-take 4 l 1 0 (omega arith), get_or-take 4 l 2 0 (omega arith), get_or-take 4 l 3 0 (omega arith))
