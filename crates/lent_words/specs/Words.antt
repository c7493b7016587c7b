-- Words that are lent or stand in a file: one as a signed number, two as one number, and eight as a window's numbers.
use Rattle.std.specs.Prelude.{List, [], ◌∷◌, ℕ, ◌+◌, ◌-◌, ◌*◌, ◌/◌, ◌%◌, ◌<◌, ltb, ℤ, pos, negsuc}
use Rattle.std.specs.Int.Signed.{mag}
use Rattle.base.specs.Choose.{choose}
use Rattle.window.specs.declared.Window.{Window}
use Rattle.window.specs.Numbers.{window_of}

-- a word as a signed number: two's complement
unfoldable pub signed_word : ℕ → ℤ
signed_word w = choose (ltb w 2147483648) (pos w) (negsuc (4294967295 - w))

-- a signed number as a word, two's complement too
unfoldable pub unsigned_word : ℤ → ℕ
unsigned_word (pos n) = n
unsigned_word (negsuc n) = 4294967295 - n

-- two words as one number, the low word first
abbrev pub wide_of : ℕ → ℕ → ℕ
wide_of low high = low + high * 4294967296

-- the two words of a number
abbrev pub low_of : ℕ → ℕ
low_of n = n % 4294967296

abbrev pub high_of : ℕ → ℕ
high_of n = n / 4294967296

-- word k being handed in: "signed origin, sizes", then the two heights; the air state stands elsewhere
abbrev pub window_from : (ℕ → ℕ) → ℕ → Window
window_from word air =
    window_of
    (signed_word (word 0)) (signed_word (word 1)) (signed_word (word 2))
    (word 3) (word 4) (word 5)
    (signed_word (word 6)) (signed_word (word 7)) air

-- and these eight words of a window
abbrev pub window_words : Window → List ℕ
window_words w =
    unsigned_word w.origin.x ∷ unsigned_word w.origin.y ∷ unsigned_word w.origin.z
    ∷ w.sizes.x ∷ w.sizes.y ∷ w.sizes.z
    ∷ unsigned_word w.lowest ∷ unsigned_word w.highest ∷ []

-- origin and heights are of 32 bits
pub record Signed (w : Window) : Type 0 where
  pub x : mag w.origin.x < 2147483648
  pub y : mag w.origin.y < 2147483648
  pub z : mag w.origin.z < 2147483648
  pub low : mag w.lowest < 2147483648
  pub high : mag w.highest < 2147483648
