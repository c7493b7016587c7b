-- A word, a number of two words and a window's words, there and back. Assumes nothing.
use mathlib.Core.Path.{◌≡◌}
use Prim.Native.Nat.{ℕ, ◌-◌, ◌<◌, ◌≤◌}
use native.Mathlib.Decide.{dec_lt}
use native.Mathlib.Omega.{arith}
use lib.IntN.{ℤ, pos, negsuc}
use lib.ListN.{get_or}
use lib.Signed.{mag}
use borrow.Author.Tests.{lt-ltb, le-ltb}
use Rattle.base.specs.Choose.{choose}
use Rattle.base.specs.Loop.{listed}
use Rattle.window.specs.declared.Window.{Window}
use Rattle.window.specs.Numbers.{with_air}
use Rattle.lent_words.specs.Words.{signed_word, unsigned_word, wide_of, low_of, high_of, window_from, window_words, Signed}

-- ---- a signed word

pub unsigned-fits : (z : ℤ) → mag z < 2147483648 → unsigned_word z < 4294967296
unfolding unsigned_word
unsigned-fits (pos n) h = omega arith
unsigned-fits (negsuc n) h = omega arith

pub signed-unsigned : (z : ℤ) → mag z < 2147483648 → signed_word (unsigned_word z) ≡ z
unfolding unsigned_word signed_word choose
signed-unsigned (pos n) h = rw (lt-ltb n 2147483648 h)
signed-unsigned (negsuc n) h =
    let e : 4294967295 - (4294967295 - n) ≡ n = omega arith in
    rw (le-ltb (4294967295 - n) 2147483648 (omega arith), e)

pub unsigned_signed : (w : ℕ) → w < 4294967296 → unsigned_word (signed_word w) ≡ w
unfolding unsigned_word signed_word choose
unsigned_signed w h = go (dec_lt w 2147483648)
  where
    go : Dec (w < 2147483648) → unsigned_word (signed_word w) ≡ w
    go (yes l) = rw (lt-ltb w 2147483648 l)
    go (no l) =
        let g : 2147483648 ≤ w = omega arith in
        let e : 4294967295 - (4294967295 - w) ≡ w = omega arith in
        rw (le-ltb w 2147483648 g) e

-- ---- two words

pub wide-halves : (n : ℕ) → wide_of (low_of n) (high_of n) ≡ n
wide-halves n = omega arith

pub low_wide : (l h : ℕ) → l < 4294967296 → low_of (wide_of l h) ≡ l
low_wide l h b = omega arith

pub high-wide : (l h : ℕ) → l < 4294967296 → high_of (wide_of l h) ≡ h
high-wide l h b = omega arith

-- ---- a window

pub window-back : (w : Window) (air : ℕ) → Signed w → window_from (λ k. get_or (window_words w) k 0) air ≡ with_air w air
window-back w air s =
    rw (signed-unsigned w.origin.x s.x, signed-unsigned w.origin.y s.y, signed-unsigned w.origin.z s.z, signed-unsigned w.lowest s.low, signed-unsigned w.highest s.high)

pub words_back : (word : ℕ → ℕ) (air : ℕ) → ((k : ℕ) → word k < 4294967296) → window_words (window_from word air) ≡ listed word 8 0
unfolding listed
words_back word air h =
    rw (unsigned_signed (word 0) (h 0), unsigned_signed (word 1) (h 1), unsigned_signed (word 2) (h 2), unsigned_signed (word 6) (h 6), unsigned_signed (word 7) (h 7))
