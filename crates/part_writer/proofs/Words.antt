-- A word is its four bytes, four bytes are a word, and a check is a word. Assumes nothing.
use mathlib.Core.List.{List, [], ◌∷◌}
use mathlib.Core.Path.{◌≡◌, refl, sym, ap, ◌∙◌}
use Prim.Native.Nat.{ℕ, suc, ◌+◌, ◌*◌, ◌/◌, ◌%◌, ◌<◌, ◌≤◌}
use native.Mathlib.Nat.{mod-lt}
use native.Mathlib.Omega.{arith}
use lib.ListN.{length, get_or, take, drop}
use lib.Seq.{drop-cons, get_or-take, get_or-drop}
use Rattle.base.proofs.Appended.{appended-same, appended-cut}
use Rattle.blocks.specs.Blocks.{file_word, sum_of, check_of, second_of}
use Rattle.part_writer.specs.Bytes.{byte_of, word_bytes, bytes_of}

-- ---- the four bytes of a word, added up as the reader does

four : (w : ℕ) → w < 4294967296 → byte_of w 0 + byte_of w 1 * 256 + byte_of w 2 * 65536 + byte_of w 3 * 16777216 ≡ w
four w h =
    let two : w / 65536 ≡ w / 256 / 256 = omega arith in
    let three : w / 16777216 ≡ w / 256 / 256 / 256 = omega arith in
    let last : w / 256 / 256 / 256 < 256 = omega arith in
    rw (two, three) (sums w (w / 256) (w / 256 / 256) (w / 256 / 256 / 256) refl refl refl last)
  where
    added : (x y z t w a b c : ℕ) → x + a * 256 ≡ w → y + b * 256 ≡ a → z + c * 256 ≡ b → t ≡ c → x + y * 256 + z * 65536 + t * 16777216 ≡ w
    added x y z t w a b c e₁ e₂ e₃ e₄ = omega arith

    sums : (w a b c : ℕ) → a ≡ w / 256 → b ≡ a / 256 → c ≡ b / 256 → c < 256 → w / 1 % 256 + a % 256 * 256 + b % 256 * 65536 + c % 256 * 16777216 ≡ w
    sums w a b c e₁ e₂ e₃ h =
        let s₁ : w / 1 % 256 + a * 256 ≡ w = omega arith in
        let s₂ : a % 256 + b * 256 ≡ a = omega arith in
        let s₃ : b % 256 + c * 256 ≡ b = omega arith in
        let s₄ : c % 256 ≡ c = omega arith in
        added (w / 1 % 256) (a % 256) (b % 256) (c % 256) w a b c s₁ s₂ s₃ s₄

-- the bytes of what the reader makes of four bytes
module _ (a b c d : ℕ) (ha : a < 256) (hb : b < 256) (hc : c < 256) (hd : d < 256) where
  abbrev whole : ℕ
  whole = a + b * 256 + c * 65536 + d * 16777216

  byte-0 : byte_of whole 0 ≡ a
  byte-0 = omega arith

  byte-1 : byte_of whole 1 ≡ b
  byte-1 = omega arith

  byte-2 : byte_of whole 2 ≡ c
  byte-2 = omega arith

  byte-3 : byte_of whole 3 ≡ d
  byte-3 = omega arith

  joined_bytes : word_bytes whole ≡ a ∷ b ∷ c ∷ d ∷ []
  unfolding word_bytes
  joined_bytes = rw (byte-0, byte-1, byte-2, byte-3)

-- ---- words of a list of bytes

-- byte j of four from place i on
byte-in : (l : List ℕ) (i j : ℕ) → j < 4 → get_or (take 4 (drop i l)) j 0 ≡ get_or l (i + j) 0
byte-in l i j h = get_or-take 4 (drop i l) j 0 h ∙ get_or-drop i l j 0

-- a word whose bytes stand at its place
pub word-there : (l : List ℕ) (k w : ℕ) → w < 4294967296 → take 4 (drop (k * 4) l) ≡ word_bytes w → file_word l k ≡ w
unfolding file_word word_bytes
word-there l k w h e =
    let z : k * 4 + 0 ≡ k * 4 = omega arith in
    let b₀ : get_or l (k * 4) 0 ≡ byte_of w 0 = rw z at (sym (byte-in l (k * 4) 0 (omega arith)) ∙ ap (λ (t : List ℕ). get_or t 0 0) e) in
    let b₁ : get_or l (k * 4 + 1) 0 ≡ byte_of w 1 = sym (byte-in l (k * 4) 1 (omega arith)) ∙ ap (λ (t : List ℕ). get_or t 1 0) e in
    let b₂ : get_or l (k * 4 + 2) 0 ≡ byte_of w 2 = sym (byte-in l (k * 4) 2 (omega arith)) ∙ ap (λ (t : List ℕ). get_or t 2 0) e in
    let b₃ : get_or l (k * 4 + 3) 0 ≡ byte_of w 3 = sym (byte-in l (k * 4) 3 (omega arith)) ∙ ap (λ (t : List ℕ). get_or t 3 0) e in
    rw (b₀, b₁, b₂, b₃) (four w h)

-- four bytes, one by one
four-taken : (l : List ℕ) (i : ℕ) → i + 4 ≤ length l → take 4 (drop i l) ≡ get_or l i 0 ∷ get_or l (i + 1) 0 ∷ get_or l (i + 2) 0 ∷ get_or l (i + 3) 0 ∷ []
four-taken l i h =
    let s₁ : suc i ≡ i + 1 = omega arith in
    let s₂ : suc (i + 1) ≡ i + 2 = omega arith in
    let s₃ : suc (i + 2) ≡ i + 3 = omega arith in
    let d₀ = rw s₁ at (drop-cons l i 0 (omega arith)) in
    let d₁ = rw s₂ at (drop-cons l (i + 1) 0 (omega arith)) in
    let d₂ = rw s₃ at (drop-cons l (i + 2) 0 (omega arith)) in
    let d₃ = drop-cons l (i + 3) 0 (omega arith) in
    rw (d₀, d₁, d₂, d₃)

-- the bytes of the word that is read
pub word-bytes : (l : List ℕ) → ((i : ℕ) → get_or l i 0 < 256) → (k : ℕ) → k * 4 + 4 ≤ length l → word_bytes (file_word l k) ≡ take 4 (drop (k * 4) l)
unfolding file_word
word-bytes l b k h =
    joined_bytes _ _ _ _ (b (k * 4)) (b (k * 4 + 1)) (b (k * 4 + 2)) (b (k * 4 + 3)) ∙ sym (four-taken l (k * 4) h)

-- so many words of a list are the bytes that are there
pub words_back : (l : List ℕ) → ((i : ℕ) → get_or l i 0 < 256) → (n : ℕ) → n * 4 ≤ length l → take (n * 4) l ≡ bytes_of (file_word l) n
unfolding bytes_of
words_back l b n h =
    appended-cut 4 l n
    ∙ appended-same (λ (k : ℕ). take 4 (drop (k * 4) l)) (λ (k : ℕ). word_bytes (file_word l k)) n (λ k g. sym (word-bytes l b k (omega arith)))

-- ---- the two checks

pub check-fits : (l : List ℕ) → check_of l < 4294967296
unfolding check_of
check-fits l = mod-lt (sum_of (file_word l) 127) (omega arith)

pub second_fits : (l : List ℕ) → second_of l < 4294967296
unfolding second_of
second_fits l = mod-lt (sum_of (λ k. (k + 1) * file_word l k) 126) (omega arith)
