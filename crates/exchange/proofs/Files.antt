-- The theorems of files with two words exchanged. Assumes nothing.
use mathlib.Core.Bool.{Bool, true, false}
use mathlib.Core.List.{List}
use mathlib.Core.Path.{◌≡◌, refl, sym, ap, ◌∙◌}
use Prim.Native.Nat.{ℕ, ◌+◌, ◌-◌, ◌*◌, ◌/◌, ◌%◌, ◌^◌, ◌<◌, ◌≤◌}
use native.Mathlib.Decide.{dec_lt}
use native.Mathlib.Omega.{arith}
use lib.ListN.{length, get_or}
use borrow.Author.Tests.{eq-eqb, ne_eqb}
use Rattle.base.specs.Choose.{choose}
use Rattle.blocks.specs.Blocks.{block_of, file_word, is_second}
use Rattle.block_checks.proofs.Words.{word_fits}
use Rattle.block_rules.proofs.Blocks.{block-small, block-word}
use Rattle.files.specs.Files.{is_scene}
use Rattle.files.proofs.Told.{each-block}
use Rattle.base.proofs.Listed.{listed-length, listed-from}
use Rattle.exchange.specs.Exchange.{distance, Among, Exchanged, from, exchange, word_of, OddRefused, OnlyMultiples, LastBits, SmallRefused, BlockRefused}
use Rattle.exchange.proofs.Powers.{even-cancels, small-cancels, remainder, none}
use Rattle.exchange.proofs.Blocks.{only-multiples}

-- ---- which word comes to stand where

from_one : (i j : ℕ) → from i j i ≡ j
unfolding from choose
from_one i j = rw (eq-eqb i i refl)

from-two : (i j : ℕ) → (j ≡ i → ⊥) → from i j j ≡ i
unfolding from choose
from-two i j h = rw (ne_eqb j i h, eq-eqb j j refl)

from-other : (i j k : ℕ) → (k ≡ i → ⊥) → (k ≡ j → ⊥) → from i j k ≡ k
unfolding from choose
from-other i j k h g = rw (ne_eqb k i h, ne_eqb k j g)

-- ---- the words of the exchanged file

module _ (b i j : ℕ) (file : List ℕ) where
  abbrev origin : ℕ → ℕ
  origin k = from (b * 128 + i) (b * 128 + j) k

  exchange-length : length (exchange b i j file) ≡ length file
  unfolding exchange
  exchange-length = listed-length _ (length file) 0

  byte_at : (k m n o : ℕ) → k * 4 + 4 ≤ length file → m < 4 → n ≡ k * 4 + m → o ≡ origin k * 4 + m → get_or (exchange b i j file) n 0 ≡ get_or file o 0
  unfolding exchange
  byte_at k m n o h l e q =
      let d : n / 4 ≡ k = omega arith in
      let r : n % 4 ≡ m = omega arith in
      listed-from (λ n. get_or file (origin (n / 4) * 4 + n % 4) 0) (length file) n 0 (omega arith) ∙ (rw (d, r, q))

  word-at : (k : ℕ) → k * 4 + 4 ≤ length file → file_word (exchange b i j file) k ≡ file_word file (origin k)
  unfolding file_word
  word-at k h =
      let a = byte_at k 0 (k * 4) (origin k * 4) h (omega arith) (omega arith) (omega arith) in
      let d = byte_at k 1 (k * 4 + 1) (origin k * 4 + 1) h (omega arith) (omega arith) (omega arith) in
      let e = byte_at k 2 (k * 4 + 2) (origin k * 4 + 2) h (omega arith) (omega arith) (omega arith) in
      let f = byte_at k 3 (k * 4 + 3) (origin k * 4 + 3) h (omega arith) (omega arith) (omega arith) in
      rw (a, d, e, f)

  module _ (there : b < length file / 512) (among : Among i j) (apart-they : j ≡ i → ⊥) where
    -- word k of the block is a word of the block
    block_at : (k o : ℕ) → k < 128 → o < 128 → origin (b * 128 + k) ≡ b * 128 + o → file_word (block_of (exchange b i j file) b) k ≡ file_word (block_of file b) o
    block_at k o h l e =
        let n = exchange-length in
        block-word (exchange b i j file) b k (rw n there) h ∙ word-at (b * 128 + k) (omega arith) ∙ ap (file_word file) e ∙ sym (block-word file b o there l)

    exchanged-block : Exchanged (file_word (block_of file b)) (file_word (block_of (exchange b i j file) b)) i j
    exchanged-block =
        let p = among.one-most in
        let q = among.two-most in
        record {
          there = block_at i j (omega arith) (omega arith) (from_one (b * 128 + i) (b * 128 + j));
          back = block_at j i (omega arith) (omega arith) (from-two (b * 128 + i) (b * 128 + j) (λ e. apart-they (omega arith)));
          others = λ k l h g. block_at k k l l (from-other (b * 128 + i) (b * 128 + j) (b * 128 + k) (λ e. h (omega arith)) (λ e. g (omega arith)));
        }

-- ---- the theorems

not-true : (t : Bool) → (t ≡ true → ⊥) → t ≡ false
not-true true h = absurd (h refl)
not-true false h = refl

-- 2^32 goes into a product without remainder
times : (p : ℕ) → p % 4294967296 ≡ 0 → p ≡ 4294967296 * (p / 4294967296)
times p h = omega arith

equal-apart : (a b : ℕ) → distance a b ≡ 0 → a ≡ b
equal-apart a b h = omega arith

below : (a b n : ℕ) → a < n → b < n → distance a b < n
below a b n h g = omega arith

-- an odd distance
odd-words : (d a b : ℕ) → d % 2 ≡ 1 → a < 4294967296 → b < 4294967296 → d * distance a b % 4294967296 ≡ 0 → a ≡ b
odd-words d a b odd ha hb h =
    let e : d ≡ 1 * (2 * (d / 2) + 1) = omega arith in
    equal-apart a b (none 4294967296 (distance a b) (omega arith) (even-cancels 0 (d / 2) d (distance a b) (d * distance a b / 4294967296) (omega arith) e (times (d * distance a b) h)) (below a b 4294967296 ha hb))

-- two places at most 124 apart, and words below 2^26
small-words : (d a b : ℕ) → 0 < d → d < 128 → a < 67108864 → b < 67108864 → d * distance a b % 4294967296 ≡ 0 → a ≡ b
small-words d a b pos less ha hb h =
    equal-apart a b (none 67108864 (distance a b) (omega arith) (small-cancels 6 26 d (distance a b) (d * distance a b / 4294967296) pos less (times (d * distance a b) h)) (below a b 67108864 ha hb))

-- the same place twice
no_distance : (i j n : ℕ) → (i < j → ⊥) → (j < i → ⊥) → distance i j * n % 4294967296 ≡ 0
no_distance i j n h g =
    let z : distance i j ≡ 0 = omega arith in
    rw z (nothing n)
  where
    nothing : (n : ℕ) → 0 * n % 4294967296 ≡ 0
    nothing n = omega arith

pub multiples : OnlyMultiples
multiples file b i j x s = go (dec_lt i j) (dec_lt j i)
  where
    at-two : (j ≡ i → ⊥) → distance i j * distance (word_of file b i) (word_of file b j) % 4294967296 ≡ 0
    at-two n =
        let new = x.new in
        let size = exchange-length b i j file in
        let f = each-block file x.scene b x.there in
        let g = each-block (exchange b i j file) s b (rw size x.there) in
        only-multiples (block_of file b) (block_of (exchange b i j file) b) i j x.among (exchanged-block b i j file x.there x.among n) b f.kind f.used (rw new at f.fits)
        (is_second (exchange b i j file)) b g.kind g.used g.fits

    go : Dec (i < j) → Dec (j < i) → distance i j * distance (word_of file b i) (word_of file b j) % 4294967296 ≡ 0
    go (yes h) l = at-two (λ e. omega arith)
    go (no h) (yes l) = at-two (λ e. omega arith)
    go (no h) (no l) = no_distance i j (distance (word_of file b i) (word_of file b j)) h l

pub odd_refused : OddRefused
odd_refused file b i j x odd unequal =
    let small = block-small file x.bytes b in
    not-true (is_scene (exchange b i j file))
    (λ s. unequal (odd-words (distance i j) _ _ odd (word_fits (block_of file b) small i) (word_fits (block_of file b) small j) (multiples file b i j x s)))

pub last-bits : LastBits
last-bits file b i j k e x h d s =
    let p : ℕ = distance i j * distance (word_of file b i) (word_of file b j) in
    remainder (2 ^ (32 - k)) (distance (word_of file b i) (word_of file b j))
    (even-cancels k e (distance i j) (distance (word_of file b i) (word_of file b j)) (p / 4294967296) h d (times p (multiples file b i j x s)))

pub small-refused : SmallRefused
small-refused file b i j x hi hj unequal = not-true (is_scene (exchange b i j file)) (λ s. go s (dec_lt 0 (distance i j)))
  where
    go : is_scene (exchange b i j file) ≡ true → Dec (0 < distance i j) → ⊥
    go s (yes h) =
        let p = x.among.one in
        let p' = x.among.one-most in
        let q = x.among.two in
        let q' = x.among.two-most in
        unequal (small-words (distance i j) _ _ h (omega arith) hi hj (multiples file b i j x s))
    go s (no h) = let e : i ≡ j = omega arith in unequal (ap (word_of file b) e)

pub block_refused : BlockRefused
block_refused block number kind used i j small fits among odd unequal file b there exchanged =
    not-true (is_scene file)
    (λ s.
    let g = each-block file s b there in
    unequal
    (odd-words (distance i j) _ _ odd (word_fits block small i) (word_fits block small j)
    (only-multiples block (block_of file b) i j among exchanged number kind used fits (is_second file) b g.kind g.used g.fits)))
