-- A scene written anew, whichever mark it has: the new scene holds the same numbers. Assumes nothing.
use mathlib.Core.Bool.{Bool, true, false, ◌&&◌}
use mathlib.Core.List.{List}
use mathlib.Core.Path.{◌≡◌, refl, sym, ap, subst, ◌∙◌}
use Prim.Native.Nat.{ℕ, ◌*◌, ◌<◌, ◌≤◌}
use native.Mathlib.Decide.{dec_lt}
use native.Mathlib.Omega.{arith}
use lib.Dec.{T, eqb}
use lib.ListN.{length, get_or, get_or-eq_default}
use lib.Signed.{mag}
use lib.Ieee.{binary32, binary64, fits, of_bits}
use lib.Ieee.Bits.{of_bits-fits}
use borrow.Author.Tests.{lt-ltb, le-ltb, eqb-true}
use Rattle.base.specs.Choose.{choose}
use Rattle.base.specs.Loop.{listed}
use Rattle.floats.specs.Numbers.{zero64}
use Rattle.lent_words.specs.Words.{signed_word, wide_of}
use Rattle.blocks.specs.declared.Part.{Part}
use Rattle.blocks.specs.Blocks.{part_word, body_part, record_part, box_part, window_part, cell_part}
use Rattle.files.specs.declared.Counts.{Counts}
use Rattle.files.specs.Places.{word_place, flap_number, present_word}
use Rattle.files.specs.Files.{body_word, window_in, counts_of, blocks_for, is_scene}
use Rattle.files.specs.Contents.{Contents, body_float, late_word, body_age, words_of, singles_of, contents_in}
use Rattle.files.proofs.Told.{tells}
use Rattle.part_writer.specs.Bytes.{word_in}
use Rattle.base.proofs.Listed.{listed-length, listed-from}
use Rattle.writer.specs.Contents.{counts_for, is_absent, written_number, as_written}
use Rattle.writer.specs.Written.{scene_blocks, refusal_of_contents, written_unless}
use Rattle.writer.proofs.Puts.{bytes-length}
use Rattle.rounds.specs.Rounds.{Typed, SameNumbers, WrittenAnew}
use Rattle.rounds.proofs.Passed.{passed}
use Rattle.rounds.proofs.Written.{listed-list, new-mark, is-scene, contents-read}
use Rattle.rounds.proofs.Read.{part-word-fits, counts_same, word_same, number_same, flap-wide, none-refused, size_same}

-- ---- what is read fits its type

-- what holds of each element, and of what stands in for one that is not there, holds at every place
at_place : {A : Type 0} (P : A → Type 0) (f : ℕ → A) (n : ℕ) (d : A) → ((k : ℕ) → P (f k)) → P d → (i : ℕ) → P (get_or (listed f n 0) i d)
at_place P f n d h g i = go (dec_lt i n)
  where
    go : Dec (i < n) → P (get_or (listed f n 0) i d)
    go (yes l) = rw (listed-from f n i d l) (h i)
    go (no l) =
        let s = listed-length f n 0 in
        let o : length (listed f n 0) ≤ i = omega arith in
        rw (get_or-eq_default (listed f n 0) d o) g

-- a word as a signed number is of 32 bits
signed-fits : (w : ℕ) → w < 4294967296 → mag (signed_word w) < 2147483648
unfolding signed_word choose
signed-fits w h = go (dec_lt w 2147483648)
  where
    go : Dec (w < 2147483648) → mag (signed_word w) < 2147483648
    go (yes l) = rw (lt-ltb w 2147483648 l) l
    go (no l) = let g : 2147483648 ≤ w = omega arith in rw (le-ltb w 2147483648 g) (omega arith)

zero-single : T (fits binary32 zero64)
unfolding of_bits fits
zero-single = tt

wide_fits : (l h : ℕ) → l < 4294967296 → h < 4294967296 → wide_of l h < 18446744073709551616
wide_fits l h a b = omega arith

module _ (file : List ℕ) (small : (i : ℕ) → get_or file i 0 < 256) (s : is_scene file ≡ true) (z : refusal_of_contents (contents_in file) ≡ 0) where
  abbrev c : Contents
  c = contents_in file

  abbrev n : Counts
  n = counts_of file

  abbrev word : Part → ℕ → ℕ
  word p i = part_word file p i

  fit : (p : Part) (i : ℕ) → part_word file p i < 4294967296
  fit p i = part-word-fits file small p i

  typed : Typed c
  unfolding words_of singles_of window_in body_float body_age
  typed =
      let w = window_part n.states n.boxes in
      record {
        records = at_place (λ w. w < 4294967296) (part_word file (record_part n.states)) (n.states * 20) 0 (fit (record_part n.states)) (omega arith);
        shapes = at_place (λ x. T (fits binary32 x)) (λ i. of_bits binary32 (part_word file (box_part n.states n.boxes) i)) (n.boxes * 6) zero64 (λ i. of_bits-fits binary32 _) zero-single;
        cells = at_place (λ w. w < 4294967296) (part_word file (cell_part n.states n.boxes n.cells)) n.cells 0 (fit (cell_part n.states n.boxes n.cells)) (omega arith);
        window = record { x = signed-fits _ (fit w 0); y = signed-fits _ (fit w 1); z = signed-fits _ (fit w 2); low = signed-fits _ (fit w 6); high = signed-fits _ (fit w 7) };
        numbers = at_place (λ x. T (fits binary64 x)) (body_float file) 19 zero64 (λ k. of_bits-fits binary64 _) (of_bits-fits binary64 0);
        words = at_place (λ w. w < 4294967296) (late_word file) 7 0 (λ k. fit body_part (word_place k)) (omega arith);
        age = wide_fits _ _ (fit body_part 38) (fit body_part 39);
      }

  -- ---- what is written of it is what is read

  absent-flap : wide_of (body_word file 24) (body_word file 25) ≡ 0 → body_float file 12 ≡ zero64
  unfolding body_float
  absent-flap e = ap (of_bits binary64) e

  written-number : (k : ℕ) → k < 19 → written_number c.numbers c.words k ≡ get_or c.numbers k zero64
  unfolding written_number is_absent choose
  written-number k h = go (eqb k flap_number) refl (eqb (word_in c.words present_word) 0) refl
    where
      go : (a : Bool) → eqb k flap_number ≡ a → (b : Bool) → eqb (word_in c.words present_word) 0 ≡ b → choose (a && b) zero64 (get_or c.numbers k zero64) ≡ get_or c.numbers k zero64
      go false ea b eb = refl
      go true ea false eb = refl
      go true ea true eb =
          let q : k ≡ 12 = eqb-true k flap_number ea in
          let f = flap-wide file small s z (rw (word_same file small s z 4 (omega arith)) at eb) in
          rw q (sym (number_same file small s z 12 (omega arith) ∙ absent-flap f))

  same-contents : as_written c ≡ c
  unfolding window_in
  same-contents =
      let m = listed-list (written_number c.numbers c.words) c.numbers 19 zero64 (listed-length (body_float file) 19 0) written-number in
      rw (m, word_same file small s z 5 (omega arith))

  few : scene_blocks c ≤ 128
  few = subst (λ k. k ≤ 128) (sym (ap (λ m. blocks_for m) (counts_same file small s z))) (tells file s).few

  pub same_numbers : SameNumbers file
  unfolding written_unless choose
  same_numbers =
      let p = passed c z in
      record {
        scene = is-scene c typed p few;
        new = new-mark c typed p few;
        same = contents-read c typed p few ∙ same-contents;
        long = bytes-length c (counts_for c) ∙ size_same file small s z;
        buffer = λ out h. rw (none-refused file small s z out h);
      }

pub written-anew : WrittenAnew
written-anew file small s z = same_numbers file small s z
