-- The two rounds of a part. Written, then read: it fits, and each word comes back. Read, then written: a part that fits is, byte for byte, what the
-- writer makes of its words. Assumes nothing.
use mathlib.Core.Bool.{true, false}
use mathlib.Core.List.{List, [], ◌++◌}
use mathlib.Core.Path.{◌≡◌, refl, sym, ap, ◌∙◌}
use Prim.Native.Nat.{ℕ, suc, ◌+◌, ◌*◌, ◌/◌, ◌%◌, ◌<◌, ◌≤◌, min}
use native.Mathlib.Nat.{div-add-mod'}
use native.Mathlib.Decide.{dec_lt}
use native.Mathlib.Omega.{arith}
use lib.Dec.{leb}
use lib.ListN.{length, get_or, take, drop, length-append, length-take, length-drop}
use lib.Seq.{drop-drop, drop_at, take_all, take-add, take-append-le, drop-append-le}
use borrow.Author.Tests.{lt-ltb, le-ltb, le-leb, leb-true}
use Rattle.base.specs.Choose.{choose}
use Rattle.base.specs.Loop.{appended, stored}
use Rattle.base.proofs.Every.{both, every-at, every-from}
use Rattle.base.proofs.Appended.{appended-last, appended-same, appended-length, appended-at, appended-cut}
use Rattle.base.proofs.Fill.{stored-then}
use Rattle.blocks.specs.declared.Part.{Part}
use Rattle.blocks.specs.Blocks.{block_of, file_word, new_mark, is_second, block_fits, per_block, blocks_of, end_of, used_in, part_fits, part_word, body_part}
use Rattle.blocks.proofs.Parts.{per-block}
use Rattle.block_rules.proofs.Blocks.{block-is, block-small}
use Rattle.part_writer.specs.Bytes.{part_block, part_bytes, part_room, written_part}
use Rattle.base.proofs.Stored.{stored-length}
use Rattle.block_writer.proofs.Blocks.{block_same, block-length}
use Rattle.part_writer.proofs.Blocks.{Fit, made-used, made-marked, made-fits, marked-there, block_made}
use Rattle.part_writer.proofs.Counts.{in_block, at_place, used-most, within, used-word}

-- ---- a block of a file

taken-length : (file : List ℕ) (i : ℕ) → i + 512 ≤ length file → length (take 512 (drop i file)) ≡ 512
taken-length file i h = rw (length-take 512 (drop i file), length-drop i file) (omega arith)

-- a block that is not there does not fit
block-there : (file : List ℕ) (b number kind used : ℕ) → block_fits true (block_of file b) number kind used ≡ true → b < length file / 512
unfolding block_of choose
block-there file b number kind used h = go (dec_lt b (length file / 512)) (marked-there (block_of file b) number kind used h)
  where
    long : (l : List ℕ) → take 4 l ≡ new_mark → length l ≡ 0 → ⊥
    long l e z = let n : min 4 (length l) ≡ 4 = sym (length-take 4 l) ∙ ap length e in omega arith

    go : Dec (b < length file / 512) → take 4 (block_of file b) ≡ new_mark → b < length file / 512
    go (yes l) m = l
    go (no l) m =
        let g : length file / 512 ≤ b = omega arith in
        let e : take 4 [] ≡ new_mark = rw (le-ltb b (length file / 512) g) at m in
        absurd (long [] e refl)

-- ---- a part as the writer makes it

module _ (p : Part) (f : ℕ → ℕ) where
  block_size : (j : ℕ) → length (part_block p f j) ≡ 512
  unfolding part_block
  block_size j = block-length (p.first + j) p.kind (λ k. f (j * per_block p.kind + k)) (used_in p j)

  pub part_length : length (part_bytes p f) ≡ blocks_of p * 512
  unfolding part_bytes
  part_length = appended-length 512 (part_block p f) (blocks_of p) (λ j h. block_size j)

-- words that are none of the part's do not matter
pub part_same : (p : Part) (f g : ℕ → ℕ) → ((i : ℕ) → i < p.words → f i ≡ g i) → part_bytes p f ≡ part_bytes p g
unfolding part_bytes part_block
part_same p f g e = appended-same (part_block p f) (part_block p g) (blocks_of p) (λ j h. block_same _ _ _ _ _ (λ k l. e _ (used-word p j k h l)))

-- ---- a file that holds these blocks at the part's place
pub record Holds (file : List ℕ) (p : Part) (f : ℕ → ℕ) : Type 0 where
  pub whole : end_of p * 512 ≤ length file
  pub blocks : (j : ℕ) → j < blocks_of p → block_of file (p.first + j) ≡ part_block p f j

-- a file that begins with a body as the writer makes it has the new mark
pub holds-new : (file : List ℕ) (f : ℕ → ℕ) → Holds file body_part f → is_second file ≡ true
unfolding is_second part_block blocks_of per_block choose
holds-new file f holds = rw (holds.blocks 0 (omega arith)) (made-marked _ _ _ _)

-- written, then read
module _ (file : List ℕ) (new : is_second file ≡ true) (p : Part) (f : ℕ → ℕ) (holds : Holds file p f) (number_fits : end_of p ≤ 128) (kind_fits : p.kind < 4294967296)
    (words-fit : (i : ℕ) → i < p.words → f i < 4294967296) where
  fit : (j : ℕ) → j < blocks_of p → Fit (p.first + j) p.kind (λ k. f (j * per_block p.kind + k)) (used_in p j)
  fit j h =
      let m = (per-block p.kind).most in
      let u = used-most p j in
      record { number_fits = omega arith; kind_fits = kind_fits; words-fit = λ k l. words-fit _ (used-word p j k h l); most = omega arith }

  pub holds_fits : part_fits file p ≡ true
  unfolding part_fits part_block
  holds_fits = every-from (blocks_of p) _ (λ j h. rw (new, holds.blocks j h) (made-fits _ _ _ _ (fit j h)))

  pub holds-word : (i : ℕ) → i < p.words → part_word file p i ≡ f i
  unfolding part_word part_block choose
  holds-word i h =
      let w = within p i h in
      rw (lt-ltb i p.words h, holds.blocks (i / per_block p.kind) w.block-there)
      (made-used _ _ _ _ (fit _ w.block-there) (i % per_block p.kind) w.place-used ∙ ap f (div-add-mod' i (per_block p.kind)))

-- read, then written
module _ (file : List ℕ) (new : is_second file ≡ true) (p : Part) (small : (i : ℕ) → get_or file i 0 < 256) (fits : part_fits file p ≡ true) where
  block-fits : (j : ℕ) → j < blocks_of p → block_fits true (block_of file (p.first + j)) (p.first + j) p.kind (used_in p j) ≡ true
  unfolding part_fits
  block-fits j h = rw new at (every-at (blocks_of p) _ fits j h)

  there : (j : ℕ) → j < blocks_of p → p.first + j < length file / 512
  there j h = block-there file (p.first + j) (p.first + j) p.kind (used_in p j) (block-fits j h)

  word_same : (j k : ℕ) → j < blocks_of p → k < used_in p j → part_word file p (j * per_block p.kind + k) ≡ file_word (block_of file (p.first + j)) (3 + k)
  unfolding part_word choose
  word_same j k h l =
      let u = used-most p j in
      let m : k < per_block p.kind = omega arith in
      rw (lt-ltb _ _ (used-word p j k h l), in_block p j k m, at_place p j k m)

  part-block : (j : ℕ) → j < blocks_of p → block_of file (p.first + j) ≡ part_block p (part_word file p) j
  unfolding part_block
  part-block j h =
      let t = there j h in
      let e = block-is file (p.first + j) t in
      block_made (block_of file (p.first + j)) (p.first + j) p.kind (λ k. part_word file p (j * per_block p.kind + k)) (used_in p j)
      (block-small file small (p.first + j))
      (ap length e ∙ taken-length file ((p.first + j) * 512) (omega arith))
      (block-fits j h) (λ k l. word_same j k h l)

  pub fits-holds : end_of p * 512 ≤ length file → Holds file p (part_word file p)
  fits-holds w = record { whole = w; blocks = part-block }

-- ---- the bytes at the part's place

module _ (file : List ℕ) (p : Part) (f : ℕ → ℕ) where
  -- block j of what stands there
  cut : (j : ℕ) → j < blocks_of p → end_of p * 512 ≤ length file → block_of file (p.first + j) ≡ take 512 (drop (j * 512) (drop (p.first * 512) file))
  cut j h w =
      let a : p.first * 512 + j * 512 ≡ (p.first + j) * 512 = omega arith in
      let d : drop (j * 512) (drop (p.first * 512) file) ≡ drop ((p.first + j) * 512) file = rw a at (drop-drop (j * 512) (p.first * 512) file) in
      rw d (block-is file (p.first + j) (omega arith))

  pub holds-bytes : Holds file p f → take (blocks_of p * 512) (drop (p.first * 512) file) ≡ part_bytes p f
  unfolding part_bytes
  holds-bytes holds =
      appended-cut 512 (drop (p.first * 512) file) (blocks_of p)
      ∙ appended-same (λ (j : ℕ). take 512 (drop (j * 512) (drop (p.first * 512) file))) (part_block p f) (blocks_of p)
      (λ j h. sym (cut j h holds.whole) ∙ holds.blocks j h)

  pub bytes-hold : end_of p * 512 ≤ length file → take (blocks_of p * 512) (drop (p.first * 512) file) ≡ part_bytes p f → Holds file p f
  unfolding part_bytes
  bytes-hold w e =
      record {
        whole = w;
        blocks = λ j h. cut j h w ∙ piece j h;
      }
    where
      pieces : ℕ → List ℕ
      pieces j = take 512 (drop (j * 512) (drop (p.first * 512) file))

      size : (j : ℕ) → j < blocks_of p → length (pieces j) ≡ 512
      size j h =
          taken-length (drop (p.first * 512) file) (j * 512) (rw (length-drop (p.first * 512) file) (omega arith))

      piece : (j : ℕ) → j < blocks_of p → pieces j ≡ part_block p f j
      piece j h =
          sym (appended-at 512 pieces (blocks_of p) j size h)
          ∙ ap (λ (l : List ℕ). take 512 (drop (j * 512) l)) (sym (appended-cut 512 (drop (p.first * 512) file) (blocks_of p)) ∙ e)
          ∙ appended-at 512 (part_block p f) (blocks_of p) j (λ j h. block_size p f j) h

-- ---- room for a part

pub record Room (size : ℕ) (p : Part) : Type 0 where
  pub few : end_of p ≤ 128
  pub long : end_of p * 512 ≤ size

pub roomy : (size : ℕ) (p : Part) → part_room size p ≡ true → Room size p
unfolding part_room
roomy size p h =
    let t = both (leb (end_of p) 128) (leb (end_of p * 512) size) h in
    record { few = leb-true _ _ t.one; long = leb-true _ _ t.two }

-- ---- the program's loop: a block more
module _ (p : Part) (f : ℕ → ℕ) (l₀ l : List ℕ) (j : ℕ) (size : length l ≡ length l₀) (inv : l ≡ stored l₀ (p.first * 512) (appended (part_block p f) j 0)) where
  module _ (l' block : List ℕ) (put : l' ≡ stored l ((p.first + j) * 512) block) (e : block ≡ part_block p f j) where
    pub turn-stored : l' ≡ stored l₀ (p.first * 512) (appended (part_block p f) (j + 1) 0)
    turn-stored =
        let n : j + 1 ≡ suc j = omega arith in
        let b = appended-length 512 (part_block p f) j (λ j h. block_size p f j) in
        let q : (p.first + j) * 512 ≡ p.first * 512 + length (appended (part_block p f) j 0) = omega arith in
        rw (put, e, inv, q, n, appended-last (part_block p f) j) (stored-then l₀ (p.first * 512) (appended (part_block p f) j 0) (part_block p f j))

  -- the last
  pub all-written : part_room (length l₀) p ≡ true → j ≡ blocks_of p → l ≡ written_part l₀ p f
  unfolding written_part part_bytes choose
  all-written room e = rw (room, ← e) inv

pub none_written : (p : Part) (f : ℕ → ℕ) (l : List ℕ) → part_room (length l) p ≡ false → l ≡ written_part l p f
unfolding written_part choose
none_written p f l room = rw room

-- ---- parts one behind another

-- a part is held where it was written last, and stays so whatever is written behind it
pub holds-last : (before : List ℕ) (p : Part) (f : ℕ → ℕ) → length before ≡ p.first * 512 → Holds (before ++ part_bytes p f) p f
holds-last before p f e =
    let n = part_length p f in
    let l = length-append before (part_bytes p f) in
    bytes-hold (before ++ part_bytes p f) p f (omega arith)
    (rw (drop_at before (part_bytes p f) (p.first * 512) e) (take_all (blocks_of p * 512) (part_bytes p f) (omega arith)))

pub holds_more : (file more : List ℕ) (p : Part) (f : ℕ → ℕ) → Holds file p f → Holds (file ++ more) p f
holds_more file more p f holds =
    let w = holds.whole in
    let l = length-append file more in
    let d = length-drop (p.first * 512) file in
    bytes-hold (file ++ more) p f (omega arith)
    (rw (drop-append-le (p.first * 512) file more (omega arith), take-append-le (blocks_of p * 512) (drop (p.first * 512) file) more (omega arith)) (holds-bytes file p f holds))

-- a file up to the part's end is what stands before it, and the part
pub holds-next : (file : List ℕ) (p : Part) (f : ℕ → ℕ) → Holds file p f → take (end_of p * 512) file ≡ take (p.first * 512) file ++ part_bytes p f
holds-next file p f holds =
    let e : end_of p * 512 ≡ p.first * 512 + blocks_of p * 512 = omega arith in
    rw (e, take-add (p.first * 512) (blocks_of p * 512) file, holds-bytes file p f holds)

-- a part written behind what was written before it
pub next-written : (l₀ l l' before : List ℕ) (p : Part) (f : ℕ → ℕ) → part_room (length l₀) p ≡ true → length before ≡ p.first * 512
    → l ≡ stored l₀ 0 before → l' ≡ written_part l p f → l' ≡ stored l₀ 0 (before ++ part_bytes p f)
unfolding written_part choose
next-written l₀ l l' before p f room n e e' =
    let s : length l ≡ length l₀ = ap length e ∙ stored-length l₀ 0 before in
    let put : l' ≡ stored l (p.first * 512) (part_bytes p f) = rw (s, room) at e' in
    let a : 0 + length before ≡ p.first * 512 = omega arith in
    put ∙ ap (λ (k : List ℕ). stored k (p.first * 512) (part_bytes p f)) e ∙ (rw a at (stored-then l₀ 0 before (part_bytes p f)))

pub room-there : (size : ℕ) (p : Part) → end_of p ≤ 128 → end_of p * 512 ≤ size → part_room size p ≡ true
unfolding part_room
room-there size p few long = rw (le-leb _ _ few, le-leb _ _ long)
