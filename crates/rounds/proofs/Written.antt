-- Written, then read: a scene that was written is a scene, and holds what was handed over. Assumes nothing.
use mathlib.Core.Bool.{Bool, true, false, not, ◌&&◌, ◌||◌}
use mathlib.Core.List.{List, [], ◌∷◌, ◌++◌}
use mathlib.Core.Path.{◌≡◌, refl, sym, ap, ◌∙◌}
use Prim.Native.Nat.{ℕ, zero, suc, ◌+◌, ◌-◌, ◌*◌, ◌/◌, ◌%◌, ◌<◌, ◌≤◌}
use native.Mathlib.Decide.{dec_lt}
use native.Mathlib.Omega.{arith}
use lib.Dec.{T, eqb, leb, ltb}
use lib.ListN.{length, get_or, drop}
use lib.Seq.{ext_get_or, take_at, drop_at}
use lib.Ieee.{Float, binary32, binary64, fits, of_bits, to_bits}
use lib.Ieee.Bits.{of_bits-to_bits, to_bits-lt, of_bits-fits}
use borrow.Author.Tests.{lt-ltb, le-ltb, le-leb, eq-eqb, leb-true}
use Rattle.base.specs.Choose.{choose}
use Rattle.base.specs.Loop.{listed, stored}
use Rattle.base.proofs.Every.{both}
use Rattle.floats.specs.Numbers.{zero64}
use Rattle.cover.specs.Cover.{box_count}
use Rattle.table_check.specs.Check.{state_count}
use Rattle.window.specs.declared.Window.{Window}
use Rattle.window.specs.Window.{sizes_fit}
use Rattle.window.specs.Numbers.{with_air}
use Rattle.lent_words.specs.Words.{low_of, high_of, window_words}
use Rattle.lent_words.proofs.Rounds.{unsigned-fits, wide-halves, window-back}
use Rattle.blocks.specs.Blocks.{is_second, part_word, body_part, record_part, box_part, window_part, cell_part}
use Rattle.files.specs.declared.Counts.{Counts}
use Rattle.files.specs.Places.{number_place, age_place, word_place, states_place, boxes_place, flap_number, present_word, air_word, cap_word}
use Rattle.files.specs.Files.{body_word, flap_fits, window_in, sizes_in, counts_in, counts_fit, counts_of, parts_fit, blocks_fit, is_scene}
use Rattle.files.specs.Contents.{Contents, body_float, late_word, body_age, words_of, singles_of, contents_in}
use Rattle.part_writer.specs.Bytes.{word_in, bits_in}
use Rattle.base.proofs.Listed.{listed-length, listed-from}
use Rattle.base.proofs.Stored.{stored-front}
use Rattle.part_writer.proofs.Parts.{Holds, holds-last, holds_more, holds-new, holds_fits, holds-word}
use Rattle.writer.specs.Contents.{counts_for, is_absent, written_number, as_written}
use Rattle.writer.specs.Written.{word_of_wide, body_word_of, bytes_by, scene_bytes, scene_blocks, room_refusal, refusal_of_contents, scene_refusal, written_unless, answer_by, written_scene, scene_answer}
use Rattle.scene_room.proofs.Rooms.{room_fits}
use Rattle.writer.proofs.Puts.{first, second, third, fourth, one-length, two-length, three-length, four-length, bytes-length}
use Rattle.rounds.specs.Rounds.{Typed, file_of, WrittenThenRead}
use Rattle.writer.proofs.Refusals.{neither}
use Rattle.rounds.proofs.Passed.{Passed, passed}

-- ---- words of 32 bits

chosen : (b : Bool) (x y k : ℕ) → x < k → y < k → choose b x y < k
unfolding choose
chosen true x y k h g = h
chosen false x y k h g = g

half-fits : (n j : ℕ) → n < 18446744073709551616 → word_of_wide n j < 4294967296
unfolding word_of_wide
half-fits n j h = chosen (eqb j 0) (low_of n) (high_of n) 4294967296 (omega arith) (omega arith)

-- a list is what stands at its places
pub listed-list : {A : Type 0} (f : ℕ → A) (l : List A) (n : ℕ) (d : A) → length l ≡ n → ((i : ℕ) → i < n → f i ≡ get_or l i d) → listed f n 0 ≡ l
listed-list f l n d e h =
    ext_get_or d (listed f n 0) l (listed-length f n 0 ∙ sym e)
    (λ i g. let m : i < n = rw (listed-length f n 0) at g in listed-from f n i d m ∙ h i m)

-- a flap that is not present is written as zeros
no-flap : (numbers : List Float) (words : List ℕ) → eqb (word_in words present_word) 0 ≡ true → written_number numbers words flap_number ≡ zero64
unfolding written_number is_absent choose
no-flap numbers words e = rw e

zero-halves : (eqb (low_of (to_bits binary64 zero64)) 0 && eqb (high_of (to_bits binary64 zero64)) 0) ≡ true
unfolding to_bits of_bits
zero-halves = refl

module _ (c : Contents) (t : Typed c) (p : Passed c) (few : scene_blocks c ≤ 128) where
  abbrev n : Counts
  n = counts_for c

  abbrev file : List ℕ
  file = scene_bytes c

  abbrev body : ℕ → ℕ
  body = body_word_of c.numbers c.words c.age n

  -- ---- each word fits
  number_fits : (k : ℕ) → T (fits binary64 (written_number c.numbers c.words k))
  unfolding written_number choose
  number_fits k = go (is_absent c.words k)
    where
      go : (b : Bool) → T (fits binary64 (choose b zero64 (get_or c.numbers k zero64)))
      go true = of_bits-fits binary64 0
      go false = t.numbers k

  body-fits : (i : ℕ) → body i < 4294967296
  unfolding body_word_of
  body-fits i =
      let a = p.states-most in
      let b = p.boxes-most in
      chosen (ltb i age_place) _ _ 4294967296 (half-fits _ (i % 2) (to_bits-lt binary64 _ (number_fits (i / 2))))
      (chosen (ltb i (word_place 0)) _ _ 4294967296 (half-fits c.age (i - age_place) t.age)
      (chosen (ltb i states_place) _ _ 4294967296 (t.words (i - word_place 0))
      (chosen (eqb i states_place) (state_count c.records) _ 4294967296 (omega arith)
      (chosen (eqb i boxes_place) (box_count c.shapes) _ 4294967296 (omega arith) (t.words cap_word)))))

  bits_fit : (i : ℕ) → bits_in c.shapes i < 4294967296
  unfolding bits_in
  bits_fit i = to_bits-lt binary32 _ (t.shapes i)

  size_fits : (s : ℕ) → (leb 1 s && leb s 64) ≡ true → s < 4294967296
  size_fits s h = let m = leb-true s 64 (both (leb 1 s) (leb s 64) h).two in omega arith

  place-fits : (i : ℕ) → word_in (window_words c.window) i < 4294967296
  unfolding sizes_fit
  place-fits i =
      let w = c.window in
      let s = w.sizes in
      let z₁ = both ((leb 1 s.x && leb s.x 64) && (leb 1 s.y && leb s.y 64)) (leb 1 s.z && leb s.z 64) p.sizes in
      let z₂ = both (leb 1 s.x && leb s.x 64) (leb 1 s.y && leb s.y 64) z₁.one in
      go i (unsigned-fits w.origin.x t.window.x) (unsigned-fits w.origin.y t.window.y) (unsigned-fits w.origin.z t.window.z)
      (size_fits s.x z₂.one) (size_fits s.y z₂.two) (size_fits s.z z₁.two)
      (unsigned-fits w.lowest t.window.low) (unsigned-fits w.highest t.window.high)
    where
      go : (i : ℕ) {a b d x y z l h : ℕ} → a < 4294967296 → b < 4294967296 → d < 4294967296 → x < 4294967296 → y < 4294967296 → z < 4294967296
          → l < 4294967296 → h < 4294967296 → get_or (a ∷ b ∷ d ∷ x ∷ y ∷ z ∷ l ∷ h ∷ []) i 0 < 4294967296
      go zero a b d x y z l h = a
      go (suc zero) a b d x y z l h = b
      go (suc (suc zero)) a b d x y z l h = d
      go (suc (suc (suc zero))) a b d x y z l h = x
      go (suc (suc (suc (suc zero)))) a b d x y z l h = y
      go (suc (suc (suc (suc (suc zero))))) a b d x y z l h = z
      go (suc (suc (suc (suc (suc (suc zero)))))) a b d x y z l h = l
      go (suc (suc (suc (suc (suc (suc (suc zero))))))) a b d x y z l h = h
      go (suc (suc (suc (suc (suc (suc (suc (suc i)))))))) a b d x y z l h = omega arith

  -- ---- the file holds each part
  body-held : Holds file body_part body
  unfolding bytes_by
  body-held = holds_more _ _ _ _ (holds_more _ _ _ _ (holds_more _ _ _ _ (holds_more _ _ _ _ (holds-last [] body_part body refl))))

  records-held : Holds file (record_part n.states) (word_in c.records)
  unfolding bytes_by
  records-held = holds_more _ _ _ _ (holds_more _ _ _ _ (holds_more _ _ _ _ (holds-last (first c n) (record_part n.states) (word_in c.records) (one-length c n))))

  shapes-held : Holds file (box_part n.states n.boxes) (bits_in c.shapes)
  unfolding bytes_by
  shapes-held = holds_more _ _ _ _ (holds_more _ _ _ _ (holds-last (first c n ++ second c n) (box_part n.states n.boxes) (bits_in c.shapes) (two-length c n)))

  place-held : Holds file (window_part n.states n.boxes) (word_in (window_words c.window))
  unfolding bytes_by
  place-held = holds_more _ _ _ _ (holds-last (first c n ++ second c n ++ third c n) (window_part n.states n.boxes) (word_in (window_words c.window)) (three-length c n))

  cells-held : Holds file (cell_part n.states n.boxes n.cells) (word_in c.cells)
  unfolding bytes_by
  cells-held = holds-last (first c n ++ second c n ++ third c n ++ fourth c n) (cell_part n.states n.boxes n.cells) (word_in c.cells) (four-length c n)

  -- ---- its first mark is the new one
  pub new-mark : is_second file ≡ true
  new-mark = holds-new file body body-held

  -- ---- the body's words
  body-word : (i : ℕ) → i < 49 → body_word file i ≡ body i
  body-word i h = holds-word file new-mark body_part body body-held (omega arith) (omega arith) (λ i g. body-fits i) i h

  states-read : body_word file states_place ≡ n.states
  unfolding body_word_of choose
  states-read = body-word states_place (omega arith)

  boxes-read : body_word file boxes_place ≡ n.boxes
  unfolding body_word_of choose
  boxes-read = body-word boxes_place (omega arith)

  -- the six before the counts
  early-read : (k : ℕ) → k < 6 → body_word file (40 + k) ≡ word_in c.words k
  unfolding body_word_of choose
  early-read k h =
      let e : 40 + k - 40 ≡ k = omega arith in
      body-word (40 + k) (omega arith)
      ∙ rw (le-ltb (40 + k) 38 (omega arith), le-ltb (40 + k) 40 (omega arith), lt-ltb (40 + k) 46 (omega arith), e)

  cap-read : body_word file (word_place cap_word) ≡ word_in c.words cap_word
  unfolding body_word_of choose
  cap-read = body-word (word_place cap_word) (omega arith)

  word_read : (k : ℕ) → k < 7 → body_word file (word_place k) ≡ word_in c.words k
  word_read k h = go (dec_lt k 6)
    where
      go : Dec (k < 6) → body_word file (word_place k) ≡ word_in c.words k
      go (yes l) = let e : 40 + k + k / 6 * 2 ≡ 40 + k = omega arith in rw e (early-read k l)
      go (no l) = let e : k ≡ cap_word = omega arith in rw e cap-read

  low_read : (k : ℕ) → k < 19 → body_word file (number_place k) ≡ low_of (to_bits binary64 (written_number c.numbers c.words k))
  unfolding body_word_of word_of_wide choose
  low_read k h =
      let q : k * 2 / 2 ≡ k = omega arith in
      let r : k * 2 % 2 ≡ 0 = omega arith in
      body-word (k * 2) (omega arith) ∙ rw (lt-ltb (k * 2) 38 (omega arith), q, r)

  high_read : (k : ℕ) → k < 19 → body_word file (number_place k + 1) ≡ high_of (to_bits binary64 (written_number c.numbers c.words k))
  unfolding body_word_of word_of_wide choose
  high_read k h =
      let q : (k * 2 + 1) / 2 ≡ k = omega arith in
      let r : (k * 2 + 1) % 2 ≡ 1 = omega arith in
      body-word (k * 2 + 1) (omega arith) ∙ rw (lt-ltb (k * 2 + 1) 38 (omega arith), q, r)

  number_read : (k : ℕ) → k < 19 → body_float file k ≡ written_number c.numbers c.words k
  unfolding body_float
  number_read k h =
      rw (low_read k h, high_read k h, wide-halves (to_bits binary64 (written_number c.numbers c.words k))) (of_bits-to_bits binary64 _ (number_fits k))

  age-read : body_age file ≡ c.age
  unfolding body_age body_word_of word_of_wide choose
  age-read =
      let l : body_word file 38 ≡ low_of c.age = body-word 38 (omega arith) in
      let h : body_word file 39 ≡ high_of c.age = body-word 39 (omega arith) in
      rw (l, h) (wide-halves c.age)

  -- ---- the window
  place-word : (k : ℕ) → k < 8 → part_word file (window_part n.states n.boxes) k ≡ word_in (window_words c.window) k
  place-word k h = holds-word file new-mark (window_part n.states n.boxes) (word_in (window_words c.window)) place-held (omega arith) (omega arith) (λ i g. place-fits i) k h

  window-read : window_in file (window_part n.states n.boxes) ≡ with_air c.window (word_in c.words air_word)
  unfolding window_in
  window-read =
      rw (place-word 0 (omega arith), place-word 1 (omega arith), place-word 2 (omega arith), place-word 3 (omega arith), place-word 4 (omega arith), place-word 5 (omega arith), place-word 6 (omega arith), place-word 7 (omega arith), word_read 5 (omega arith))
      (window-back c.window (word_in c.words air_word) t.window)

  -- ---- it is a scene
  sizes-at : (s b : ℕ) → s ≡ n.states → b ≡ n.boxes → (window_in file (window_part s b)).sizes ≡ c.window.sizes
  sizes-at s b es eb =
      ap (λ (k : ℕ). (window_in file (window_part k b)).sizes) es
      ∙ ap (λ (k : ℕ). (window_in file (window_part n.states k)).sizes) eb
      ∙ ap (λ (w : Window). w.sizes) window-read

  sizes-read : sizes_in file ≡ c.window.sizes
  unfolding sizes_in
  sizes-read = sizes-at (body_word file states_place) (body_word file boxes_place) states-read boxes-read

  counts-read : counts_of file ≡ n
  unfolding counts_in
  counts-read = let e = p.cells_whole in rw (sizes-read, states-read, boxes-read, ← e)

  counts-fit : counts_fit file ≡ true
  unfolding counts_fit
  counts-fit =
      rw (sizes-read, states-read, boxes-read, le-leb _ _ p.states-least, le-leb _ _ p.states-most, le-leb _ _ p.boxes-most, p.sizes)

  flap-fits : flap_fits file ≡ true
  unfolding flap_fits
  flap-fits = rw (word_read 4 (omega arith)) (go (eqb (word_in c.words 4) 0) refl)
    where
      go : (b : Bool) → eqb (word_in c.words 4) 0 ≡ b → (not b || (eqb (body_word file (number_place flap_number)) 0 && eqb (body_word file (number_place flap_number + 1)) 0)) ≡ true
      go false e = refl
      go true e = rw (low_read 12 (omega arith), high_read 12 (omega arith), no-flap c.numbers c.words e) zero-halves

  parts-fit : parts_fit file n ≡ true
  unfolding parts_fit
  parts-fit =
      rw (
        holds_fits file new-mark body_part body body-held (omega arith) (omega arith) (λ i h. body-fits i),
        holds_fits file new-mark (record_part n.states) (word_in c.records) records-held (omega arith) (omega arith) (λ i h. t.records i),
        holds_fits file new-mark (box_part n.states n.boxes) (bits_in c.shapes) shapes-held (omega arith) (omega arith) (λ i h. bits_fit i),
        holds_fits file new-mark (window_part n.states n.boxes) (word_in (window_words c.window)) place-held (omega arith) (omega arith) (λ i h. place-fits i),
        holds_fits file new-mark (cell_part n.states n.boxes n.cells) (word_in c.cells) cells-held few (omega arith) (λ i h. t.cells i),
      )

  pub is-scene : is_scene file ≡ true
  unfolding is_scene blocks_fit
  is-scene = rw (counts-fit, flap-fits, counts-read, le-leb _ _ few, eq-eqb _ _ (bytes-length c n), parts-fit)

  -- ---- it holds what was handed over
  single-back : (i : ℕ) → of_bits binary32 (bits_in c.shapes i) ≡ get_or c.shapes i zero64
  unfolding bits_in
  single-back i = of_bits-to_bits binary32 _ (t.shapes i)

  pub contents-read : contents_in file ≡ as_written c
  unfolding words_of singles_of
  contents-read =
      let r = listed-list (part_word file (record_part n.states)) c.records (n.states * 20) 0 p.records-whole
      (λ i h. holds-word file new-mark (record_part n.states) (word_in c.records) records-held (omega arith) (omega arith) (λ i h. t.records i) i h) in
      let s = listed-list (λ (i : ℕ). of_bits binary32 (part_word file (box_part n.states n.boxes) i)) c.shapes (n.boxes * 6) zero64 p.shapes-whole (λ i h. single i h) in
      let l = listed-list (part_word file (cell_part n.states n.boxes n.cells)) c.cells n.cells 0 refl
      (λ i h. holds-word file new-mark (cell_part n.states n.boxes n.cells) (word_in c.cells) cells-held few (omega arith) (λ i h. t.cells i) i h) in
      let m = listed-list (body_float file) (listed (written_number c.numbers c.words) 19 0) 19 zero64 (listed-length (written_number c.numbers c.words) 19 0)
      (λ k h. number_read k h ∙ sym (listed-from (written_number c.numbers c.words) 19 k zero64 h)) in
      let w = listed-list (late_word file) c.words 7 0 p.words-whole (λ k h. word_read k h) in
      rw (counts-read, r, s, l, window-read, m, w, age-read)
    where
      single : (i : ℕ) → i < n.boxes * 6 → of_bits binary32 (part_word file (box_part n.states n.boxes) i) ≡ get_or c.shapes i zero64
      single i h =
          rw (holds-word file new-mark (box_part n.states n.boxes) (bits_in c.shapes) shapes-held (omega arith) (omega arith) (λ i h. bits_fit i) i h) (single-back i)

-- ---- the theorem

module _ (out : List ℕ) (c : Contents) (z : scene_refusal c (length out) ≡ 0) where
  bytes-is : (scene_answer (length out) c).bytes ≡ scene_blocks c * 512
  unfolding answer_by choose
  bytes-is = rw z

  written_is : written_scene out c ≡ stored out 0 (scene_bytes c)
  unfolding written_unless choose
  written_is = rw z

  module _ (long : scene_blocks c * 512 ≤ length out) where
    stored_is : written_scene out c ≡ scene_bytes c ++ drop (scene_blocks c * 512) out
    stored_is =
        let e = bytes-length c (counts_for c) in
        written_is ∙ (rw e at (stored-front out (scene_bytes c) (omega arith)))

    file-is : file_of out c ≡ scene_bytes c
    file-is = rw (bytes-is, stored_is) (take_at (scene_bytes c) (drop (scene_blocks c * 512) out) (scene_blocks c * 512) (bytes-length c (counts_for c)))

    past_is : drop (scene_answer (length out) c).bytes (written_scene out c) ≡ drop (scene_answer (length out) c).bytes out
    past_is = rw (bytes-is, stored_is) (drop_at (scene_bytes c) (drop (scene_blocks c * 512) out) (scene_blocks c * 512) (bytes-length c (counts_for c)))

pub written-then-read : WrittenThenRead
unfolding scene_refusal
written-then-read out c t z =
    let r = neither (refusal_of_contents c) (room_refusal c (length out)) z in
    let p = passed c r.first in
    let f = room_fits (scene_blocks c) (length out) (room_refusal c (length out)) refl r.second in
    let e = file-is out c z f.long in
    record {
      scene = rw e (is-scene c t p f.few);
      new = rw e (new-mark c t p f.few);
      same = rw e (contents-read c t p f.few);
      past = past_is out c z f.long;
    }
