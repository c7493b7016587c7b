-- Read, then written: a file that passes 8 and 1 to 4 is, byte for byte, what the writer makes of its contents. Assumes nothing.
use mathlib.Core.Bool.{Bool, true, false, ◌&&◌}
use mathlib.Core.List.{List}
use mathlib.Core.Path.{◌≡◌, refl, sym, ap, ◌∙◌}
use Prim.Native.Nat.{ℕ, zero, suc, ◌+◌, ◌-◌, ◌*◌, ◌/◌, ◌%◌, ◌<◌, ◌≤◌}
use native.Mathlib.Decide.{dec_lt}
use native.Mathlib.Omega.{arith}
use lib.Dec.{eqb, ltb}
use lib.ListN.{length, get_or, take}
use lib.Seq.{take_all}
use lib.Ieee.{binary32, binary64, is_nan, of_bits, to_bits}
use lib.Ieee.Bits.{to_bits-of_bits}
use borrow.Author.Tests.{lt-ltb, le-ltb, eqb-true}
use Rattle.base.specs.Choose.{choose}
use Rattle.base.proofs.Every.{both}
use Rattle.floats.specs.Numbers.{zero64}
use Rattle.lent_words.specs.Words.{wide_of, window_words}
use Rattle.lent_words.proofs.Rounds.{low_wide, high-wide, words_back}
use Rattle.blocks.specs.declared.Part.{Part}
use Rattle.blocks.specs.Blocks.{block_of, file_word, is_second, part_word, per_block, body_part, record_part, box_part, window_part, cell_part}
use Rattle.block_checks.proofs.Words.{word_fits}
use Rattle.block_rules.proofs.Blocks.{block-small}
use Rattle.files.specs.declared.Counts.{Counts}
use Rattle.files.proofs.Told.{Told, tells}
use Rattle.files.specs.Places.{number_place, word_place, states_place, boxes_place, flap_number, present_word, air_word, cap_word}
use Rattle.files.specs.Files.{body_word, flap_fits, window_in, counts_in, counts_of, blocks_for, is_scene}
use Rattle.files.specs.Contents.{Contents, body_float, late_word, body_age, words_of, singles_of, contents_in}
use Rattle.part_writer.specs.Bytes.{part_bytes, word_in, bits_in}
use Rattle.base.proofs.Listed.{listed-length, listed-from}
use Rattle.part_writer.proofs.Parts.{fits-holds, holds-next, part_same}
use Rattle.writer.specs.Contents.{counts_for, is_absent, written_number}
use Rattle.writer.specs.Written.{word_of_wide, body_word_of, bytes_by, scene_bytes, scene_blocks, room_for, room_refusal, refusal_of_contents, scene_refusal, written_unless, answer_by}
use Rattle.scene_room.proofs.Rooms.{room-enough}
use Rattle.rounds.specs.Rounds.{ComesOut, ReadThenWritten}
use Rattle.rounds.proofs.Passed.{Passed, passed}
use Rattle.rounds.proofs.Known.{known, number-known, shape-known}

zero_bits : to_bits binary64 zero64 ≡ 0
unfolding to_bits of_bits
zero_bits = refl

module _ (file : List ℕ) (small : (i : ℕ) → get_or file i 0 < 256) where
  pub part-word-fits : (p : Part) (i : ℕ) → part_word file p i < 4294967296
  unfolding part_word choose
  part-word-fits p i = go (ltb i p.words)
    where
      go : (t : Bool) → choose t (file_word (block_of file (p.first + i / per_block p.kind)) (3 + i % per_block p.kind)) 0 < 4294967296
      go true = word_fits _ (block-small file small _) _
      go false = omega arith

  -- ---- what the contents come to, word by word
  module _ (s : is_scene file ≡ true) (z : refusal_of_contents (contents_in file) ≡ 0) where
    abbrev n : Counts
    n = counts_of file

    abbrev c : Contents
    c = contents_in file

    told : Told file n
    told = tells file s

    pass : Passed c
    pass = passed c z

    pub counts_same : counts_for c ≡ n
    unfolding words_of singles_of
    counts_same =
        let a = listed-length (part_word file (record_part n.states)) (n.states * 20) 0 in
        let b = listed-length (λ (i : ℕ). of_bits binary32 (part_word file (box_part n.states n.boxes) i)) (n.boxes * 6) 0 in
        let d = listed-length (part_word file (cell_part n.states n.boxes n.cells)) n.cells 0 in
        let q : n.states * 20 / 20 ≡ n.states = omega arith in
        let r : n.boxes * 6 / 6 ≡ n.boxes = omega arith in
        rw (a, b, d, q, r)

    -- the tables and cells
    record_same : (i : ℕ) → i < n.states * 20 → word_in c.records i ≡ part_word file (record_part n.states) i
    unfolding words_of
    record_same i h = listed-from (part_word file (record_part n.states)) (n.states * 20) i 0 h

    cell_same : (i : ℕ) → i < n.cells → word_in c.cells i ≡ part_word file (cell_part n.states n.boxes n.cells) i
    unfolding words_of
    cell_same i h = listed-from (part_word file (cell_part n.states n.boxes n.cells)) n.cells i 0 h

    shape_same : (i : ℕ) → i < n.boxes * 6 → get_or c.shapes i zero64 ≡ of_bits binary32 (part_word file (box_part n.states n.boxes) i)
    unfolding singles_of
    shape_same i h = listed-from (λ (i : ℕ). of_bits binary32 (part_word file (box_part n.states n.boxes) i)) (n.boxes * 6) i zero64 h

    shapes-size : length c.shapes ≡ n.boxes * 6
    unfolding singles_of
    shapes-size = listed-length (λ (i : ℕ). of_bits binary32 (part_word file (box_part n.states n.boxes) i)) (n.boxes * 6) 0

    box-same : (i : ℕ) → i < n.boxes * 6 → bits_in c.shapes i ≡ part_word file (box_part n.states n.boxes) i
    unfolding bits_in
    box-same i h =
        let e = shapes-size in
        let k = rw (shape_same i h) at (shape-known c pass i (omega arith)) in
        rw (shape_same i h) (to_bits-of_bits binary32 _ (part-word-fits (box_part n.states n.boxes) i) (known _ k))

    -- the window
    place_same : (i : ℕ) → i < 8 → word_in (window_words c.window) i ≡ part_word file (window_part n.states n.boxes) i
    unfolding window_in
    place_same i h =
        let p = window_part n.states n.boxes in
        ap (λ (l : List ℕ). word_in l i) (words_back (part_word file p) (body_word file (word_place air_word)) (part-word-fits p)) ∙ listed-from (part_word file p) 8 i 0 h

    -- the body
    pub word_same : (k : ℕ) → k < 7 → word_in c.words k ≡ body_word file (word_place k)
    word_same k h = listed-from (late_word file) 7 k 0 h

    pub number_same : (k : ℕ) → k < 19 → get_or c.numbers k zero64 ≡ body_float file k
    number_same k h = listed-from (body_float file) 19 k zero64 h

    abbrev wide : ℕ → ℕ
    wide k = wide_of (body_word file (number_place k)) (body_word file (number_place k + 1))

    wide_fits : (l h : ℕ) → l < 4294967296 → h < 4294967296 → wide_of l h < 18446744073709551616
    wide_fits l h a b = omega arith

    bits-same : (k : ℕ) → k < 19 → to_bits binary64 (get_or c.numbers k zero64) ≡ wide k
    unfolding body_float
    bits-same k h =
        let e : is_nan (of_bits binary64 (wide k)) ≡ false = rw (number_same k h) at (number-known c pass k h) in
        rw (number_same k h)
        (to_bits-of_bits binary64 (wide k) (wide_fits _ _ (part-word-fits body_part (number_place k)) (part-word-fits body_part (number_place k + 1))) (known _ e))

    -- half j of a number's bits is its word
    half-same : (k j : ℕ) → j < 2 → word_of_wide (wide k) j ≡ body_word file (k * 2 + j)
    unfolding word_of_wide choose
    half-same k zero h = let e : k * 2 + 0 ≡ k * 2 = omega arith in rw e (low_wide _ _ (part-word-fits body_part (k * 2)))
    half-same k (suc zero) h = high-wide _ _ (part-word-fits body_part (k * 2))
    half-same k (suc (suc j)) h = absurd (much j h)
      where
        much : (j : ℕ) → suc (suc j) < 2 → ⊥
        much j h = omega arith

    -- a flap that is not present has words that are zero
    flap-words : eqb (body_word file (word_place present_word)) 0 ≡ true → (body_word file (number_place flap_number) ≡ 0) × (body_word file (number_place flap_number + 1) ≡ 0)
    unfolding flap_fits
    flap-words e =
        let f : (eqb (body_word file (number_place flap_number)) 0 && eqb (body_word file (number_place flap_number + 1)) 0) ≡ true = rw e at told.flap in
        let t = both (eqb (body_word file (number_place flap_number)) 0) (eqb (body_word file (number_place flap_number + 1)) 0) f in
        (eqb-true _ _ t.one, eqb-true _ _ t.two)

    pub flap-wide : eqb (body_word file (word_place present_word)) 0 ≡ true → wide flap_number ≡ 0
    flap-wide e = let w = flap-words e in rw (w.0, w.1)

    written_same : (k : ℕ) → k < 19 → to_bits binary64 (written_number c.numbers c.words k) ≡ wide k
    unfolding written_number is_absent choose
    written_same k h = go (eqb k flap_number) refl (eqb (word_in c.words present_word) 0) refl
      where
        go : (a : Bool) → eqb k flap_number ≡ a → (b : Bool) → eqb (word_in c.words present_word) 0 ≡ b → to_bits binary64 (choose (a && b) zero64 (get_or c.numbers k zero64)) ≡ wide k
        go false ea b eb = bits-same k h
        go true ea false eb = bits-same k h
        go true ea true eb =
            let q : k ≡ 12 = eqb-true k flap_number ea in
            let f = flap-wide (rw (word_same 4 (omega arith)) at eb) in
            rw q (zero_bits ∙ sym f)

    states-word : body_word_of c.numbers c.words c.age n states_place ≡ body_word file states_place
    unfolding body_word_of counts_in choose
    states-word = refl

    boxes-word : body_word_of c.numbers c.words c.age n boxes_place ≡ body_word file boxes_place
    unfolding body_word_of counts_in choose
    boxes-word = refl

    cap-word : body_word_of c.numbers c.words c.age n (word_place cap_word) ≡ body_word file (word_place cap_word)
    unfolding body_word_of choose
    cap-word = word_same cap_word (omega arith)

    -- word by word: a number's, the age's, one of the six before the counts, a count, the cap
    number_word : (i : ℕ) → i < 38 → body_word_of c.numbers c.words c.age n i ≡ body_word file i
    unfolding body_word_of choose
    number_word i h =
        let e : i / 2 * 2 + i % 2 ≡ i = omega arith in
        let k : i / 2 < 19 = omega arith in
        rw (lt-ltb i 38 h, written_same (i / 2) k) (half-same (i / 2) (i % 2) (omega arith) ∙ ap (body_word file) e)

    age-word : (i : ℕ) → 38 ≤ i → i < 40 → body_word_of c.numbers c.words c.age n i ≡ body_word file i
    unfolding body_word_of body_age choose
    age-word i g h =
        let e : 19 * 2 + (i - 38) ≡ i = omega arith in
        rw (le-ltb i 38 g, lt-ltb i 40 h) (half-same 19 (i - 38) (omega arith) ∙ ap (body_word file) e)

    late-word : (i : ℕ) → 40 ≤ i → i < 46 → body_word_of c.numbers c.words c.age n i ≡ body_word file i
    unfolding body_word_of choose
    late-word i g h =
        let e : 40 + (i - 40) + (i - 40) / 6 * 2 ≡ i = omega arith in
        rw (le-ltb i 38 (omega arith), le-ltb i 40 g, lt-ltb i 46 h) (word_same (i - 40) (omega arith) ∙ ap (body_word file) e)

    last_word : (i : ℕ) → 46 ≤ i → i < 49 → body_word_of c.numbers c.words c.age n i ≡ body_word file i
    last_word i g h = go (dec_lt i 47) (dec_lt i 48)
      where
        go : Dec (i < 47) → Dec (i < 48) → body_word_of c.numbers c.words c.age n i ≡ body_word file i
        go (yes l) m = let e : i ≡ 46 = omega arith in rw e states-word
        go (no l) (yes m) = let e : i ≡ 47 = omega arith in rw e boxes-word
        go (no l) (no m) = let e : i ≡ 48 = omega arith in rw e cap-word

    body_same : (i : ℕ) → i < 49 → body_word_of c.numbers c.words c.age n i ≡ body_word file i
    body_same i h = number (dec_lt i 38) (dec_lt i 40) (dec_lt i 46)
      where
        number : Dec (i < 38) → Dec (i < 40) → Dec (i < 46) → body_word_of c.numbers c.words c.age n i ≡ body_word file i
        number (yes l) y x = number_word i l
        number (no l) (yes m) x = age-word i (omega arith) m
        number (no l) (no m) (yes k) = late-word i (omega arith) k
        number (no l) (no m) (no k) = last_word i (omega arith) h

    -- ---- byte for byte, where the file's mark is the new one
    body_bytes : part_bytes body_part (body_word_of c.numbers c.words c.age n) ≡ part_bytes body_part (part_word file body_part)
    body_bytes = part_same body_part _ _ body_same

    abbrev up : ℕ → List ℕ
    up b = take (b * 512) file

    bytes-made : is_second file ≡ true → bytes_by c n ≡ file
    unfolding bytes_by
    bytes-made new =
        let q = told.few in
        let l = told.size in
        let h₁ = fits-holds file new body_part small told.body-fits (omega arith) in
        let h₂ = fits-holds file new (record_part n.states) small told.records-fit (omega arith) in
        let h₃ = fits-holds file new (box_part n.states n.boxes) small told.boxes-fit (omega arith) in
        let h₄ = fits-holds file new (window_part n.states n.boxes) small told.place-fits (omega arith) in
        let h₅ = fits-holds file new (cell_part n.states n.boxes n.cells) small told.cells_fit (omega arith) in
        let e₁ = holds-next file body_part (part_word file body_part) h₁ in
        let e₂ = holds-next file (record_part n.states) (part_word file (record_part n.states)) h₂ in
        let e₃ = holds-next file (box_part n.states n.boxes) (part_word file (box_part n.states n.boxes)) h₃ in
        let e₄ = holds-next file (window_part n.states n.boxes) (part_word file (window_part n.states n.boxes)) h₄ in
        let e₅ = holds-next file (cell_part n.states n.boxes n.cells) (part_word file (cell_part n.states n.boxes n.cells)) h₅ in
        rw (body_bytes, part_same (record_part n.states) _ _ record_same, part_same (box_part n.states n.boxes) _ _ box-same, part_same (window_part n.states n.boxes) _ _ place_same, part_same (cell_part n.states n.boxes n.cells) _ _ cell_same)
        (sym (rw (e₄, e₃, e₂, e₁) at e₅) ∙ take_all (blocks_for n * 512) file (omega arith))

    bytes_same : is_second file ≡ true → scene_bytes c ≡ file
    bytes_same new = rw counts_same (bytes-made new)

    -- and there is room for it
    has_room : (size : ℕ) → length file ≤ size → room_refusal c size ≡ 0
    has_room size h =
        let l = told.size in
        ap (λ m. room_for (blocks_for m) size) counts_same ∙ room-enough (blocks_for n) size told.few (omega arith)

    pub none-refused : (out : List ℕ) → length file ≤ length out → scene_refusal c (length out) ≡ 0
    unfolding scene_refusal choose
    none-refused out h = rw (z, has_room (length out) h)

    pub size_same : scene_blocks c * 512 ≡ length file
    size_same = ap (λ m. blocks_for m * 512) counts_same ∙ sym told.size

    pub comes-out : is_second file ≡ true → ComesOut file
    unfolding written_unless answer_by choose
    comes-out new =
        record {
          bytes = bytes_same new;
          buffer = λ out h. rw (none-refused out h, bytes_same new);
          answer = λ out h. rw (none-refused out h, size_same);
        }

pub read-then-written : ReadThenWritten
read-then-written file small s new z = comes-out file small s z new
