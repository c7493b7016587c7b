-- One block: what the writer makes fits and reads back, and a block that fits is what the writer makes of its words. Assumes nothing.
use mathlib.Core.Bool.{Bool, true, ◌&&◌, ◌||◌}
use mathlib.Core.List.{List, ◌++◌}
use mathlib.Core.Path.{◌≡◌, refl, sym, ap, ◌∙◌}
use Prim.Native.Nat.{ℕ, ◌+◌, ◌*◌, ◌<◌, ◌≤◌}
use native.Mathlib.Decide.{dec_lt}
use native.Mathlib.Omega.{arith}
use lib.Dec.{eqb, ltb}
use lib.ListN.{length, get_or, take, drop, length-take, length-drop, take-append-drop}
use lib.Seq.{take-add, drop_at, take-append-le, drop-append-le, drop-drop, drop-append-add, take_all, get_or-drop}
use borrow.Author.Tests.{lt-ltb, le-ltb, eq-eqb, eqb-true}
use Rattle.base.specs.Choose.{choose}
use Rattle.base.proofs.Every.{both, every-at, every-from}
use Rattle.suffixes.specs.Bytes.{equal}
use Rattle.suffixes.proofs.Texts.{equal-same, same-equal}
use Rattle.blocks.specs.Blocks.{file_word, new_mark, marked, check_of, second_of, word126, rest_zero, block_fits}
use Rattle.part_writer.specs.Bytes.{word_bytes, bytes_of, head_bytes, payload_word, with_second, with_check, block_bytes}
use Rattle.block_writer.proofs.Words.{word-length, bytes-at, bytes_same, check-before, second-before}
use Rattle.block_writer.proofs.Blocks.{payload-used, payload-spare, head-length, before, before-length, second-length}
use Rattle.part_writer.proofs.Words.{word-there, word-bytes, words_back, check-fits, second_fits}

-- ---- what the writer makes

-- what is asked of the numbers of a block: they fit 32 bits, and no more words are in use than there are
pub record Fit (number kind : ℕ) (f : ℕ → ℕ) (used : ℕ) : Type 0 where
  pub number_fits : number < 4294967296
  pub kind_fits : kind < 4294967296
  pub words-fit : (i : ℕ) → i < used → f i < 4294967296
  pub most : used ≤ 123

-- four bytes that stand before what was put behind them
four-before : (l m : List ℕ) (i : ℕ) → i + 4 ≤ length l → take 4 (drop i (l ++ m)) ≡ take 4 (drop i l)
four-before l m i h =
    let n : 4 ≤ length (drop i l) = rw (length-drop i l) (omega arith) in
    rw (drop-append-le i l m (omega arith), take-append-le 4 (drop i l) m n)

-- and four bytes at the end
four-last : (l : List ℕ) (i w : ℕ) → length l ≡ i → take 4 (drop i (l ++ word_bytes w)) ≡ word_bytes w
four-last l i w e = rw (drop_at l (word_bytes w) i e) (take_all 4 (word_bytes w) (let n = word-length w in omega arith))

module _ (number kind : ℕ) (f : ℕ → ℕ) (used : ℕ) where
  abbrev payload : List ℕ
  payload = bytes_of (payload_word f used) 123

  -- what stands before the two checks
  abbrev words : List ℕ
  words = before number kind f used

  -- ---- the four bytes of each word
  mark-at : take 4 (block_bytes number kind f used) ≡ new_mark
  unfolding block_bytes with_check with_second head_bytes
  mark-at = refl

  kind_at : take 4 (drop 4 (block_bytes number kind f used)) ≡ word_bytes kind
  unfolding block_bytes with_check with_second head_bytes word_bytes
  kind_at = refl

  number_at : take 4 (drop 8 (block_bytes number kind f used)) ≡ word_bytes number
  unfolding block_bytes with_check with_second head_bytes word_bytes
  number_at = refl

  payload-at : (i : ℕ) → i < 123 → take 4 (drop ((3 + i) * 4) (block_bytes number kind f used)) ≡ word_bytes (payload_word f used i)
  unfolding block_bytes with_check with_second
  payload-at i h =
      let a = head-length number kind in
      let b = before-length number kind f used in
      let s = second-length number kind f used in
      let q : (3 + i) * 4 ≡ length (head_bytes number kind) + i * 4 = omega arith in
      let e : drop ((3 + i) * 4) words ≡ drop (i * 4) payload = rw q (drop-append-add (head_bytes number kind) payload (i * 4)) in
      four-before (with_second words) (word_bytes (check_of (with_second words))) ((3 + i) * 4) (omega arith)
      ∙ four-before words (word_bytes (second_of words)) ((3 + i) * 4) (omega arith)
      ∙ rw e (bytes-at (payload_word f used) 123 i h)

  second_at : take 4 (drop 504 (block_bytes number kind f used)) ≡ word_bytes (second_of words)
  unfolding block_bytes with_check with_second
  second_at =
      let s = second-length number kind f used in
      four-before (with_second words) (word_bytes (check_of (with_second words))) 504 (omega arith) ∙ four-last words 504 (second_of words) (before-length number kind f used)

  check-at : take 4 (drop 508 (block_bytes number kind f used)) ≡ word_bytes (check_of (with_second words))
  unfolding block_bytes with_check
  check-at = four-last (with_second words) 508 (check_of (with_second words)) (second-length number kind f used)

  pub made-marked : marked true (block_bytes number kind f used) ≡ true
  unfolding marked choose
  made-marked = rw mark-at (same-equal new_mark)

  -- ---- reading it
  module _ (fit : Fit number kind f used) where
    pub made-used : (i : ℕ) → i < used → file_word (block_bytes number kind f used) (3 + i) ≡ f i
    made-used i h =
        let m = fit.most in
        let e = payload-used f used i h in
        word-there (block_bytes number kind f used) (3 + i) (f i) (fit.words-fit i h) (rw e at (payload-at i (omega arith)))

    made-rest : rest_zero (block_bytes number kind f used) used ≡ true
    unfolding rest_zero
    made-rest = every-from 123 _ (λ i h. go i h (dec_lt i used))
      where
        go : (i : ℕ) → i < 123 → Dec (i < used) → (ltb i used || eqb (file_word (block_bytes number kind f used) (3 + i)) 0) ≡ true
        go i h (yes l) = rw (lt-ltb i used l)
        go i h (no l) =
            let g : used ≤ i = omega arith in
            let e = payload-spare f used i g in
            let z : file_word (block_bytes number kind f used) (3 + i) ≡ 0 = word-there (block_bytes number kind f used) (3 + i) 0 (omega arith) (rw e at (payload-at i h)) in
            rw (le-ltb i used g, z)

    made-second : file_word (block_bytes number kind f used) 126 ≡ word126 true (block_bytes number kind f used)
    unfolding block_bytes with_check with_second word126 choose
    made-second =
        let b = before-length number kind f used in
        let s = second-length number kind f used in
        word-there (block_bytes number kind f used) 126 (second_of words) (second_fits words) second_at
        ∙ sym (second-before (with_second words) (word_bytes (check_of (with_second words))) (omega arith) ∙ second-before words (word_bytes (second_of words)) (omega arith))

    made-check : file_word (block_bytes number kind f used) 127 ≡ check_of (block_bytes number kind f used)
    unfolding block_bytes with_check
    made-check =
        word-there (block_bytes number kind f used) 127 (check_of (with_second words)) (check-fits (with_second words)) check-at
        ∙ sym (check-before (with_second words) (word_bytes (check_of (with_second words))) (second-length number kind f used))

    pub made-fits : block_fits true (block_bytes number kind f used) number kind used ≡ true
    unfolding block_fits
    made-fits =
        let k = word-there (block_bytes number kind f used) 1 kind fit.kind_fits kind_at in
        let n = word-there (block_bytes number kind f used) 2 number fit.number_fits number_at in
        rw (made-marked, made-rest, eq-eqb _ _ k, eq-eqb _ _ n, eq-eqb _ _ made-second, eq-eqb _ _ made-check)

-- ---- a block that fits

-- what the reader's test says, one by one
record Fitting (block : List ℕ) (number kind used : ℕ) : Type 0 where
  mark-there : take 4 block ≡ new_mark
  kind-there : file_word block 1 ≡ kind
  number-there : file_word block 2 ≡ number
  rest-there : rest_zero block used ≡ true
  second-there : file_word block 126 ≡ second_of block
  check-there : file_word block 127 ≡ check_of block

fitting : (block : List ℕ) (number kind used : ℕ) → block_fits true block number kind used ≡ true → Fitting block number kind used
unfolding block_fits marked word126 choose
fitting block number kind used h =
    let m : Bool = equal (take 4 block) new_mark in
    let k : Bool = eqb (file_word block 1) kind in
    let n : Bool = eqb (file_word block 2) number in
    let r : Bool = rest_zero block used in
    let w : Bool = eqb (file_word block 126) (second_of block) in
    let c : Bool = eqb (file_word block 127) (check_of block) in
    let t₀ = both (m && k && n && r && w) c h in
    let t₁ = both (m && k && n && r) w t₀.one in
    let t₂ = both (m && k && n) r t₁.one in
    let t₃ = both (m && k) n t₂.one in
    let t₄ = both m k t₃.one in
    record {
      mark-there = equal-same (take 4 block) new_mark t₄.one;
      kind-there = eqb-true _ _ t₄.two;
      number-there = eqb-true _ _ t₃.two;
      rest-there = t₂.two;
      second-there = eqb-true _ _ t₁.two;
      check-there = eqb-true _ _ t₀.two;
    }

-- a block that fits begins with the mark: it is there
pub marked-there : (block : List ℕ) (number kind used : ℕ) → block_fits true block number kind used ≡ true → take 4 block ≡ new_mark
marked-there block number kind used h = (fitting block number kind used h).mark-there

word-behind : (l : List ℕ) (i : ℕ) → file_word (drop 12 l) i ≡ file_word l (3 + i)
unfolding file_word
word-behind l i =
    let e₀ : 12 + i * 4 ≡ (3 + i) * 4 = omega arith in
    let e₁ : 12 + (i * 4 + 1) ≡ (3 + i) * 4 + 1 = omega arith in
    let e₂ : 12 + (i * 4 + 2) ≡ (3 + i) * 4 + 2 = omega arith in
    let e₃ : 12 + (i * 4 + 3) ≡ (3 + i) * 4 + 3 = omega arith in
    rw (get_or-drop 12 l (i * 4) 0, get_or-drop 12 l (i * 4 + 1) 0, get_or-drop 12 l (i * 4 + 2) 0, get_or-drop 12 l (i * 4 + 3) 0, e₀, e₁, e₂, e₃)

module _ (block : List ℕ) (number kind : ℕ) (f : ℕ → ℕ) (used : ℕ) (small : (i : ℕ) → get_or block i 0 < 256) (size : length block ≡ 512)
    (fits : block_fits true block number kind used ≡ true) (same : (i : ℕ) → i < used → f i ≡ file_word block (3 + i)) where
  told : Fitting block number kind used
  told = fitting block number kind used fits

  payload-word : (i : ℕ) → i < 123 → Dec (i < used) → file_word (drop 12 block) i ≡ payload_word f used i
  unfolding rest_zero
  payload-word i h (yes l) = word-behind block i ∙ sym (same i l) ∙ sym (payload-used f used i l)
  payload-word i h (no l) =
      let g : used ≤ i = omega arith in
      let t = every-at 123 _ told.rest-there i h in
      let z : eqb (file_word block (3 + i)) 0 ≡ true = rw (le-ltb i used g) at t in
      word-behind block i ∙ eqb-true _ _ z ∙ sym (payload-spare f used i g)

  small-behind : (i : ℕ) → get_or (drop 12 block) i 0 < 256
  small-behind i = rw (get_or-drop 12 block i 0) (small (12 + i))

  payload-there : take 492 (drop 12 block) ≡ bytes_of (payload_word f used) 123
  payload-there =
      words_back (drop 12 block) small-behind 123 (rw (length-drop 12 block) (omega arith))
      ∙ bytes_same (file_word (drop 12 block)) (payload_word f used) 123 (λ i h. payload-word i h (dec_lt i used))

  word-is : (k w : ℕ) → k * 4 + 4 ≤ 512 → file_word block k ≡ w → take 4 (drop (k * 4) block) ≡ word_bytes w
  word-is k w h e = sym (word-bytes block small k (omega arith)) ∙ ap word_bytes e

  head-there : take 12 block ≡ head_bytes number kind
  unfolding head_bytes
  head-there =
      let a : take 12 block ≡ take 4 block ++ take 8 (drop 4 block) = take-add 4 8 block in
      let b : take 8 (drop 4 block) ≡ take 4 (drop 4 block) ++ take 4 (drop 4 (drop 4 block)) = take-add 4 4 (drop 4 block) in
      let c : drop 4 (drop 4 block) ≡ drop 8 block = drop-drop 4 4 block in
      let k : take 4 (drop 4 block) ≡ word_bytes kind = word-is 1 kind (omega arith) told.kind-there in
      let n : take 4 (drop 8 block) ≡ word_bytes number = word-is 2 number (omega arith) told.number-there in
      rw (a, b, c, told.mark-there, k, n)

  before-there : take 504 block ≡ before number kind f used
  before-there =
      let a : take 504 block ≡ take 12 block ++ take 492 (drop 12 block) = take-add 12 492 block in
      rw (a, head-there, payload-there)

  second-there : take 4 (drop 504 block) ≡ word_bytes (second_of (take 504 block))
  second-there =
      let l : 504 ≤ length (take 504 block) = rw (length-take 504 block) (omega arith) in
      let c : second_of block ≡ second_of (take 504 block) = ap second_of (sym (take-append-drop 504 block)) ∙ second-before (take 504 block) (drop 504 block) l in
      word-is 126 (second_of (take 504 block)) (omega arith) (told.second-there ∙ c)

  seconded : take 508 block ≡ with_second (before number kind f used)
  unfolding with_second
  seconded =
      let a : take 508 block ≡ take 504 block ++ take 4 (drop 504 block) = take-add 504 4 block in
      a ∙ ap (λ (l : List ℕ). take 504 block ++ l) second-there ∙ ap (λ (l : List ℕ). l ++ word_bytes (second_of l)) before-there

  check-there : drop 508 block ≡ word_bytes (check_of (take 508 block))
  check-there =
      let l : length (take 508 block) ≡ 508 = rw (length-take 508 block) (omega arith) in
      let s : length (drop 508 block) ≤ 4 = rw (length-drop 508 block) (omega arith) in
      let c : check_of block ≡ check_of (take 508 block) = ap check_of (sym (take-append-drop 508 block)) ∙ check-before (take 508 block) (drop 508 block) l in
      sym (take_all 4 (drop 508 block) s) ∙ word-is 127 (check_of (take 508 block)) (omega arith) (told.check-there ∙ c)

  -- it is what the writer makes of its words
  pub block_made : block ≡ block_bytes number kind f used
  unfolding block_bytes with_check
  block_made =
      sym (take-append-drop 508 block)
      ∙ ap (λ (l : List ℕ). take 508 block ++ l) check-there
      ∙ ap (λ (l : List ℕ). l ++ word_bytes (check_of l)) seconded
