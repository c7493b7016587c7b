-- A block as the writer makes it: its length, the words it is made of, and what the program leaves. Assumes nothing.
use mathlib.Core.List.{List, ◌++◌}
use mathlib.Core.Path.{◌≡◌, refl, sym, ap, ◌∙◌}
use Prim.Native.Nat.{ℕ, suc, ◌+◌, ◌*◌, ◌<◌, ◌≤◌}
use native.Mathlib.Decide.{dec_lt}
use native.Mathlib.Omega.{arith}
use lib.ListN.{length, drop, length-append}
use borrow.Author.Tests.{lt-ltb, le-ltb, eq-eqb, ne_eqb}
use Rattle.base.specs.Choose.{choose}
use Rattle.base.specs.Loop.{appended, stored}
use Rattle.base.proofs.Appended.{appended-last}
use Rattle.base.proofs.Fill.{stored-then}
use Rattle.base.proofs.Stored.{stored-front, stored-all}
use Rattle.block_checks.specs.Checks.{file_word, new_mark, check_of, second_of}
use Rattle.block_writer.specs.Bytes.{word_bytes, bytes_of, head_bytes, payload_word, with_second, with_check, block_bytes, filled_block}
use Rattle.block_writer.proofs.Words.{word-length, bytes-length, bytes_same, check-before, second-before}

-- ---- the payload

pub payload-used : (f : ℕ → ℕ) (used i : ℕ) → i < used → payload_word f used i ≡ f i
unfolding payload_word choose
payload-used f used i h = rw (lt-ltb i used h)

pub payload-spare : (f : ℕ → ℕ) (used i : ℕ) → used ≤ i → payload_word f used i ≡ 0
unfolding payload_word choose
payload-spare f used i h = rw (le-ltb i used h)

-- what the words are by which a block is made: those in use
pub block_same : (number kind : ℕ) (f g : ℕ → ℕ) (used : ℕ) → ((i : ℕ) → i < used → f i ≡ g i) → block_bytes number kind f used ≡ block_bytes number kind g used
unfolding block_bytes
block_same number kind f g used e =
    ap (λ (l : List ℕ). with_check (with_second (head_bytes number kind ++ l))) (bytes_same (payload_word f used) (payload_word g used) 123 (λ i h. go i (dec_lt i used)))
  where
    go : (i : ℕ) → Dec (i < used) → payload_word f used i ≡ payload_word g used i
    go i (yes h) = payload-used f used i h ∙ e i h ∙ sym (payload-used g used i h)
    go i (no h) = let l : used ≤ i = omega arith in payload-spare f used i l ∙ sym (payload-spare g used i l)

-- ---- its length

pub head-length : (number kind : ℕ) → length (head_bytes number kind) ≡ 12
unfolding head_bytes word_bytes
head-length number kind = refl

module _ (number kind : ℕ) (f : ℕ → ℕ) (used : ℕ) where
  abbrev payload : List ℕ
  payload = bytes_of (payload_word f used) 123

  abbrev pub before : List ℕ
  before = head_bytes number kind ++ payload

  pub before-length : length before ≡ 504
  before-length = length-append (head_bytes number kind) payload ∙ (let a = head-length number kind in let b = bytes-length (payload_word f used) 123 in omega arith)

  pub second-length : length (with_second before) ≡ 508
  unfolding with_second
  second-length = length-append before (word_bytes (second_of before)) ∙ (let a = before-length in let b = word-length (second_of before) in omega arith)

  pub block-length : length (block_bytes number kind f used) ≡ 512
  unfolding block_bytes with_check
  block-length =
      length-append (with_second before) (word_bytes (check_of (with_second before)))
      ∙ (let a = second-length in let b = word-length (check_of (with_second before)) in omega arith)

-- ---- the buffer that is to hold it: of a block's length, or of another

pub filled_is : (old : List ℕ) (number kind : ℕ) (f : ℕ → ℕ) (used : ℕ) → length old ≡ 512 → filled_block old number kind f used ≡ block_bytes number kind f used
unfolding filled_block choose
filled_is old number kind f used h = rw (eq-eqb (length old) 512 h)

pub other-kept : (old : List ℕ) (number kind : ℕ) (f : ℕ → ℕ) (used : ℕ) → (length old ≡ 512 → ⊥) → filled_block old number kind f used ≡ old
unfolding filled_block choose
other-kept old number kind f used ne = rw (ne_eqb (length old) 512 ne)

-- ---- what the program leaves of a block: the head, the payload behind it, and behind each the check of what stands before it

-- a check more, read off what was written
put-behind : (l₀ l l' done : List ℕ) (w : ℕ) → l ≡ stored l₀ 0 done → l' ≡ stored l (length done) (word_bytes w) → l' ≡ stored l₀ 0 (done ++ word_bytes w)
put-behind l₀ l l' done w e put =
    let z : 0 + length done ≡ length done = omega arith in
    put ∙ ap (λ (k : List ℕ). stored k (length done) (word_bytes w)) e ∙ (rw z at (stored-then l₀ 0 done (word_bytes w)))

second-as : (l₀ l words : List ℕ) (second : ℕ) → second ≡ second_of words → l ≡ stored l₀ 0 (words ++ word_bytes second) → l ≡ stored l₀ 0 (with_second words)
unfolding with_second
second-as l₀ l words second s e = e ∙ ap (λ (k : ℕ). stored l₀ 0 (words ++ word_bytes k)) s

pub filled : (l₀ l₁ l₂ l₃ l₄ : List ℕ) (number kind : ℕ) (f : ℕ → ℕ) (used second check : ℕ) → length l₀ ≡ 512
    → l₁ ≡ stored l₀ 0 (head_bytes number kind) → l₂ ≡ stored l₁ 12 (bytes_of (payload_word f used) 123)
    → second ≡ second_of l₂ → l₃ ≡ stored l₂ 504 (word_bytes second) → check ≡ check_of l₃ → l₄ ≡ stored l₃ 508 (word_bytes check) → l₄ ≡ block_bytes number kind f used
unfolding block_bytes with_check
filled l₀ l₁ l₂ l₃ l₄ number kind f used second check size e₁ e₂ es e₃ ec e₄ =
    let head : List ℕ = head_bytes number kind in
    let rest : List ℕ = bytes_of (payload_word f used) 123 in
    let words : List ℕ = head ++ rest in
    let a = head-length number kind in
    let b = before-length number kind f used in
    let d = second-length number kind f used in
    let two : l₂ ≡ stored l₀ 0 words = e₂ ∙ ap (λ (l : List ℕ). stored l 12 rest) e₁ ∙ (rw a at (stored-then l₀ 0 head rest)) in
    let s : second ≡ second_of words =
    es ∙ ap second_of (two ∙ stored-front l₀ words (omega arith)) ∙ second-before words (drop (length words) l₀) (omega arith) in
    let three : l₃ ≡ stored l₀ 0 (with_second words) = second-as l₀ l₃ words second s (put-behind l₀ l₂ l₃ words second two (rw b e₃)) in
    let c : check ≡ check_of (with_second words) =
    ec ∙ ap check_of (three ∙ stored-front l₀ (with_second words) (omega arith)) ∙ check-before (with_second words) (drop (length (with_second words)) l₀) d in
    let four : l₄ ≡ stored l₀ 0 (with_second words ++ word_bytes check) = put-behind l₀ l₃ l₄ (with_second words) check three (rw d e₄) in
    let w = word-length check in
    let n = length-append (with_second words) (word_bytes check) in
    four ∙ stored-all l₀ (with_second words ++ word_bytes check) (omega arith) ∙ ap (λ (k : ℕ). with_second words ++ word_bytes k) c

-- its first three words
pub head-put : (l₀ l₁ l₂ l₃ : List ℕ) (number kind m : ℕ) → m ≡ file_word new_mark 0
    → l₁ ≡ stored l₀ 0 (word_bytes m) → l₂ ≡ stored l₁ 4 (word_bytes kind) → l₃ ≡ stored l₂ 8 (word_bytes number) → l₃ ≡ stored l₀ 0 (head_bytes number kind)
unfolding head_bytes word_bytes file_word stored
head-put l₀ l₁ l₂ l₃ number kind m e e₁ e₂ e₃ = rw (e₃, e₂, e₁, e)

-- a word more of its payload
pub payload-turn : (l₀ l l' : List ℕ) (word : ℕ → ℕ) (i w : ℕ) → w ≡ word i → l ≡ stored l₀ 12 (bytes_of word i) → l' ≡ stored l ((3 + i) * 4) (word_bytes w)
    → l' ≡ stored l₀ 12 (bytes_of word (i + 1))
unfolding bytes_of
payload-turn l₀ l l' word i w e inv put =
    let n : i + 1 ≡ suc i = omega arith in
    let last : appended (λ k. word_bytes (word k)) (suc i) 0 ≡ bytes_of word i ++ word_bytes (word i) = appended-last (λ (k : ℕ). word_bytes (word k)) i in
    let a = bytes-length word i in
    let q : (3 + i) * 4 ≡ 12 + length (bytes_of word i) = omega arith in
    rw (put, inv, q, e, n, last) (stored-then l₀ 12 (bytes_of word i) (word_bytes (word i)))
