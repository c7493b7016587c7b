-- A word as its four bytes, and each check reads what stands before it alone. Assumes nothing.
use mathlib.Core.List.{List, ◌++◌}
use mathlib.Core.Path.{◌≡◌, refl, ap}
use Prim.Native.Nat.{ℕ, ◌+◌, ◌*◌, ◌/◌, ◌%◌, ◌<◌, ◌≤◌}
use native.Mathlib.Omega.{arith}
use lib.ListN.{length, take, drop, get_or-append}
use Rattle.base.proofs.Appended.{appended-same, appended-length, appended-at}
use Rattle.std.specs.Int.{to_le_bytes, w32}
use Rattle.block_checks.specs.Checks.{file_word, check_of, second_of}
use Rattle.block_checks.proofs.Words.{sum_same}
use Rattle.block_writer.specs.Bytes.{word_bytes, bytes_of}

-- as the library has them
pub le-bytes : (w : ℕ) → to_le_bytes w32 w ≡ word_bytes w
unfolding word_bytes
le-bytes w = let e : w / 1 ≡ w = omega arith in rw e

pub word-length : (w : ℕ) → length (word_bytes w) ≡ 4
unfolding word_bytes
word-length w = refl

-- ---- bytes of words

pub bytes-length : (word : ℕ → ℕ) (n : ℕ) → length (bytes_of word n) ≡ n * 4
unfolding bytes_of
bytes-length word n = appended-length 4 (λ (k : ℕ). word_bytes (word k)) n (λ k h. word-length (word k))

pub bytes-at : (word : ℕ → ℕ) (n k : ℕ) → k < n → take 4 (drop (k * 4) (bytes_of word n)) ≡ word_bytes (word k)
unfolding bytes_of
bytes-at word n k h = appended-at 4 (λ (k : ℕ). word_bytes (word k)) n k (λ k h. word-length (word k)) h

pub bytes_same : (f g : ℕ → ℕ) (n : ℕ) → ((k : ℕ) → k < n → f k ≡ g k) → bytes_of f n ≡ bytes_of g n
unfolding bytes_of
bytes_same f g n e = appended-same (λ (k : ℕ). word_bytes (f k)) (λ (k : ℕ). word_bytes (g k)) n (λ k h. ap word_bytes (e k h))

-- ---- the two checks

word-before : (h t : List ℕ) (k : ℕ) → k * 4 + 4 ≤ length h → file_word (h ++ t) k ≡ file_word h k
unfolding file_word
word-before h t k l =
    rw (get_or-append h t 0 (k * 4) (omega arith), get_or-append h t 0 (k * 4 + 1) (omega arith), get_or-append h t 0 (k * 4 + 2) (omega arith), get_or-append h t 0 (k * 4 + 3) (omega arith))

pub check-before : (h t : List ℕ) → length h ≡ 508 → check_of (h ++ t) ≡ check_of h
unfolding check_of
check-before h t e =
    ap (λ (s : ℕ). s % 4294967296) (sum_same (file_word (h ++ t)) (file_word h) 127 (λ k l. word-before h t k (omega arith)))

pub second-before : (h t : List ℕ) → 504 ≤ length h → second_of (h ++ t) ≡ second_of h
unfolding second_of
second-before h t e =
    ap (λ (s : ℕ). s % 4294967296)
    (sum_same (λ k. (k + 1) * file_word (h ++ t) k) (λ k. (k + 1) * file_word h k) 126 (λ k l. ap (λ (w : ℕ). (k + 1) * w) (word-before h t k (omega arith))))
