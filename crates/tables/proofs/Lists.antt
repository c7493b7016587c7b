-- Laws of lists: an element, and the part that is some boxes. Assumes nothing.
use Rattle.std.proofs.Common.{◌≡◌, ℕ, zero, suc, ◌+◌, ◌-◌, ◌*◌, ◌/◌, ◌<◌, ◌≤◌, Bool, true, false, ltb, leb, List, [], ◌∷◌, length, get_or, take, drop, refl, le_of_suc-le-suc, not-suc-le-zero, arith, le-leb}
use lib.ListN.{get_or-eq_default}
use lib.Ieee.{Float}
use borrow.Author.Tests.{lt-leb}
use Rattle.base.specs.Choose.{choose}
use Rattle.floats.specs.Numbers.{zero64}
use Rattle.tables.specs.Tables.{word_at, head_of, head_at, boxes_at, shape_box_of, box_at}

-- within the list the default is not looked at
pub get_d_any : {A : Type 0} (l : List A) (i : ℕ) (d e : A) → i < length l → get_or l i d ≡ get_or l i e
get_d_any [] i d e h = absurd (not-suc-le-zero h)
get_d_any (x ∷ xs) zero d e h = refl
get_d_any (x ∷ xs) (suc i) d e h = get_d_any xs i d e (le_of_suc-le-suc h)

-- ---- b boxes from box a on are there when their numbers are, six for each
left_over : (a n : ℕ) → a + n - a ≡ n
left_over a n = omega arith

whole : (a b n : ℕ) → a * 6 + b * 6 ≤ n → a + b ≤ n / 6
whole a b n h = omega arith

short : (a b n : ℕ) → n < a * 6 + b * 6 → n / 6 < a + b
short a b n h = omega arith

module _ (l : List Float) (a b p q : ℕ) (s : p ≡ a) (t : q ≡ b) where
  pub whole_part : p * 6 + q * 6 ≤ length l → take (p * 6 + q * 6 - p * 6) (drop (p * 6) l) ≡ boxes_at l a b
  unfolding boxes_at choose
  whole_part h = rw (← s, ← t, le-leb (p + q) (length l / 6) (whole p q (length l) h), left_over)

  pub short-part : length l < p * 6 + q * 6 → [] ≡ boxes_at l a b
  unfolding boxes_at choose
  short-part h = rw (← s, ← t, lt-leb (p + q) (length l / 6) (short p q (length l) h))

pub no_part : (l : List Float) (a b : ℕ) → b ≡ 0 → [] ≡ boxes_at l a b
unfolding boxes_at choose
no_part l a b e = rw e (go (leb (a + 0) (length l / 6)))
  where
    go : (t : Bool) → [] ≡ choose t (take (0 * 6) (drop (a * 6) l)) []
    go true = refl
    go false = refl

-- ---- no word where the records end before it
pub no_word : (records : List ℕ) (state k : ℕ) → length records ≤ state * 20 + k → word_at records state k ≡ 0
unfolding choose
no_word records state k h = go (ltb k 20)
  where
    go : (t : Bool) → choose t (get_or records (state * 20 + k) 0) 0 ≡ 0
    go true = get_or-eq_default records 0 h
    go false = refl

-- ---- a record whose word 8 is there, and so those before it
pub whole-head : (l : List ℕ) (i s d : ℕ) → i ≡ s → i * 20 + 8 < length l → head_of (get_or l (i * 20) d) (get_or l (i * 20 + 4) d) (get_or l (i * 20 + 7) d) (get_or l (i * 20 + 8) d) ≡ head_at l s
unfolding choose
whole-head l i s d e h =
    let z : i * 20 + 0 ≡ i * 20 = omega arith in
    let w0 = get_d_any l (i * 20) d 0 (omega arith) in
    let w4 = get_d_any l (i * 20 + 4) d 0 (omega arith) in
    let w7 = get_d_any l (i * 20 + 7) d 0 (omega arith) in
    let w8 = get_d_any l (i * 20 + 8) d 0 (omega arith) in
    rw (← e, z, w0, w4, w7, w8)

-- ---- a box whose last number is there, and so all of them
pub whole-box : (l : List Float) (i k : ℕ) (d : Float) → i ≡ k → i * 6 + 5 < length l
    → shape_box_of (get_or l (i * 6) d) (get_or l (i * 6 + 1) d) (get_or l (i * 6 + 2) d) (get_or l (i * 6 + 3) d) (get_or l (i * 6 + 4) d) (get_or l (i * 6 + 5) d) ≡ box_at l k
whole-box l i k d e h =
    let n0 = get_d_any l (i * 6) d zero64 (omega arith) in
    let n1 = get_d_any l (i * 6 + 1) d zero64 (omega arith) in
    let n2 = get_d_any l (i * 6 + 2) d zero64 (omega arith) in
    let n3 = get_d_any l (i * 6 + 3) d zero64 (omega arith) in
    let n4 = get_d_any l (i * 6 + 4) d zero64 (omega arith) in
    let n5 = get_d_any l (i * 6 + 5) d zero64 (omega arith) in
    rw (← e, n0, n1, n2, n3, n4, n5)
