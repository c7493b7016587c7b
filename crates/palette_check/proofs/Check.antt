-- The palette passes the table check. A word of the tables is the word of the rule, and a state's boxes are the part that words 7 and 8 name; each
-- rule of the check is then a test over the 212 states that is computed. Assumes nothing.
use mathlib.Core.Bool.{Bool, true, false, ◌&&◌, ◌||◌}
use mathlib.Core.Path.{◌≡◌, refl, sym, ap, ◌∙◌, subst}
use mathlib.Core.List.{List, append-nil}
use Prim.Native.Nat.{ℕ, zero, suc, ◌+◌, ◌*◌, ◌/◌, ◌%◌, ◌<◌, ◌≤◌}
use native.Mathlib.Nat.{not-suc-le-zero, le_of_suc-le-suc, le_refl}
use native.Mathlib.Omega.{arith}
use native.Mathlib.Decide.{dec_lt}
use lib.Dec.{T, eqb, ltb}
use lib.ListN.{length, get_or, drop, drop_of_length-le}
use lib.Seq.{get_or-drop}
use lib.Ieee as I
use lib.Ieee.{Float}
use borrow.Author.Tests.{eqb-true, ltb-true, eq-eqb, le-leb, lt-ltb, le-ltb, lt-leb}
use Rattle.base.specs.Choose.{choose}
use Rattle.base.specs.Every.{every, any}
use Rattle.base.specs.Loop.{listed, appended}
use Rattle.base.proofs.Appended.{appended-part}
use Rattle.base.proofs.Every.{both, and-true, every-at, every-from}
use Rattle.floats.specs.Numbers as N
use Rattle.cover.specs.declared.Side.TheVariants.{North, East, South, West}
use Rattle.cover.specs.Cover as Q
use Rattle.cover.specs.Gaps as G
use Rattle.cover.proofs.Examples.{all_fit, full-search}
use Rattle.tables.specs.Tables.{word_at, is_registered, friction_at, boxes_at, state_boxes}
use Rattle.table_check.specs.Check as K
use Rattle.turns.specs.Turns as T
use Rattle.palette_states.specs.States as S
use Rattle.palette.specs.Links as L
use Rattle.palette_boxes.specs.Shapes as H
use Rattle.palette_boxes.specs.Fill as F
use Rattle.palette.specs.Palette as P
use Rattle.base.proofs.Listed.{listed_at}
use Rattle.palette.proofs.Records.{records-length}
use Rattle.palette_boxes.proofs.Counts.{all-boxes, shapes-length}
use Rattle.palette_boxes.proofs.Boxes.{boxes-length, count_most, first-length}

-- ---- word k of a state
pub word-at : (s k : ℕ) → s < 212 → k < 20 → word_at P.palette_records s k ≡ P.record_word s k
unfolding P.palette_records P.palette_word choose
word-at s k h g =
    let p : (0 + (s * 20 + k)) / 20 ≡ s = omega arith in
    let q : (0 + (s * 20 + k)) % 20 ≡ k = omega arith in
    rw (lt-ltb k 20 g) (listed_at (λ i. P.palette_word (i / 20) (i % 20)) 4240 0 (s * 20 + k) 0 (omega arith) ∙ rw (p, q, lt-ltb s 212 h))

-- ---- words 0 to 6, and "an unregistered record is all zero": the record alone, as a table of one
abbrev row : ℕ → List ℕ
row s = listed (P.record_word s) 20 0

worded : ℕ → Bool
worded s = K.words_fit (row s) 0

words-fit : (s : ℕ) → s < 212 → K.words_fit P.palette_records s ≡ true
unfolding worded every K.words_fit friction_at listed choose N.size_of I.of_bits I.lt I.le I.eq P.record_word P.flags P.faces S.kind S.index T.weight T.digit_at S.post_digit
words-fit s h =
    rw (word-at s 0 h (omega arith), word-at s 1 h (omega arith), word-at s 2 h (omega arith), word-at s 3 h (omega arith), word-at s 4 h (omega arith), word-at s 5 h (omega arith), word-at s 6 h (omega arith))
    (every-at 212 worded refl s h)

registered : ℕ → Bool
registered s = eqb (P.flags s % 2) 1

pub is-registered : (s : ℕ) → s < 212 → is_registered P.palette_records s ≡ true
unfolding registered is_registered every choose P.record_word P.flags
is-registered s h = rw (word-at s 0 h (omega arith)) (every-at 212 registered refl s h)

registered-fits : (s : ℕ) → s < 212 → K.registered_or_zero P.palette_records s ≡ true
unfolding K.registered_or_zero
registered-fits s h = rw (is-registered s h)

-- ---- words 7 and 8
first-grows : (s n : ℕ) → s < n → H.first_box s + H.box_count_of s ≤ H.first_box n
unfolding H.first_box
first-grows s zero h = absurd (not-suc-le-zero h)
first-grows s (suc n) h = go (λ q. first-grows s n q) (dec_lt s n)
  where
    go : (s < n → H.first_box s + H.box_count_of s ≤ H.first_box n) → Dec (s < n) → H.first_box s + H.box_count_of s ≤ H.first_box n + H.box_count_of n
    go before (yes q) = omega (arith, before q)
    go before (no q) = let e : s ≡ n = omega arith in rw e (le_refl _)

inside : (s : ℕ) → s < 212 → H.first_box s + H.box_count_of s ≤ 658
inside s h = rw (← all-boxes) (first-grows s 212 h)

word-7 : (s : ℕ) → s < 212 → word_at P.palette_records s 7 ≡ H.first_box s
unfolding P.record_word H.first_box_of choose
word-7 s h = word-at s 7 h (omega arith) ∙ rw (lt-leb 212 s h)

word-8 : (s : ℕ) → s < 212 → word_at P.palette_records s 8 ≡ H.box_count_of s
unfolding P.record_word choose
word-8 s h = word-at s 8 h (omega arith)

part-fits : (s : ℕ) → s < 212 → K.state_boxes_fit P.palette_records H.palette_shapes s ≡ true
unfolding K.state_boxes_fit
part-fits s h =
    rw (word-7 s h, word-8 s h, shapes-length, le-leb (H.box_count_of s) 16 (omega (arith, count_most s)))
    (le-leb (H.first_box s + H.box_count_of s) 658 (inside s h))

-- the part is the state's boxes
pub boxes-at : (s : ℕ) → s < 212 → state_boxes P.palette_records H.palette_shapes s ≡ H.boxes_of_state s
unfolding boxes_at choose H.palette_shapes
boxes-at s h =
    rw (word-7 s h, word-8 s h, shapes-length, le-leb (H.first_box s + H.box_count_of s) 658 (inside s h))
    (appended-part H.boxes_of_state 212 s (H.first_box s * 6) (H.box_count_of s * 6) h (first-length s) (boxes-length s))

-- ---- word 19
abbrev searched : List Float → ℕ
searched l = choose (G.covers_by_search l North) 1 0 + choose (G.covers_by_search l East) 2 0 + choose (G.covers_by_search l South) 4 0 + choose (G.covers_by_search l West) 8 0

faced : ℕ → Bool
faced s = all_fit (H.boxes_of_state s) && eqb (P.faces s) (searched (H.boxes_of_state s))

all-faced : every 212 faced ≡ true
unfolding faced every any choose all_fit G.gap_on_face G.gap_on_line G.any_gap G.has_gap_at G.gap_past G.has_point G.spans_line G.is_inner G.covers_by_search Q.on_face Q.u_place I.fits I.lt I.eq I.le I.is_nan I.of_bits I.of_int I.div I.round H.boxes_of_state appended H.part_numbers H.has_part H.box_of_part H.by_kind H.post_edge H.arm_edge H.arm_length H.height S.kind S.index S.bit S.bit_at T.weight T.digit_at S.side_digit S.has_post P.faces
all-faced = refl

word-19 : (s : ℕ) → s < 212 → word_at P.palette_records s 19 ≡ P.faces s
unfolding P.record_word choose
word-19 s h = word-at s 19 h (omega arith)

-- what face cover gives
pub faces-are : (s : ℕ) → s < 212 → P.faces s ≡ Q.full_faces (H.boxes_of_state s)
unfolding faced
faces-are s h =
    let t : all_fit (H.boxes_of_state s) && eqb (P.faces s) (searched (H.boxes_of_state s)) ≡ true = every-at 212 faced all-faced s h in
    let b = both (all_fit (H.boxes_of_state s)) (eqb (P.faces s) (searched (H.boxes_of_state s))) t in
    eqb-true (P.faces s) (searched (H.boxes_of_state s)) b.two ∙ sym (full-search (H.boxes_of_state s) (subst T (sym b.one) tt))

faces-fit : (s : ℕ) → s < 212 → K.faces_fit P.palette_records H.palette_shapes s ≡ true
unfolding K.faces_fit
faces-fit s h = rw (word-19 s h, boxes-at s h) (eq-eqb (P.faces s) (Q.full_faces (H.boxes_of_state s)) (faces-are s h))

-- ---- words 9 to 18
word-4 : (s : ℕ) → s < 212 → word_at P.palette_records s 4 ≡ S.kind s
unfolding P.record_word choose
word-4 s h = word-at s 4 h (omega arith)

abbrev link_word : ℕ → ℕ → ℕ
link_word s i = P.record_word s (9 + i)

-- a link leads to a state of the palette that connects as the first one does
leading : ℕ → ℕ → Bool
leading s i = ltb (link_word s i) 212 && eqb (S.kind (link_word s i)) (S.kind s)

absent : ℕ → ℕ → Bool
absent s i = eqb (link_word s i) 0

staying : ℕ → Bool
staying s = eqb (link_word s 8) s && eqb (link_word s 9) s

linked : ℕ → Bool
linked s = choose (eqb (S.kind s) 0) (every 10 (absent s)) (every 10 (leading s) && (eqb (S.kind s) 4 || staying s))

all-linked : every 212 linked ≡ true
unfolding linked leading absent staying every choose P.record_word L.link L.fence_link T.wall_turn T.wall_link T.turned_at T.turned S.kind S.index S.bit S.bit_at T.weight T.digit_at
all-linked = refl

leads : (s i : ℕ) → s < 212 → i < 10 → leading s i ≡ true → K.leads_on P.palette_records (S.kind s) (word_at P.palette_records s (9 + i)) ≡ true
unfolding leading K.leads_on
leads s i h g t =
    let b = both (ltb (link_word s i) 212) (eqb (S.kind (link_word s i)) (S.kind s)) t in
    let r : link_word s i < 212 = ltb-true (link_word s i) 212 b.one in
    rw (word-at s (9 + i) h (omega arith), is-registered (link_word s i) r, word-4 (link_word s i) r) b.two

links-fit : (s : ℕ) → s < 212 → K.links_fit P.palette_records s ≡ true
unfolding linked staying absent K.links_fit K.all_zero K.all_lead_on K.posts_stay choose
links-fit s h = rw (word-4 s h, word-at s 17 h (omega arith), word-at s 18 h (omega arith)) (go (eqb (S.kind s) 0) (every-at 212 linked all-linked s h))
  where
    go : (t : Bool) → choose t (every 10 (absent s)) (every 10 (leading s) && (eqb (S.kind s) 4 || staying s)) ≡ true
        → choose t (every 10 (λ i. eqb (word_at P.palette_records s (9 + i)) 0)) (every 10 (λ i. K.leads_on P.palette_records (S.kind s) (word_at P.palette_records s (9 + i))) && (eqb (S.kind s) 4 || staying s)) ≡ true
    go true e = every-from 10 (λ i. eqb (word_at P.palette_records s (9 + i)) 0) (λ i l. rw (word-at s (9 + i) h (omega arith)) (every-at 10 (absent s) e i l))
    go false e =
        let b = both (every 10 (leading s)) (eqb (S.kind s) 4 || staying s) e in
        and-true _ _ (every-from 10 (λ i. K.leads_on P.palette_records (S.kind s) (word_at P.palette_records s (9 + i))) (λ i l. leads s i h l (every-at 10 (leading s) b.one i l))) b.two

-- ---- a record
record-fits : (s : ℕ) → s < 212 → K.record_fits P.palette_records H.palette_shapes s ≡ true
unfolding K.record_fits
record-fits s h = rw (words-fit s h, part-fits s h, links-fit s h, faces-fit s h, registered-fits s h)

-- ---- boxes, six numbers after six
boxed : ℕ → List Float → Bool
boxed zero l = true
boxed (suc n) l = K.box_fits l 0 && boxed n (drop 6 l)

all-boxed : boxed 658 H.palette_shapes ≡ true
unfolding boxed K.box_fits K.side_fits choose N.size_of I.lt I.eq I.le I.of_bits I.of_int I.div I.round H.palette_shapes H.boxes_of_state appended H.part_numbers H.has_part H.box_of_part H.by_kind H.post_edge H.arm_edge H.arm_length H.height S.kind S.index S.bit S.bit_at T.weight T.digit_at S.side_digit S.has_post
all-boxed = refl

moved : (l : List Float) (k c : ℕ) → Q.box_number (drop 6 l) k c ≡ Q.box_number l (suc k) c
moved l k c = let e : 6 + (k * 6 + c) ≡ suc k * 6 + c = omega arith in get_or-drop 6 l (k * 6 + c) I.nan ∙ ap (λ (i : ℕ). get_or l i I.nan) e

next_fits : (l : List Float) (k : ℕ) → K.box_fits (drop 6 l) k ≡ K.box_fits l (suc k)
unfolding K.box_fits
next_fits l k = rw (moved l k 0, moved l k 1, moved l k 2, moved l k 3, moved l k 4, moved l k 5)

box-fits : (n : ℕ) (l : List Float) → boxed n l ≡ true → (k : ℕ) → k < n → K.box_fits l k ≡ true
unfolding boxed
box-fits zero l t k h = absurd (not-suc-le-zero h)
box-fits (suc n) l t zero h = (both (K.box_fits l 0) (boxed n (drop 6 l)) t).one
box-fits (suc n) l t (suc k) h = sym (next_fits l k) ∙ box-fits n (drop 6 l) (both (K.box_fits l 0) (boxed n (drop 6 l)) t).two k (le_of_suc-le-suc h)

-- ---- a buffer that has just the room holds the table
just-filled : {A : Type 0} (n : ℕ) (l xs : List A) → length l ≡ n → F.filled n l xs ≡ xs
unfolding choose
just-filled n l xs e =
    let h : n ≤ length l = omega arith in
    let g : length l ≤ n = omega arith in
    rw (le-ltb (length l) n h, drop_of_length-le l g) (append-nil xs)

-- ---- the check
counts-fit : K.table_counts_fit P.palette_records H.palette_shapes ≡ true
unfolding K.table_counts_fit
counts-fit = rw (records-length, shapes-length)

tables-fit : K.tables_fit P.palette_records H.palette_shapes ≡ true
unfolding K.tables_fit
tables-fit =
    rw (counts-fit, records-length, shapes-length, every-from 212 (K.record_fits P.palette_records H.palette_shapes) record-fits)
    (every-from 658 (K.box_fits H.palette_shapes) (box-fits 658 H.palette_shapes all-boxed))

pub passes : K.table_refusal P.palette_records H.palette_shapes ≡ 0
unfolding choose
passes = rw tables-fit

-- buffers that have just the room: what the palette is filled into passes
pub filled-passes : (a : List ℕ) (b : List Float) → length a ≡ P.record_words → length b ≡ H.shape_numbers → K.table_refusal (F.filled P.record_words a P.palette_records) (F.filled H.shape_numbers b H.palette_shapes) ≡ 0
filled-passes a b p q = rw (just-filled P.record_words a P.palette_records p, just-filled H.shape_numbers b H.palette_shapes q) passes
