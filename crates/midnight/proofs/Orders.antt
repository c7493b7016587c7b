-- The buffer after a call: each body's answer in its row and the rest kept, or nothing written; and in any order the answers follow their
-- bodies. Assumes nothing.
use mathlib.Core.Path.{◌≡◌, refl, sym, ap, ◌∙◌, subst}
use mathlib.Core.Bool.{Bool, true, false, not, ◌||◌}
use mathlib.Core.List.{List, [], ◌∷◌, ◌++◌, map, append_assoc}
use Prim.Native.Nat.{ℕ, zero, suc, ◌+◌, ◌*◌, ◌≤◌, ◌<◌}
use native.Mathlib.Nat.{zero-add, not-suc-le-zero}
use native.Mathlib.Omega.{arith}
use lib.Dec.{T, ltb, eqb, eqb→eq, nltb→le}
use lib.ListN.{length, take, drop, get_or, length-append, get_or-map}
use lib.Ieee.{Float}
use lib.Seq.{take_at, drop_at, drop-append-add}
use borrow.Author.Tests.{ne_eqb}
use Rattle.base.specs.Choose.{choose}
use Rattle.base.specs.Loop.{stored}
use Rattle.table_check.specs.Check.{tables_fit, table_refusal}
use Rattle.night_rows.specs.Rows.{Row, row_of, row_at, window_at, named_in}
use Rattle.answer_rows.specs.Answers.{answer_width, answer_numbers, count_refusal}
use Rattle.night_answers.specs.Answers.{NightLent, single_step}
use Rattle.base.proofs.Stored.{stored-first}
use Rattle.base.proofs.Listed.{listed-length, listed_at, map-listed}
use Rattle.midnight.specs.Run.{run_refusal, bodies_of, answer_row, rows_of, checked_written, run_written, answers_in}
use Rattle.night_answers.proofs.Bodies.{Named, single}

-- ---- what a call that is not refused passed

all-passed : (t a b c : Bool) → ◌≡◌ {A = ℕ} (choose t (choose (a || b) 14 (choose c 11 0)) 1) 0 → (t ≡ true) × (a ≡ false) × (b ≡ false) × (c ≡ false)
unfolding choose
all-passed true false false false e = (refl, refl, refl, refl)
all-passed true false false true e = absurd (omega arith)
all-passed true false true c e = absurd (omega arith)
all-passed true true b c e = absurd (omega arith)
all-passed false a b c e = absurd (omega arith)

pub record Passed (lent : NightLent) (bodies room : ℕ) : Type 0 where
  pub tables : table_refusal lent.records lent.shapes ≡ 0
  pub windows : lent.count ≤ 16
  pub few : bodies ≤ 4096
  pub fits : bodies * answer_width ≤ room

pub passed : (lent : NightLent) (bodies room : ℕ) → run_refusal lent bodies room ≡ 0 → Passed lent bodies room
unfolding run_refusal count_refusal
passed lent bodies room e =
    let p = all-passed (eqb (table_refusal lent.records lent.shapes) 0) (ltb 16 lent.count) (ltb 4096 bodies) (ltb room (bodies * answer_width)) e in
    record {
      tables = eqb→eq (table_refusal lent.records lent.shapes) 0 (subst T (sym p.0) tt);
      windows = nltb→le 16 lent.count (subst (λ (b : Bool). T (not b)) (sym p.1) tt);
      few = nltb→le 4096 bodies (subst (λ (b : Bool). T (not b)) (sym p.2) tt);
      fits = nltb→le room (bodies * answer_width) (subst (λ (b : Bool). T (not b)) (sym p.3) tt);
    }

-- ---- rows one behind the other

rows-length : (lent : NightLent) (rows : List Row) → length (rows_of lent rows) ≡ length rows * answer_width
unfolding rows_of
rows-length lent [] = refl
rows-length lent (row ∷ rows) =
    let later = rows-length lent rows in
    let n = length-append (answer_row lent row) (rows_of lent rows) in
    omega (arith, later, n)

-- row i of what is stored is body i's
row-at : (lent : NightLent) (d : Row) (rows : List Row) (beyond : List Float) (i : ℕ) → i < length rows
    → row_of answer_width (rows_of lent rows ++ beyond) i ≡ answer_row lent (get_or rows i d)
unfolding rows_of
row-at lent d [] beyond i h = absurd (not-suc-le-zero h)
row-at lent d (row ∷ rows) beyond zero h =
    ap (λ (l : List Float). take answer_width l) (append_assoc (answer_row lent row) (rows_of lent rows) beyond)
    ∙ take_at (answer_row lent row) (rows_of lent rows ++ beyond) answer_width refl
row-at lent d (row ∷ rows) beyond (suc i) h =
    let less : i < length rows = omega arith in
    let next : suc i * answer_width ≡ answer_width + i * answer_width = omega arith in
    ap (λ (k : ℕ). take answer_width (drop k (rows_of lent (row ∷ rows) ++ beyond))) next
    ∙ ap (λ (l : List Float). take answer_width (drop (answer_width + i * answer_width) l)) (append_assoc (answer_row lent row) (rows_of lent rows) beyond)
    ∙ ap (λ (l : List Float). take answer_width l) (drop-append-add (answer_row lent row) (rows_of lent rows ++ beyond) (i * answer_width))
    ∙ row-at lent d rows beyond i less

-- ---- the buffer after a call

module _ (older : Bool) (lent : NightLent) (numbers : List Float) (words : List ℕ) (bodies : ℕ) (out : List Float) where
  abbrev pub after : List Float
  after = run_written lent (bodies_of older numbers words bodies) out

  -- a refused call writes nothing
  pub unwritten : (run_refusal lent bodies (length out) ≡ 0 → ⊥) → after ≡ out
  unfolding run_written choose
  unwritten r = rw (listed-length (row_at older numbers words) bodies 0, ne_eqb (run_refusal lent bodies (length out)) 0 r)

  module _ (accepted : run_refusal lent bodies (length out) ≡ 0) where
    pub stored-all : stored out 0 (rows_of lent (bodies_of older numbers words bodies)) ≡ after
    unfolding run_written choose
    stored-all = rw (listed-length (row_at older numbers words) bodies 0, accepted)

    rows_fill : length (rows_of lent (bodies_of older numbers words bodies)) ≡ bodies * answer_width
    rows_fill = rows-length lent (bodies_of older numbers words bodies) ∙ ap (λ (k : ℕ). k * answer_width) (listed-length (row_at older numbers words) bodies 0)

    -- the answers one behind the other, and what lies beyond as it was
    pub written : after ≡ rows_of lent (bodies_of older numbers words bodies) ++ drop (bodies * answer_width) out
    written =
        sym stored-all
        ∙ stored-first out (rows_of lent (bodies_of older numbers words bodies)) (bodies * answer_width) rows_fill (passed lent bodies (length out) accepted).fits

    pub kept : drop (bodies * answer_width) after ≡ drop (bodies * answer_width) out
    kept =
        ap (λ (l : List Float). drop (bodies * answer_width) l) written
        ∙ drop_at (rows_of lent (bodies_of older numbers words bodies)) (drop (bodies * answer_width) out) (bodies * answer_width) rows_fill

    -- row i is the answer of body i
    pub answer : (i : ℕ) → i < bodies → row_of answer_width after i ≡ answer_row lent (row_at older numbers words i)
    answer i h =
        let inside : i < length (bodies_of older numbers words bodies) = rw (listed-length (row_at older numbers words) bodies 0) h in
        ap (λ (l : List Float). row_of answer_width l i) written
        ∙ row-at lent (row_at older numbers words 0) (bodies_of older numbers words bodies) (drop (bodies * answer_width) out) i inside
        ∙ ap (answer_row lent) (listed_at (row_at older numbers words) bodies 0 i (row_at older numbers words 0) h ∙ ap (row_at older numbers words) (zero-add i))

    -- which is the single step's
    pub each : (i : ℕ) → i < bodies → Named lent (row_at older numbers words i)
        → row_of answer_width after i
        ≡ answer_numbers (single_step lent.records lent.shapes lent.cells (window_at lent.windows (named_in (row_at older numbers words i))) (row_at older numbers words i))
    each i h named =
        answer i h ∙ ap answer_numbers (single lent (row_at older numbers words i) (passed lent bodies (length out) accepted).tables named)

    -- all of them, row by row, are those of the bodies, row by row
    pub answers : answers_in after bodies ≡ map (answer_row lent) (bodies_of older numbers words bodies)
    answers = map-listed (answer_row lent) (row_at older numbers words) (row_of answer_width after) bodies 0 (λ k l m. answer k (omega arith))

-- ---- by what the program returns

-- tables are refused by 1 alone
pub tables_alone : (records : List ℕ) (shapes : List Float) → (table_refusal records shapes ≡ 0 → ⊥) → table_refusal records shapes ≡ 1
unfolding choose
tables_alone records shapes = go (tables_fit records shapes)
  where
    go : (t : Bool) → (choose {A = ℕ} t 0 1 ≡ 0 → ⊥) → choose {A = ℕ} t 0 1 ≡ 1
    go true none = absurd (none refl)
    go false none = refl

module _ (older : Bool) (lent : NightLent) (numbers : List Float) (words : List ℕ) (bodies : ℕ) (out : List Float) where
  module _ (r : ℕ) (told : r ≡ count_refusal lent.count bodies (length out)) where
    pub refused-run : (r ≡ 0 → ⊥) → out ≡ checked_written lent (bodies_of older numbers words bodies) out
    unfolding checked_written choose
    refused-run not = rw (listed-length (row_at older numbers words) bodies 0, ne_eqb (count_refusal lent.count bodies (length out)) 0 (λ z. not (told ∙ z)))

    module _ (none : r ≡ 0) where
      pub few-windows : lent.count ≤ 16
      unfolding count_refusal choose
      few-windows =
          nltb→le 16 lent.count
          (subst (λ (b : Bool). T (not b)) (sym (all-passed true (ltb 16 lent.count) (ltb 4096 bodies) (ltb (length out) (bodies * answer_width)) (sym told ∙ none)).1) tt)

      pub zero-told : 0 ≡ count_refusal lent.count bodies (length out)
      zero-told = sym none ∙ told

      pub accepted-run : (l : List Float) → l ≡ stored out 0 (rows_of lent (bodies_of older numbers words bodies)) → l ≡ checked_written lent (bodies_of older numbers words bodies) out
      unfolding checked_written choose
      accepted-run l e = rw (listed-length (row_at older numbers words) bodies 0, ← zero-told) e

  -- over tables that pass, the call is the one over checked tables; over others it is refused
  module _ (sound : table_refusal lent.records lent.shapes ≡ 0) where
    pub counts_alone : count_refusal lent.count bodies (length out) ≡ run_refusal lent bodies (length out)
    unfolding run_refusal choose
    counts_alone = rw sound

    pub checked-run : checked_written lent (bodies_of older numbers words bodies) out ≡ after older lent numbers words bodies out
    unfolding checked_written run_written run_refusal choose
    checked-run = rw sound

  module _ (bad : table_refusal lent.records lent.shapes ≡ 0 → ⊥) where
    pub tables-refused : 1 ≡ run_refusal lent bodies (length out)
    unfolding run_refusal choose
    tables-refused = rw (ne_eqb (table_refusal lent.records lent.shapes) 0 bad)

    pub tables-unwritten : out ≡ after older lent numbers words bodies out
    tables-unwritten = sym (unwritten older lent numbers words bodies out (λ z. let no : 1 ≡ 0 = tables-refused ∙ z in absurd (omega (arith, no))))

-- ---- any order

-- rows in the order of a list of places; a place beyond them takes d
abbrev pub picked : {A : Type 0} → A → List A → List ℕ → List A
picked d rows places = map (λ i. get_or rows i d) places

map-picked : (lent : NightLent) (d : Row) (rows : List Row) (places : List ℕ)
    → map (answer_row lent) (picked d rows places) ≡ picked (answer_row lent d) (map (answer_row lent) rows) places
map-picked lent d rows [] = refl
map-picked lent d rows (i ∷ places) =
    ap (λ (a : List Float). a ∷ map (answer_row lent) (picked d rows places)) (sym (get_or-map (answer_row lent) rows i d))
    ∙ ap (λ (l : List (List Float)). get_or (map (answer_row lent) rows) i (answer_row lent d) ∷ l) (map-picked lent d rows places)

-- Two calls over the same tables and windows: where the bodies of the one are those of the other in the order of any list of places (each once, or
-- some of them twice or not at all), so are the answers.
pub follow : (older : Bool) (lent : NightLent) (numbers numbers' : List Float) (words words' : List ℕ) (bodies bodies' : ℕ) (out out' : List Float)
    → run_refusal lent bodies (length out) ≡ 0 → run_refusal lent bodies' (length out') ≡ 0
    → (d : Row) (places : List ℕ) → bodies_of older numbers' words' bodies' ≡ picked d (bodies_of older numbers words bodies) places
    → answers_in (after older lent numbers' words' bodies' out') bodies' ≡ picked (answer_row lent d) (answers_in (after older lent numbers words bodies out) bodies) places
follow older lent numbers numbers' words words' bodies bodies' out out' ok ok' d places same =
    answers older lent numbers' words' bodies' out' ok'
    ∙ ap (map (answer_row lent)) same
    ∙ map-picked lent d (bodies_of older numbers words bodies) places
    ∙ ap (λ (l : List (List Float)). picked (answer_row lent d) l places) (sym (answers older lent numbers words bodies out ok))
