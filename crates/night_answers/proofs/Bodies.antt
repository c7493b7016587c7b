-- What one body's answer comes to: the single step's, 3, 10 or 2; and what a refusal hands back. Assumes nothing.
use mathlib.Core.Path.{◌≡◌, refl, sym, ap, ◌∙◌}
use mathlib.Core.Bool.{Bool, true, false, not, ◌&&◌}
use mathlib.Core.List.{List}
use Prim.Native.Nat.{ℕ, ◌≤◌, ◌<◌}
use native.Mathlib.Nat.{zero-add}
use native.Mathlib.Omega.{arith}
use lib.Dec.{T, ltb, eqb, ltb→lt}
use lib.ListN.{get_or}
use lib.Ieee.{Float}
use borrow.Author.Tests.{lt-ltb, le-ltb, ne_eqb}
use Rattle.base.specs.Choose.{choose}
use Rattle.base.specs.Ask.{Ask, refused, found}
use Rattle.base.specs.Loop.{listed}
use Rattle.table_check.specs.Check.{table_refusal}
use Rattle.window.specs.declared.Window.{Window}
use Rattle.window.specs.Window.{window_fits, window_refusal}
use Rattle.lent.specs.Lent.{unless, lent_refusal}
use Rattle.bodies.specs.declared.MotionNumbers.{MotionNumbers}
use Rattle.step_answers.specs.declared.Tick.{Tick}
use Rattle.step.specs.Answers.{step_answer, past_asked}
use Rattle.fall_rule.specs.declared.Fall.{Fall}
use Rattle.step_answers.specs.Records.{FallingAnswer}
use Rattle.fall_rule.specs.Rule.{fall_fits}
use Rattle.falls.specs.Answers.{with_fall, falling_checked, falling_entry, HandedBack}
use Rattle.falls.proofs.Laws.{checked-alike}
use Rattle.night_rows.specs.declared.WindowRow.{WindowRow}
use Rattle.night_rows.specs.Rows.{Row, window_at, is_whole, named_in, age_in, given_in, body_in, rules_in, fall_in}
use Rattle.base.proofs.Listed.{listed_at}
use Rattle.night_windows.specs.Windows.{cells_in, is_there, is_summed, own_refusal, refusal_at, refusal_within, step_words}
use Rattle.night_answers.specs.Answers.{NightLent, refused_body, single_step, checked_step, late_body, wrong_step, row_answer_by, row_answer}

-- ---- what the checks of all windows say of the one that is named

alike : {A : Type 0} (w b : Bool) (m n : ℕ) (step : A) (wrong : ℕ → A) (ten three : A) → (T b → m ≡ n)
    → choose w (choose b (choose (eqb m 0) step (wrong m)) ten) three ≡ choose w (choose b (choose (eqb n 0) step (wrong n)) ten) three
unfolding choose
alike {A} w true m n step wrong ten three e = ap (λ (k : ℕ). choose w (choose (eqb k 0) step (wrong k)) three) (e tt)
alike w false m n step wrong ten three e = refl

named-check : (records windows cells checked : List ℕ) (count j : ℕ) → count ≤ 16 → checked ≡ listed (refusal_within records windows cells count) 16 0 → j < count
    → get_or checked j 2 ≡ refusal_at records windows cells j
unfolding refusal_within choose
named-check records windows cells checked count j few e h =
    let f : ℕ → ℕ = refusal_within records windows cells count in
    let inside : j < 16 = omega arith in
    ap (λ (l : List ℕ). get_or l j 2) e
    ∙ listed_at f 16 0 j 2 inside
    ∙ ap f (zero-add j)
    ∙ ap (λ (b : Bool). choose b (refusal_at records windows cells j) 2) (lt-ltb j count h)

pub by-check : (lent : NightLent) (row : Row) (checked : List ℕ) → lent.count ≤ 16 → checked ≡ listed (refusal_within lent.records lent.windows lent.cells lent.count) 16 0
    → row_answer_by (get_or checked (named_in row) 2) lent row ≡ row_answer lent row
unfolding row_answer_by
by-check lent row checked few e =
    alike (is_whole row) (ltb (named_in row) lent.count) (get_or checked (named_in row) 2) (refusal_at lent.records lent.windows lent.cells (named_in row))
    (checked_step lent.records lent.shapes lent.cells (window_at lent.windows (named_in row)) row)
    (λ (n : ℕ). wrong_step n lent.records lent.shapes lent.cells (window_at lent.windows (named_in row)) row) (refused_body 10 row) (refused_body 3 row)
    (λ t. named-check lent.records lent.windows lent.cells checked lent.count (named_in row) few e (ltb→lt (named_in row) lent.count t))

-- ---- what each body's answer is

-- a row that is there whole, and names a window whose row and words are, those of cells and columns alone
pub record Named (lent : NightLent) (row : Row) : Type 0 where
  pub whole : is_whole row ≡ true
  pub window : named_in row < lent.count
  pub there : is_there lent.windows lent.cells (named_in row) ≡ true
  pub alone : is_summed (cells_in lent.cells (window_at lent.windows (named_in row))) (window_at lent.windows (named_in row)).window ≡ false

-- the same with a summary behind them
pub record NamedSummed (lent : NightLent) (row : Row) : Type 0 where
  pub whole : is_whole row ≡ true
  pub window : named_in row < lent.count
  pub there : is_there lent.windows lent.cells (named_in row) ≡ true
  pub summed : is_summed (cells_in lent.cells (window_at lent.windows (named_in row))) (window_at lent.windows (named_in row)).window ≡ true

module _ (lent : NightLent) (row : Row) where
  abbrev pub named : WindowRow
  named = window_at lent.windows (named_in row)

  abbrev pub own : List ℕ
  own = cells_in lent.cells named

  abbrev pub w : Window
  w = named.window

  abbrev pub check : ℕ
  check = own_refusal lent.records own w

  -- by the check of the words
  pub answered : is_whole row ≡ true → named_in row < lent.count → is_there lent.windows lent.cells (named_in row) ≡ true
      → row_answer lent row ≡ choose (eqb check 0) (checked_step lent.records lent.shapes lent.cells named row) (wrong_step check lent.records lent.shapes lent.cells named row)
  unfolding row_answer_by refusal_at choose
  answered whole window there = rw (whole, lt-ltb (named_in row) lent.count window, there)

  abbrev pub entry : List ℕ → FallingAnswer
  entry cells = falling_entry lent.records lent.shapes cells w (rules_in row) (body_in row) (given_in row) (age_in row) (fall_in row)

  module _ (sound : table_refusal lent.records lent.shapes ≡ 0) where
    pub passes : (cells : List ℕ) → window_refusal cells w ≡ 0 → lent_refusal lent.records lent.shapes cells w ≡ 0
    unfolding lent_refusal choose
    passes cells e = rw (sound, e)

    -- the check of a window is 0 or 2
    pub two : (cells : List ℕ) → (window_refusal cells w ≡ 0 → ⊥) → refused_body 2 row ≡ entry cells
    unfolding window_refusal falling_entry lent_refusal with_fall choose
    two cells wrong = go (window_fits cells w) refl
      where
        go : (t : Bool) → window_fits cells w ≡ t → refused_body 2 row ≡ entry cells
        go true e = absurd (wrong (rw e))
        go false e = rw (sound, e)

    pub over : (cells : List ℕ) → window_refusal cells w ≡ 0
        → falling_checked lent.records lent.shapes cells w (rules_in row) (body_in row) (given_in row) (age_in row) (fall_in row) ≡ entry cells
    over cells e = checked-alike lent.records lent.shapes cells w (rules_in row) (body_in row) (given_in row) (age_in row) (fall_in row) (passes cells e)

    -- over tables that pass: the single step's answer, its 2 included
    pub single : Named lent row → row_answer lent row ≡ single_step lent.records lent.shapes lent.cells (window_at lent.windows (named_in row)) row
    unfolding own_refusal window_refusal checked_step step_words wrong_step choose
    single k = answered k.whole k.window k.there ∙ go (window_fits own w) refl
      where
        go : (t : Bool) → window_fits own w ≡ t
            → choose (eqb check 0) (checked_step lent.records lent.shapes lent.cells named row) (wrong_step check lent.records lent.shapes lent.cells named row) ≡ entry own
        go true e = rw (k.alone, e) (over own (rw e))
        go false e = rw (k.alone, e) (two own (λ z. two_is e z))
          where
            two_is : window_fits own w ≡ false → window_refusal own w ≡ 0 → ⊥
            two_is e z = let q : ◌≡◌ {A = ℕ} 2 0 = rw e at z in omega arith

  -- a row that is not there whole: 3, whatever else is wrong
  pub not-whole : is_whole row ≡ false → row_answer lent row ≡ refused_body 3 row
  unfolding row_answer_by choose
  not-whole short = rw short

  -- no window of that number: 10, whatever is wrong with the body
  pub no-window : is_whole row ≡ true → lent.count ≤ named_in row → row_answer lent row ≡ refused_body 10 row
  unfolding row_answer_by choose
  no-window whole none = rw (whole, le-ltb (named_in row) lent.count none)

  -- a window whose row or words are not there: 2, whatever is wrong with the body
  pub not_there : is_whole row ≡ true → named_in row < lent.count → is_there lent.windows lent.cells (named_in row) ≡ false
      → row_answer lent row ≡ refused_body 2 row
  unfolding row_answer_by refusal_at wrong_step choose
  not_there whole named short = rw (whole, lt-ltb (named_in row) lent.count named, short)

-- ---- a refused body's motion and fall record are those given, its liquid none, and no sample told

abbrev pub HandsBack : Row → FallingAnswer → Type 0
HandsBack row a = 0 < a.step.refusal → HandedBack (given_in row) (fall_in row) a

refused-back : (row : Row) (n : ℕ) → HandsBack row (refused_body n row)
refused-back row n h = record { motion = refl; liquid = refl; support = refl; fall = refl }

chosen-back : (row : Row) (t : Bool) (x y : FallingAnswer) → HandsBack row x → HandsBack row y → HandsBack row (choose t x y)
unfolding choose
chosen-back row true x y p q = p
chosen-back row false x y p q = q

step_back : (row : Row) (asked : Ask Tick) → HandsBack row (with_fall (fall_in row) (given_in row) (step_answer (given_in row) asked))
unfolding with_fall choose
step_back row (refused n) h = record { motion = refl; liquid = refl; support = refl; fall = rw (ne_eqb n 0 (λ (e : n ≡ 0). omega arith)) }
step_back row (found t) h = absurd (omega arith)

-- the step over any words
any-step-back : (row : Row) (records : List ℕ) (shapes : List Float) (cells : List ℕ) (w : WindowRow) → HandsBack row (checked_step records shapes cells w row)
unfolding checked_step falling_checked
any-step-back row records shapes cells w =
    step_back row
    (unless (not (fall_fits (fall_in row))) 3
    (past_asked records shapes (step_words (cells_in cells w) w.window (rules_in row).air) w.window (rules_in row) (body_in row) (given_in row) (age_in row)))

late-back : (row : Row) (records : List ℕ) → HandsBack row (late_body records row)
unfolding late_body
late-back row records = chosen-back row _ _ _ (chosen-back row _ _ _ (refused-back row 13) (refused-back row _)) (refused-back row 3)

wrong-back : (row : Row) (n : ℕ) (records : List ℕ) (shapes : List Float) (cells : List ℕ) (w : WindowRow) → HandsBack row (wrong_step n records shapes cells w row)
unfolding wrong_step
wrong-back row n records shapes cells w =
    chosen-back row _ _ _ (chosen-back row _ _ _ (late-back row records) (any-step-back row records shapes cells w)) (refused-back row 2)

pub hands-back : (lent : NightLent) (row : Row) → HandsBack row (row_answer lent row)
unfolding row_answer_by
hands-back lent row =
    let w : WindowRow = window_at lent.windows (named_in row) in
    chosen-back row _ _ _
    (chosen-back row _ _ _
    (chosen-back row _ _ _ (any-step-back row lent.records lent.shapes lent.cells w) (wrong-back row _ lent.records lent.shapes lent.cells w))
    (refused-back row 10))
    (refused-back row 3)
