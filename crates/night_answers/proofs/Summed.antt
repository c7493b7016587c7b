-- What a body is answered whose window lends a summary: the single step's over that summary where it names its air state, and else the single
-- step's over cells and columns. Assumes nothing.
use mathlib.Core.Path.{◌≡◌, refl, sym, ap, ◌∙◌}
use mathlib.Core.Bool.{Bool, true, false, not, ◌&&◌}
use mathlib.Core.List.{List}
use Prim.Native.Nat.{ℕ, ◌+◌, ◌-◌, ◌≤◌}
use native.Mathlib.Omega.{arith}
use lib.Dec.{eqb}
use lib.ListN.{length, take}
use lib.Seq.{length-take-le, take-take}
use borrow.Author.Tests.{eq-eqb, ne_eqb}
use Rattle.base.specs.Choose.{choose}
use Rattle.base.specs.Ask.{Ask, refused}
use Rattle.table_check.specs.Check.{table_refusal}
use Rattle.window.specs.declared.Window.{Window}
use Rattle.window.specs.Window.{sizes_fit, window_fits, window_refusal}
use Rattle.window.specs.Numbers.{with_air}
use Rattle.lent.specs.Lent.{unless, sound, lent_refusal}
use Rattle.groups.specs.Groups.{group_count}
use Rattle.groups.specs.Summary.{words_before, has_summary, agrees, summary_refusal}
use Rattle.groups.proofs.Sets.{Has, has}
use Rattle.summary.specs.Calls.{plain_words}
use Rattle.bodies.specs.Limits.{number_refusal}
use Rattle.step_answers.specs.declared.Tick.{Tick}
use Rattle.step.specs.Answers.{step_answer, checked_asked, fitting, summed_asked}
use Rattle.step.proofs.Summed.{past-plain}
use Rattle.step_answers.specs.Records.{FallingAnswer}
use Rattle.fall_rule.specs.Rule.{fall_fits}
use Rattle.falls.specs.Answers.{with_fall, falling_checked, falling_entry, falling_summed}
use Rattle.falls.proofs.Laws.{summed-alike}
use Rattle.night_rows.specs.Rows.{Row, age_in, given_in, body_in, rules_in, fall_in}
use Rattle.night_windows.specs.Windows.{front, last_in, is_summed, own_refusal, step_words}
use Rattle.night_answers.specs.Answers.{NightLent, refused_body, checked_step, late_body, wrong_step, row_answer}
use Rattle.night_answers.proofs.Bodies.{NamedSummed, named, own, w, check, answered, entry, passes, two, over}

module _ (lent : NightLent) (row : Row) (k : NamedSummed lent row) (sound-tables : table_refusal lent.records lent.shapes ≡ 0) where
  abbrev mine : List ℕ
  mine = own lent row

  abbrev at : Window
  at = w lent row

  abbrev air : ℕ
  air = (rules_in row).air

  there : has_summary (front mine) at ≡ true
  unfolding is_summed
  there = k.summed

  -- an air state does not tell whether there is a summary
  there-of : (n : ℕ) → has_summary (front mine) (with_air at n) ≡ true
  unfolding has_summary is_summed
  there-of n = k.summed

  front_long : length (front mine) ≡ length mine - 1
  front_long = length-take-le (length mine - 1) mine (omega arith)

  front-plain : plain_words (front mine) at ≡ plain_words mine at
  unfolding plain_words choose
  front-plain =
      let h = has (front mine) at there in
      let l = h.long in
      let f = front_long in
      rw h.sizes (take-take (words_before at.sizes) (length mine - 1) mine (omega arith))

  -- ---- what the check says, by the cells and columns and by the words of the summary
  abbrev cells : List ℕ
  cells = plain_words mine at

  check-2 : window_fits cells at ≡ false → check lent row ≡ 2
  unfolding own_refusal window_refusal choose
  check-2 e = rw (k.summed, e)

  check-by : window_fits cells at ≡ true → check lent row ≡ summary_refusal lent.records (front mine) (with_air at (last_in mine))
  unfolding own_refusal window_refusal choose
  check-by e = rw (k.summed, e)

  fine : window_fits cells at ≡ true → window_refusal cells at ≡ 0
  unfolding window_refusal choose
  fine e = rw e

  bad : window_fits cells at ≡ false → window_refusal cells at ≡ 0 → ⊥
  unfolding window_refusal choose
  bad e z = let q : ◌≡◌ {A = ℕ} 2 0 = rw e at z in omega arith

  said : (a : Bool) → agrees lent.records (front mine) (with_air at (last_in mine)) ≡ a → summary_refusal lent.records (front mine) (with_air at (last_in mine)) ≡ choose a 0 13
  unfolding summary_refusal choose
  said a e = rw (there-of (last_in mine), e)

  -- ---- a body of another air state
  module _ (other : last_in mine ≡ air → ⊥) where
    stepped : window_fits cells at ≡ true → checked_step lent.records lent.shapes lent.cells (named lent row) row ≡ entry lent row cells
    unfolding checked_step step_words choose
    stepped e = rw (k.summed, ne_eqb (last_in mine) air other) (over lent row sound-tables cells (fine e))

    pub by-cells : row_answer lent row ≡ entry lent row cells
    unfolding wrong_step choose
    by-cells = answered lent row k.whole k.window k.there ∙ go (window_fits cells at) (agrees lent.records (front mine) (with_air at (last_in mine))) refl refl
      where
        go : (t a : Bool) → window_fits cells at ≡ t → agrees lent.records (front mine) (with_air at (last_in mine)) ≡ a
            → choose (eqb (check lent row) 0) (checked_step lent.records lent.shapes lent.cells (named lent row) row) (wrong_step (check lent row) lent.records lent.shapes lent.cells (named lent row) row) ≡ entry lent row cells
        go true true e f = rw (check-by e ∙ said true f) (stepped e)
        go true false e f = rw (check-by e ∙ said false f, ne_eqb (last_in mine) air other) (stepped e)
        go false a e f = rw (check-2 e) (two lent row sound-tables cells (bad e))

  -- ---- a body of its air state
  module _ (same : last_in mine ≡ air) where
    abbrev over-summary : FallingAnswer
    over-summary = falling_summed lent.records lent.shapes (front mine) at (rules_in row) (body_in row) (given_in row) (age_in row) (fall_in row)

    abbrev summary : ℕ
    summary = summary_refusal lent.records (front mine) (with_air at air)

    by-air : summary_refusal lent.records (front mine) (with_air at (last_in mine)) ≡ summary
    by-air = ap (λ (n : ℕ). summary_refusal lent.records (front mine) (with_air at n)) same

    -- it agrees
    true-one : window_fits cells at ≡ true → summary ≡ 0 → checked_step lent.records lent.shapes lent.cells (named lent row) row ≡ over-summary
    unfolding checked_step step_words falling_checked falling_entry choose
    true-one e h =
        rw (k.summed, eq-eqb (last_in mine) air same)
        (ap (λ (ask : Ask Tick). with_fall (fall_in row) (given_in row) (step_answer (given_in row) (unless (not (fall_fits (fall_in row))) 3 ask))) (past-plain lent.records lent.shapes (front mine) at (rules_in row) (body_in row) (given_in row) (age_in row) h)
        ∙ sym whole)
      where
        lent-0 : lent_refusal lent.records lent.shapes (plain_words (front mine) at) at ≡ 0
        lent-0 = ap (λ (l : List ℕ). lent_refusal lent.records lent.shapes l at) front-plain ∙ passes lent row sound-tables cells (fine e)

        whole : over-summary ≡ with_fall (fall_in row) (given_in row) (step_answer (given_in row) (unless (not (fall_fits (fall_in row))) 3 (checked_asked lent.records lent.shapes (plain_words (front mine) at) at (rules_in row) (body_in row) (given_in row) (age_in row))))
        whole = summed-alike lent.records lent.shapes (front mine) at (rules_in row) (body_in row) (given_in row) (age_in row) (fall_in row) h ∙ (rw lent-0)

    -- it does not: 13, after the body's own 3 and 4
    late : (fits : Bool) (n : ℕ) (ask : Ask Tick)
        → choose fits (choose (eqb n 0) (refused_body 13 row) (refused_body n row)) (refused_body 3 row)
        ≡ with_fall (fall_in row) (given_in row) (step_answer (given_in row) (unless (not fits) 3 (unless (not (eqb n 0)) n (refused 13))))
    unfolding with_fall choose
    late false n ask = refl
    late true n ask = by (eqb n 0) refl
      where
        by : (t : Bool) → eqb n 0 ≡ t
            → choose t (refused_body 13 row) (refused_body n row) ≡ with_fall (fall_in row) (given_in row) (step_answer (given_in row) (unless (not t) n (refused 13)))
        by true e = refl
        by false e = rw e

    wrong-one : window_fits cells at ≡ true → summary ≡ 13 → late_body lent.records row ≡ over-summary
    unfolding late_body falling_summed choose
    wrong-one e h =
        rw (ap (λ (l : List ℕ). lent_refusal lent.records lent.shapes l at) front-plain ∙ passes lent row sound-tables cells (fine e), h)
        (late (fall_fits (fall_in row)) (number_refusal lent.records (rules_in row) (body_in row) (given_in row)) (refused 13))

    no-window : window_fits cells at ≡ false → refused_body 2 row ≡ over-summary
    unfolding falling_summed lent_refusal window_refusal with_fall choose
    no-window e = rw (front-plain, sound-tables, e)

    pub by-summary : row_answer lent row ≡ over-summary
    unfolding wrong_step choose
    by-summary = answered lent row k.whole k.window k.there ∙ go (window_fits cells at) (agrees lent.records (front mine) (with_air at (last_in mine))) refl refl
      where
        go : (t a : Bool) → window_fits cells at ≡ t → agrees lent.records (front mine) (with_air at (last_in mine)) ≡ a
            → choose (eqb (check lent row) 0) (checked_step lent.records lent.shapes lent.cells (named lent row) row) (wrong_step (check lent row) lent.records lent.shapes lent.cells (named lent row) row) ≡ over-summary
        go true true e f = rw (check-by e ∙ said true f) (true-one e (sym by-air ∙ said true f))
        go true false e f = rw (check-by e ∙ said false f, eq-eqb (last_in mine) air same) (wrong-one e (sym by-air ∙ said false f))
        go false a e f = rw (check-2 e) (no-window e)
