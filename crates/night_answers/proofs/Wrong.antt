-- What a body is answered whose window's check did not say 0. Assumes nothing.
use mathlib.Core.Path.{◌≡◌, refl}
use mathlib.Core.Bool.{true, false}
use mathlib.Core.List.{List}
use Prim.Native.Nat.{ℕ}
use lib.Ieee.{Float}
use borrow.Author.Tests.{eq-eqb, ne_eqb}
use Rattle.base.specs.Choose.{choose}
use Rattle.bodies.specs.Limits.{number_refusal}
use Rattle.fall_rule.specs.Rule.{fall_fits}
use Rattle.night_rows.specs.declared.WindowRow.{WindowRow}
use Rattle.night_rows.specs.Rows.{Row, given_in, body_in, rules_in, fall_in}
use Rattle.night_windows.specs.Windows.{cells_in, last_in}
use Rattle.night_answers.specs.Answers.{refused_body, checked_step, late_body, wrong_step}

module _ (records : List ℕ) (row : Row) where
  pub late-fit : fall_fits (fall_in row) ≡ true → number_refusal records (rules_in row) (body_in row) (given_in row) ≡ 0 → refused_body 13 row ≡ late_body records row
  unfolding late_body choose
  late-fit f e = rw (f, e)

  pub late-unfit : fall_fits (fall_in row) ≡ true → (n : ℕ) → n ≡ number_refusal records (rules_in row) (body_in row) (given_in row) → (n ≡ 0 → ⊥) → refused_body n row ≡ late_body records row
  unfolding late_body choose
  late-unfit f n e not = rw (f, ← e, ne_eqb n 0 not)

  pub late-record : fall_fits (fall_in row) ≡ false → refused_body 3 row ≡ late_body records row
  unfolding late_body choose
  late-record f = rw f

module _ (refusal : ℕ) (records : List ℕ) (shapes : List Float) (cells : List ℕ) (w : WindowRow) (row : Row) where
  pub wrong-own : refusal ≡ 13 → last_in (cells_in cells w) ≡ (rules_in row).air → late_body records row ≡ wrong_step refusal records shapes cells w row
  unfolding wrong_step choose
  wrong-own e s = rw (eq-eqb refusal 13 e, eq-eqb _ _ s)

  pub wrong-other : refusal ≡ 13 → (last_in (cells_in cells w) ≡ (rules_in row).air → ⊥) → checked_step records shapes cells w row ≡ wrong_step refusal records shapes cells w row
  unfolding wrong_step choose
  wrong-other e s = rw (eq-eqb refusal 13 e, ne_eqb _ _ s)

  pub wrong-two : (refusal ≡ 13 → ⊥) → refused_body 2 row ≡ wrong_step refusal records shapes cells w row
  unfolding wrong_step choose
  wrong-two e = rw (ne_eqb refusal 13 e)
