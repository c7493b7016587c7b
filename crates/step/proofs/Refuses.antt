-- Which refusals a step can give: no other than 1 to 7. Assumes nothing.
use mathlib.Core.Path.{◌≡◌, refl}
use mathlib.Core.Bool.{Bool, true, false, not}
use mathlib.Core.Logic.{◌⊎◌, inl, inr}
use mathlib.Core.List.{List}
use Prim.Native.Nat.{ℕ, ◌≤◌}
use native.Mathlib.Omega.{arith}
use lib.Dec.{eqb}
use lib.Ieee.{Float}
use Rattle.base.specs.Choose.{choose}
use Rattle.base.specs.Ask.{Ask, refused, found}
use Rattle.window.specs.declared.Window.{Window}
use Rattle.table_check.specs.Check.{tables_fit}
use Rattle.window.specs.Window.{window_fits, window_refusal}
use Rattle.window.specs.Numbers.{with_air}
use Rattle.lent.specs.Lent.{unless, lent_refusal}
use Rattle.collection.proofs.Refuses.{Refuses, wider, names, either}
use Rattle.bodies.specs.declared.BodyNumbers.{BodyNumbers}
use Rattle.bodies.specs.declared.Rules.{Rules}
use Rattle.bodies.specs.declared.MotionNumbers.{MotionNumbers}
use Rattle.bodies.specs.Limits.{numbers_are_fit, motion_fits, number_refusal}
use Rattle.step_answers.specs.declared.Tick.{Tick}
use Rattle.ticks.proofs.Refuses.{FiveToSeven, core-refuses}
use Rattle.step.specs.Answers.{step_answer, step_asked, step_entry}

-- ---- the entry: 1 to 7
abbrev pub Named : ℕ → Type 0
Named n = (1 ≤ n) × (n ≤ 7)

from-core : (n : ℕ) → FiveToSeven n → Named n
from-core n k = (omega arith, omega arith)

-- a check answers 0 or such a number, and what is asked then refuses by such a number
checked-refuses : {A : Type 0} (n : ℕ) (ask : Ask A) → (n ≡ 0) ⊎ Named n → Refuses Named ask → Refuses Named (unless (not (eqb n 0)) n ask)
unfolding choose
checked-refuses n ask (inl e) h = rw e h
checked-refuses n ask (inr k) h = either (not (eqb n 0)) _ _ (names n k) h

lent-chosen : (tables window : Bool) → let n : ℕ = choose (eqb (choose tables 0 1) 0) (choose window 0 2) (choose tables 0 1) in (n ≡ 0) ⊎ Named n
unfolding choose
lent-chosen true true = inl refl
lent-chosen true false = inr (omega arith, omega arith)
lent-chosen false window = inr (omega arith, omega arith)

numbers-chosen : (numbers motion : Bool) → let n : ℕ = choose numbers (choose motion 0 4) 3 in (n ≡ 0) ⊎ Named n
unfolding choose
numbers-chosen true true = inl refl
numbers-chosen true false = inr (omega arith, omega arith)
numbers-chosen false motion = inr (omega arith, omega arith)

module _ (records : List ℕ) (shapes : List Float) (cells : List ℕ) (w : Window) (rules : Rules) (body : BodyNumbers) (given : MotionNumbers) (age : ℕ) where
  lent-number : (lent_refusal records shapes cells w ≡ 0) ⊎ Named (lent_refusal records shapes cells w)
  unfolding lent_refusal window_refusal
  lent-number = lent-chosen (tables_fit records shapes) (window_fits cells w)

  given-number : (number_refusal records rules body given ≡ 0) ⊎ Named (number_refusal records rules body given)
  unfolding number_refusal
  given-number = numbers-chosen (numbers_are_fit records rules body given.on_ground) (motion_fits given.feet given.velocity)

  pub step-refuses : Refuses Named (step_asked records shapes cells w rules body given age)
  step-refuses =
      checked-refuses _ _ lent-number
      (checked-refuses _ _ given-number (wider _ from-core (core-refuses cells (with_air w rules.air) records shapes rules _ _ age)))

  of-answer : (m : Ask Tick) → Refuses Named m → ((step_answer given m).refusal ≡ 0) ⊎ Named (step_answer given m).refusal
  of-answer (refused n) h = inr (h.only n refl)
  of-answer (found t) h = inl refl

  -- a step is accepted, or refused by one of 1 to 7
  pub step-refusal : ((step_entry records shapes cells w rules body given age).refusal ≡ 0) ⊎ Named (step_entry records shapes cells w rules body given age).refusal
  unfolding step_entry
  step-refusal = of-answer (step_asked records shapes cells w rules body given age) step-refuses
