-- A body in lent numbers: with its lengths and room it is the step's entry, and else it is refused before any cell is asked for. Assumes nothing.
use mathlib.Core.Path.{◌≡◌, refl, ap}
use mathlib.Core.Bool.{Bool, true, false, not, ◌&&◌}
use mathlib.Core.List.{List}
use Prim.Native.Nat.{ℕ}
use lib.Dec.{eqb, leb}
use lib.ListN.{length}
use lib.Ieee.{Float}
use Rattle.base.specs.Choose.{choose}
use Rattle.base.specs.Ask.{Ask, refused}
use Rattle.base.proofs.Every.{both}
use Rattle.bodies.specs.Limits.{number_refusal}
use Rattle.bodies.specs.Numbers.{lengths_fit}
use Rattle.lent.specs.Lent.{sound}
use Rattle.summary.specs.Calls.{plain_words, summed}
use Rattle.window.specs.Numbers.{with_air}
use Rattle.step_answers.specs.declared.Tick.{Tick}
use Rattle.window.specs.declared.Window.{Window}
use Rattle.step_answers.specs.Records.{StepAnswer}
use Rattle.step.specs.Answers.{step_answer, step_entry, checked_entry, step_summed}
use Rattle.lent_steps.specs.Steps.{step_places}
use Rattle.lent_room.specs.Room.{short_of, whole_body, answer_written}
use Rattle.lent_calls.specs.Ticks.{motion_at, body_at, rules_at, body_refusal, tick_at, stepped_by, step_at, checked_at, summed_at}
use Rattle.lent_room.proofs.Short.{no_room, no-early, again, never-0}

module _ (records : List ℕ) (shapes : List Float) (cells : List ℕ) (w : Window) (numbers : List Float) (words : List ℕ) (age : ℕ) where
  module _ (places : ℕ) (whole : whole_body numbers words places ≡ true) where
    pub step-whole : step_entry records shapes cells w (rules_at numbers words) (body_at numbers words) (motion_at numbers words) age ≡ step_at records shapes cells w numbers words age places
    unfolding step_at step_entry stepped_by body_refusal choose
    step-whole = let b = both (lengths_fit numbers words) (leb step_places places) whole in rw (b.one, b.two)

    pub checked-whole : checked_entry records shapes cells w (rules_at numbers words) (body_at numbers words) (motion_at numbers words) age ≡ checked_at records shapes cells w numbers words age places
    unfolding checked_at checked_entry stepped_by body_refusal choose
    checked-whole = let b = both (lengths_fit numbers words) (leb step_places places) whole in rw (b.one, b.two)

    pub summed-whole : step_summed records shapes cells w (rules_at numbers words) (body_at numbers words) (motion_at numbers words) age ≡ summed_at records shapes cells w numbers words age places
    unfolding summed_at step_summed stepped_by body_refusal choose
    summed-whole =
        let b = both (lengths_fit numbers words) (leb step_places places) whole in
        let n = number_refusal records (rules_at numbers words) (body_at numbers words) (motion_at numbers words) in
        rw (b.one, b.two) (ap (λ (ask : Ask Tick). step_answer (motion_at numbers words) (sound records shapes (plain_words cells w) w ask)) (again (not (eqb n 0)) n (summed records cells (with_air w (rules_at numbers words).air)) (tick_at records shapes (plain_words cells w) w numbers words age)))

  module _ (lent : ℕ) (asked : Ask Tick) where
    abbrev short : StepAnswer
    short = step_answer (motion_at numbers words) (refused (short_of lent (body_refusal records numbers words)))

    lengths : lengths_fit numbers words ≡ false → eqb (body_refusal records numbers words) 0 ≡ false
    unfolding body_refusal choose
    lengths e = rw e

    cases : (places : ℕ) (a : Bool) → lengths_fit numbers words ≡ a → a && leb step_places places ≡ false → stepped_by lent asked records numbers words places ≡ short
    unfolding stepped_by
    cases places true e n = rw n (ap (step_answer (motion_at numbers words)) (no_room lent (body_refusal records numbers words) asked))
    cases places false e n = ap (step_answer (motion_at numbers words)) (no-early lent (body_refusal records numbers words) asked (leb step_places places) (lengths e))

    -- nothing is written then
    pub short-body : (out : List Float) (r : ℕ) → whole_body numbers words (length out) ≡ false → r ≡ short_of lent (body_refusal records numbers words)
        → (r ≡ (stepped_by lent asked records numbers words (length out)).refusal)
        × (out ≡ answer_written out (stepped_by lent asked records numbers words (length out)))
    unfolding answer_written choose
    short-body out r h e = rw (cases (length out) (lengths_fit numbers words) refl h, never-0 lent (body_refusal records numbers words)) (e, refl)
