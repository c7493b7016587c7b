-- With a summary that passes its check the step over it is the plain step over cells and columns: its answer is the same with it and without.
-- Assumes nothing.
use mathlib.Core.Path.{◌≡◌, refl, ap, ◌∙◌}
use mathlib.Core.Bool.{Bool, true, false, not}
use mathlib.Core.List.{List}
use Prim.Native.Nat.{ℕ}
use lib.Dec.{eqb}
use lib.Ieee.{Float}
use Rattle.base.specs.Choose.{choose}
use Rattle.base.specs.Ask.{Ask}
use Rattle.lent.specs.Lent.{unless}
use Rattle.window.specs.declared.Pos.{Pos}
use Rattle.window.specs.declared.Window.{Window}
use Rattle.window.specs.Look.{Block, look_at}
use Rattle.window.specs.Numbers.{with_air}
use Rattle.groups.specs.Summary.{summary_refusal}
use Rattle.groups.proofs.Sets.{has}
use Rattle.summary.specs.Calls.{plain_words}
use Rattle.summary.proofs.Agree.{kept, plain-air, look-plain}
use Rattle.bodies.specs.declared.BodyNumbers.{BodyNumbers}
use Rattle.bodies.specs.declared.Rules.{Rules}
use Rattle.bodies.specs.declared.MotionNumbers.{MotionNumbers}
use Rattle.bodies.specs.Body.{body_of, motion_of}
use Rattle.bodies.specs.Limits.{number_refusal}
use Rattle.ticks.specs.Step.{step_body_sensed}
use Rattle.step.specs.Answers.{step_answer, fitting, checked_asked, past_asked, checked_entry, summed_asked, step_summed, step_entry}
use Rattle.step.proofs.Laws.{past-with}

module _ (records : List ℕ) (shapes : List Float) (words : List ℕ) (w : Window) (rules : Rules) (body : BodyNumbers) (given : MotionNumbers) (age : ℕ) where
  module _ (h : summary_refusal records words (with_air w rules.air) ≡ 0) where
    look-alike : (p : Pos) → look_at words (with_air w rules.air) p ≡ look_at (plain_words words w) (with_air w rules.air) p
    look-alike p =
        look-plain words (with_air w rules.air) (has words (with_air w rules.air) (kept records words (with_air w rules.air) h).there) p
        ∙ ap (λ (cells : List ℕ). look_at cells (with_air w rules.air) p) (plain-air words w rules.air)

    pub past-plain : past_asked records shapes words w rules body given age ≡ checked_asked records shapes (plain_words words w) w rules body given age
    past-plain =
        past-with records shapes words w rules body given age (kept records words (with_air w rules.air) h)
        ∙ ap (λ (look : Pos → Ask Block). fitting records rules body given (step_body_sensed look records shapes rules (body_of body) (motion_of given) age)) (λ i p. look-alike p i)

    -- of the checked step: over the words with the summary, and over those of cells and columns
    pub checked-summed : checked_entry records shapes words w rules body given age ≡ step_answer given (checked_asked records shapes (plain_words words w) w rules body given age)
    unfolding checked_entry
    checked-summed = ap (step_answer given) past-plain

    twice : {A : Type 0} (t : Bool) (n : ℕ) (ask : Ask A) → unless t n (unless t n ask) ≡ unless t n ask
    unfolding choose
    twice true n ask = refl
    twice false n ask = refl

    pub asked-summed : summed_asked records shapes words w rules body given age ≡ checked_asked records shapes (plain_words words w) w rules body given age
    unfolding choose
    asked-summed =
        let n = number_refusal records rules body given in
        (rw h) ∙ twice (not (eqb n 0)) n (step_body_sensed (look_at (plain_words words w) (with_air w rules.air)) records shapes rules (body_of body) (motion_of given) age)

    -- of the step: with it and without
    pub summed-alike : step_summed records shapes words w rules body given age ≡ step_entry records shapes (plain_words words w) w rules body given age
    unfolding step_summed step_entry
    summed-alike = rw asked-summed
