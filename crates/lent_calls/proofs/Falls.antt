-- A body with its fall record in lent numbers: with its lengths and room it is the entry of the step with a record, and else it is refused before
-- any cell is asked for. Assumes nothing.
use mathlib.Core.Path.{◌≡◌, refl, ap, ◌∙◌}
use mathlib.Core.Bool.{Bool, true, false, not, ◌&&◌}
use mathlib.Core.List.{List}
use Prim.Native.Nat.{ℕ}
use lib.Dec.{eqb, leb}
use lib.ListN.{length}
use lib.Ieee.{Float}
use Rattle.base.specs.Choose.{choose}
use Rattle.base.specs.Ask.{Ask, refused}
use Rattle.base.proofs.Every.{both}
use Rattle.bodies.specs.Limits.{number_refusal}
use Rattle.bodies.specs.Numbers.{lengths_fit}
use Rattle.window.specs.declared.Window.{Window}
use Rattle.lent.specs.Lent.{unless, sound}
use Rattle.summary.specs.Calls.{plain_words, summed}
use Rattle.window.specs.Numbers.{with_air}
use Rattle.step_answers.specs.declared.Tick.{Tick}
use Rattle.step.specs.Answers.{step_answer}
use Rattle.fall_rule.specs.declared.Fall.{Fall}
use Rattle.step_answers.specs.Records.{FallingAnswer}
use Rattle.fall_rule.specs.Rule.{fall_fits}
use Rattle.falls.specs.Answers.{with_fall, falling_entry, falling_summed}
use Rattle.lent_steps.specs.Falling.{falling_places, falling_written}
use Rattle.lent_room.specs.Room.{short_of, whole_falling}
use Rattle.lent_calls.specs.Ticks.{motion_at, body_at, rules_at, body_refusal, tick_at, summed_tick}
use Rattle.lent_calls.specs.Falling.{falling_refusal, falling_by, falling_at, falling_summed_at}
use Rattle.lent_room.proofs.Short.{no_room, no-early, again, never-0}

-- the record's 3, then the body's 3 and 4, are one number
threes : {A : Type 0} (fits : Bool) (n : ℕ) (ask : Ask A) → choose (not fits) (refused 3) (choose (not (eqb n 0)) (refused n) ask)
    ≡ choose (not (eqb (choose fits n 3) 0)) (refused (choose fits n 3)) ask
unfolding choose
threes true n ask = refl
threes false n ask = refl

module _ (records : List ℕ) (numbers : List Float) (words : List ℕ) (fall : Fall) where
  abbrev early : ℕ
  early = falling_refusal records numbers words fall

  abbrev told : Ask Tick → FallingAnswer
  told ask = with_fall fall (motion_at numbers words) (step_answer (motion_at numbers words) ask)

  module _ (shapes : List Float) (cells : List ℕ) (w : Window) (age : ℕ) (places : ℕ) (whole : whole_falling numbers words places ≡ true) where
    abbrev unfit : ℕ
    unfit = number_refusal records (rules_at numbers words) (body_at numbers words) (motion_at numbers words)

    pub falling-whole :
        falling_entry records shapes cells w (rules_at numbers words) (body_at numbers words) (motion_at numbers words) age fall
        ≡ falling_at records shapes cells w numbers words age fall places
    unfolding falling_at falling_entry falling_by falling_refusal body_refusal choose
    falling-whole =
        let b = both (lengths_fit numbers words) (leb falling_places places) whole in
        rw (b.one, b.two) (ap (λ (ask : Ask Tick). told (sound records shapes cells w ask)) (threes (fall_fits fall) unfit (tick_at records shapes cells w numbers words age)))

    pub summed-whole :
        falling_summed records shapes cells w (rules_at numbers words) (body_at numbers words) (motion_at numbers words) age fall
        ≡ falling_summed_at records shapes cells w numbers words age fall places
    unfolding falling_summed_at falling_summed falling_by falling_refusal body_refusal choose
    summed-whole =
        let b = both (lengths_fit numbers words) (leb falling_places places) whole in
        let tick = tick_at records shapes (plain_words cells w) w numbers words age in
        let once = again (not (eqb unfit 0)) unfit (summed records cells (with_air w (rules_at numbers words).air)) tick in
        rw (b.one, b.two)
        (ap (λ (ask : Ask Tick). told (sound records shapes (plain_words cells w) w ask))
        (ap (λ (ask : Ask Tick). unless (not (fall_fits fall)) 3 ask) once ∙ threes (fall_fits fall) unfit (summed_tick records shapes cells w numbers words age)))

  lengths : lengths_fit numbers words ≡ false → eqb early 0 ≡ false
  unfolding falling_refusal body_refusal choose
  lengths e = rw e (either (fall_fits fall)) where
    either : (b : Bool) → eqb (choose b 3 3) 0 ≡ false
    either true = refl
    either false = refl

  module _ (lent : ℕ) (asked : Ask Tick) where
    cases : (places : ℕ) (a : Bool) → lengths_fit numbers words ≡ a → a && leb falling_places places ≡ false
        → falling_by lent asked records numbers words fall places ≡ told (refused (short_of lent early))
    unfolding falling_by
    cases places true e n = rw n (ap told (no_room lent early asked))
    cases places false e n = ap told (no-early lent early asked (leb falling_places places) (lengths e))

    -- nothing is written then
    pub short-falling : (out : List Float) (r : ℕ) → whole_falling numbers words (length out) ≡ false → r ≡ short_of lent early
        → (r ≡ (falling_by lent asked records numbers words fall (length out)).step.refusal)
        × (out ≡ falling_written out (falling_by lent asked records numbers words fall (length out)))
    unfolding falling_written with_fall choose
    short-falling out r h e = rw (cases (length out) (lengths_fit numbers words) refl h, never-0 lent early) (e, refl)
