-- The tick of a scene that holds what a recorder handed over is the step of just that: an absent flap's number, which is written as zero, and the
-- window's own air state make no difference. Assumes nothing.
use mathlib.Core.Bool.{Bool, true, false, ◌&&◌}
use mathlib.Core.List.{List}
use mathlib.Core.Path.{◌≡◌, refl, sym, ap, ◌∙◌}
use Prim.Native.Nat.{ℕ}
use lib.Dec.{eqb, ltb}
use lib.Ieee.{Float, of_bits, lt, le, eq}
use borrow.Author.Tests.{eqb-true}
use Rattle.base.specs.Choose.{choose}
use Rattle.base.specs.Loop.{listed}
use Rattle.base.proofs.Every.{both}
use Rattle.floats.specs.Numbers.{zero64, size_of}
use Rattle.boxes.specs.Limits.{is_step}
use Rattle.window.specs.declared.Window.{Window}
use Rattle.window.specs.Window.{window_fits, window_refusal}
use Rattle.window.specs.Numbers.{with_air}
use Rattle.lent.specs.Lent.{lent_refusal}
use Rattle.bodies.specs.declared.BodyNumbers.{BodyNumbers}
use Rattle.bodies.specs.declared.Rules.{Rules}
use Rattle.bodies.specs.declared.MotionNumbers.{MotionNumbers}
use Rattle.bodies.specs.Body.{is_yes, flap_of, body_of}
use Rattle.bodies.specs.Numbers.{number_at, lengths_fit}
use Rattle.bodies.specs.Limits.{is_extent, is_small, measures_fit, cases_fit, rules_fit, numbers_are_fit, motion_fits, number_refusal}
use Rattle.bodies.specs.Lent.{motion_at, body_at, rules_at, body_refusal}
use Rattle.step_answers.specs.Records.{StepAnswer}
use Rattle.step.specs.Answers.{step_entry}
use Rattle.files.specs.Places.{present_word}
use Rattle.files.specs.Files.{is_scene}
use Rattle.files.specs.Contents.{Contents, contents_in}
use Rattle.part_writer.specs.Bytes.{word_in}
use Rattle.writer.specs.Contents.{is_absent, written_number, as_written}
use Rattle.writer.specs.Written.{contents_refusal, refusal_of_contents}
use Rattle.writer.proofs.Refusals.{neither, held}
use Rattle.scene.specs.Scene.{malformed, step_of_contents, step_in, tick_of}

-- ---- a body with another number for its flap

abbrev flapped : BodyNumbers → Float → BodyNumbers
flapped b x =
    record {
      width = b.width;
      height = b.height;
      offset = b.offset;
      gravity = b.gravity;
      vertical = b.vertical;
      horizontal = b.horizontal;
      step = b.step;
      flap = x;
      flaps = b.flaps;
      model = b.model;
      stage = b.stage;
      friction = b.friction;
    }

-- where none is present it means the same body
same_body : (b : BodyNumbers) (x : Float) → b.flaps ≡ 0 → body_of (flapped b x) ≡ body_of b
unfolding body_of flap_of is_yes choose
same_body b x e = rw e

zero-small : is_small zero64 ≡ true
unfolding is_small of_bits size_of lt le eq choose
zero-small = refl

-- and is refused as little
same-measures : (b : BodyNumbers) → measures_fit b ≡ true → measures_fit (flapped b zero64) ≡ true
unfolding measures_fit
same-measures b h =
    let w = is_extent b.width in
    let t = is_extent b.height in
    let o = is_small b.offset in
    let g = is_small b.gravity in
    let v = is_small b.vertical in
    let z = is_small b.horizontal in
    let f = is_small b.flap in
    let h₁ = both (w && t && o && g && v && z && f) (is_step b.step) h in
    let h₂ = both (w && t && o && g && v && z) f h₁.one in
    rw (h₂.one, zero-small) h₁.two

module _ (records : List ℕ) (rules : Rules) (b : BodyNumbers) (given : MotionNumbers) where
  same-refusal : number_refusal records rules b given ≡ 0 → number_refusal records rules (flapped b zero64) given ≡ 0
  unfolding number_refusal numbers_are_fit cases_fit choose
  same-refusal h =
      let n = held (numbers_are_fit records rules b given.on_ground) (choose (motion_fits given.feet given.velocity) 0 4) 2 h in
      let t₁ = both (measures_fit b && cases_fit b && rules_fit records rules) (ltb given.on_ground 2) n.test in
      let t₂ = both (measures_fit b && cases_fit b) (rules_fit records rules) t₁.one in
      let t₃ = both (measures_fit b) (cases_fit b) t₂.one in
      rw (same-measures b t₃.one, t₃.two, t₂.two, t₁.two) n.rest

-- ---- the step

module _ (records : List ℕ) (shapes : List Float) (cells : List ℕ) (w : Window) (rules : Rules) (b : BodyNumbers) (given : MotionNumbers) (age : ℕ) where
  step-flapped : b.flaps ≡ 0 → number_refusal records rules b given ≡ 0
      → step_entry records shapes cells w rules (flapped b zero64) given age ≡ step_entry records shapes cells w rules b given age
  unfolding step_entry
  step-flapped e h = rw (same_body b zero64 e, same-refusal records rules b given h, h)

  same-window : (air : ℕ) → lent_refusal records shapes cells (with_air w air) ≡ lent_refusal records shapes cells w
  unfolding lent_refusal window_refusal window_fits
  same-window air = refl

  step-airy : (air : ℕ) → step_entry records shapes cells (with_air w air) rules b given age ≡ step_entry records shapes cells w rules b given age
  unfolding step_entry
  step-airy air = rw (same-window air)

-- ---- of what was handed over

module _ (c : Contents) (pass : refusal_of_contents c ≡ 0) where
  fits : number_refusal c.records (rules_at c.numbers c.words) (body_at c.numbers c.words) (motion_at c.numbers c.words) ≡ 0
  unfolding contents_refusal body_refusal
  fits =
      (held (lengths_fit c.numbers c.words) (number_refusal c.records (rules_at c.numbers c.words) (body_at c.numbers c.words) (motion_at c.numbers c.words)) 2
      (neither (lent_refusal c.records c.shapes c.cells c.window) (body_refusal c.records c.numbers c.words) pass).second).rest

  -- the flap's number by whether it is present
  abbrev stepped : Bool → StepAnswer
  stepped absent =
      step_entry c.records c.shapes c.cells c.window (rules_at c.numbers c.words)
      (flapped (body_at c.numbers c.words) (choose absent zero64 (number_at c.numbers 12))) (motion_at c.numbers c.words) c.age

  by-flap : (t : Bool) → eqb (word_in c.words present_word) 0 ≡ t → stepped t ≡ step_of_contents c
  unfolding choose
  by-flap true e =
      step-flapped c.records c.shapes c.cells c.window (rules_at c.numbers c.words) (body_at c.numbers c.words) (motion_at c.numbers c.words) c.age
      (eqb-true _ _ e) fits
  by-flap false e = refl

  step-written : step_of_contents (as_written c) ≡ step_of_contents c
  unfolding listed written_number is_absent choose
  step-written = step-airy c.records c.shapes c.cells c.window _ _ _ c.age _ ∙ by-flap (eqb (word_in c.words present_word) 0) refl

  -- what `written-then-read` says of a file is all that is asked of it
  pub tick-recorded : (file : List ℕ) → is_scene file ≡ true → contents_in file ≡ as_written c → tick_of file ≡ step_of_contents c
  unfolding tick_of step_in choose
  tick-recorded file s e = rw s (ap step_of_contents e ∙ step-written)
