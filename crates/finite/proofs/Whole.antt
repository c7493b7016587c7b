-- Request Eleven holds: `eleven`. The tests for 3 and 4 bound what a step is given, and Steps what it works out of that. Assumes nothing.
use mathlib.Core.Path.{◌≡◌, refl}
use mathlib.Core.Bool.{Bool, true, false}
use mathlib.Core.List.{List}
use Prim.Native.Nat.{ℕ, ◌<◌}
use native.Mathlib.Omega.{arith}
use lib.Dec.{eqb, lit≤}
use lib.Ieee.{Float, lt}
use Rattle.base.specs.Choose.{choose}
use Rattle.base.specs.Ask.{Ask, refused, found}
use Rattle.base.proofs.Every.{both, and-true}
use Rattle.base.proofs.Bounds.{Within}
use Rattle.floats.specs.Numbers.{zero64, is_within_limit}
use Rattle.boxes.specs.Limits.{two_to}
use Rattle.table_check.specs.Check.{tables_fit}
use Rattle.window.specs.declared.Pos.{Pos}
use Rattle.window.specs.declared.Window.{Window}
use Rattle.window.specs.Window.{window_refusal}
use Rattle.window.specs.Look.{Block, look_at}
use Rattle.passing.specs.Passing.{passes}
use Rattle.sweeps.specs.Lists.{cap_of}
use Rattle.window.specs.Numbers.{with_air}
use Rattle.lent.specs.Lent.{lent_refusal}
use Rattle.collection.proofs.Refuses as may
use Rattle.std.specs.Prelude as option
use Rattle.bodies.specs.declared.BodyNumbers.{BodyNumbers}
use Rattle.bodies.specs.declared.Rules.{Rules}
use Rattle.bodies.specs.declared.MotionNumbers.{MotionNumbers}
use Rattle.bodies.specs.Body.{is_yes, flap_of, body_of, motion_of}
use Rattle.bodies.specs.Limits.{is_extent, is_small, numbers_are_fit, is_position, is_velocity, motion_fits, number_refusal}
use Rattle.bodies.proofs.Fits.{Measured, Ruled, fitted}
use Rattle.step_answers.specs.declared.Tick.{Tick}
use Rattle.through.specs.Through.{move_aabb}
use Rattle.ticks.specs.Step.{step_body_by, step_body_sensed, move_past, step_body_past}
use Rattle.ticks.proofs.Refuses.{core-refuses, past-refuses}
use Rattle.ticks.proofs.Tells.{Finds}
use Rattle.step.specs.Answers.{step_answer, checked_asked, past_asked, checked_entry, step_entry}
use Rattle.finite.specs.Finite.{farthest_step, fastest_step, is_near_motion, StepIsNear, Eleven}
use Rattle.finite.proofs.Limits.{from-test}
use Rattle.finite.proofs.Asked.{checked}
use Rattle.finite.proofs.Moves.{Some, checked-some, vec-test, vec-near, step-test, over-near, entry-near, list-near}
use Rattle.finite.proofs.Steps.{Flaps, BodyFits, RulesFit, MotionFits, Steps, Mover, Moving, plain-moving, past-moving, step-finds}

-- ---- what the tests say
extent : (x : Float) → is_extent x ≡ true → Within x 16
unfolding is_extent
extent x h = from-test x 4 (both (is_within_limit x (two_to 4)) (lt zero64 x) h).one

small : (x : Float) → is_small x ≡ true → Within x 16
unfolding is_small
small x h = from-test x 4 h

flaps-fit : (b : BodyNumbers) → Within b.flap 16 → Flaps (flap_of b.flaps b.flap)
unfolding flap_of choose
flaps-fit b f = go (is_yes b.flaps)
  where
    go : (t : Bool) → Flaps (choose t (option.Some b.flap) option.None)
    go true = record { is = f }
    go false = record { is = tt }

body-fits : (b : BodyNumbers) → Measured b → BodyFits (body_of b)
unfolding body_of
body-fits b m =
    record {
      width = extent b.width m.width;
      height = extent b.height m.height;
      gravity = small b.gravity m.gravity;
      vertical = small b.vertical m.vertical;
      horizontal = small b.horizontal m.horizontal;
      step = step-test b.step m.step;
      flap = flaps-fit b (small b.flap m.flap);
    }

rules-fit : (r : Rules) → Ruled r → RulesFit r
rules-fit r u =
    record { friction = small r.friction u.friction; gravity = small r.gravity u.gravity; water = small r.water u.water; lava = small r.lava u.lava }

motion-fits : (given : MotionNumbers) → motion_fits given.feet given.velocity ≡ true → MotionFits (motion_of given)
unfolding motion_fits is_position is_velocity motion_of
motion-fits given h =
    let m = both (is_position given.feet) (is_velocity given.velocity) h in
    record { feet = vec-test given.feet 25 m.one; velocity = vec-test given.velocity 6 m.two }

-- neither 3 nor 4
record Taken (a b : Bool) : Type 0 where
  numbers : a ≡ true
  motion : b ≡ true

taken : (a b : Bool) → ◌≡◌ {A = ℕ} (choose a (choose b 0 4) 3) 0 → Taken a b
unfolding choose
taken true true e = record { numbers = refl; motion = refl }
taken true false e = absurd (omega arith)
taken false b e = absurd (omega arith)

-- not 1
sound-tables : (t : Bool) (n : ℕ) → ◌≡◌ {A = ℕ} (choose (eqb (choose t 0 1) 0) n (choose t 0 1)) 0 → t ≡ true
unfolding choose
sound-tables true n e = refl
sound-tables false n e = absurd (omega arith)

tables-fit : (records : List ℕ) (shapes : List Float) (cells : List ℕ) (w : Window) → lent_refusal records shapes cells w ≡ 0 → tables_fit records shapes ≡ true
unfolding lent_refusal
tables-fit records shapes cells w e = sound-tables (tables_fit records shapes) (window_refusal cells w) e

-- ---- the step
module _ (move : Mover) (within : Moving move) (look : Pos → Ask Block) (records : List ℕ) (shapes : List Float) (rules : Rules) (body : BodyNumbers) (given : MotionNumbers) (age : ℕ) where
  -- over any look-up, by any mover that keeps within bounds
  core-bounded : tables_fit records shapes ≡ true → number_refusal records rules body given ≡ 0 → Finds Steps (step_body_by move look records rules (body_of body) (motion_of given) age)
  unfolding number_refusal
  core-bounded fit e =
      let a = taken (numbers_are_fit records rules body given.on_ground) (motion_fits given.feet given.velocity) e in
      let f = fitted records rules body given.on_ground a.numbers in
      step-finds look records shapes fit rules (body_of body) (rules-fit rules f.rules) (body-fits body f.body) (motion_of given) age (motion-fits given a.motion) move within

answer-near : (given : MotionNumbers) (asked : Ask Tick) → Finds Steps asked → may.Refuses Some asked → StepIsNear (step_answer given asked)
unfolding is_near_motion
answer-near given (refused k) h g e = let l : 0 < k = g.only k refl in absurd (omega arith)
answer-near given (found t) h g e =
    let s : Steps t = h.each t refl in
    and-true _ _ (vec-near t.motion.feet farthest_step farthest_step s.feet (lit≤ tt)) (vec-near t.motion.velocity fastest_step fastest_step s.velocity (lit≤ tt))

module _ (records : List ℕ) (shapes : List Float) (cells : List ℕ) (w : Window) (rules : Rules) (body : BodyNumbers) (given : MotionNumbers) (age : ℕ) where
  abbrev core : Ask Tick
  core = step_body_sensed (look_at cells (with_air w rules.air)) records shapes rules (body_of body) (motion_of given) age

  abbrev asked : Ask Tick
  asked = checked_asked records shapes cells w rules body given age

  asked-bounded : tables_fit records shapes ≡ true → Finds Steps asked
  unfolding step_body_sensed
  asked-bounded fit =
      checked (number_refusal records rules body given) core
      (core-bounded (move_aabb (cap_of rules.cap) (look_at cells (with_air w rules.air)) records shapes) (plain-moving (cap_of rules.cap) (look_at cells (with_air w rules.air)) records shapes) (look_at cells (with_air w rules.air)) records shapes rules body given age fit)

  -- the same by the summary behind the words
  abbrev past : Ask Tick
  past = step_body_past cells (with_air w rules.air) records shapes rules (body_of body) (motion_of given) age

  past-bounded : tables_fit records shapes ≡ true → Finds Steps (past_asked records shapes cells w rules body given age)
  past-bounded fit =
      checked (number_refusal records rules body given) past
      (core-bounded (move_past rules.cap cells (with_air w rules.air) records shapes) (past-moving (cap_of rules.cap) (passes cells (with_air w rules.air)) (look_at cells (with_air w rules.air)) records shapes) (look_at cells (with_air w rules.air)) records shapes rules body given age fit)

  past-some : may.Refuses Some (past_asked records shapes cells w rules body given age)
  past-some = checked-some (number_refusal records rules body given) past (may.wider past (λ k h. omega arith) (past-refuses cells (with_air w rules.air) records shapes rules (body_of body) (motion_of given) age))

  asked-some : may.Refuses Some asked
  asked-some = checked-some (number_refusal records rules body given) core (may.wider core (λ k h. omega arith) (core-refuses cells (with_air w rules.air) records shapes rules (body_of body) (motion_of given) age))

  pub checked-near : tables_fit records shapes ≡ true → StepIsNear (checked_entry records shapes cells w rules body given age)
  unfolding checked_entry
  checked-near fit = answer-near given (past_asked records shapes cells w rules body given age) (past-bounded fit) past-some

  pub step-near : StepIsNear (step_entry records shapes cells w rules body given age)
  unfolding step_entry
  step-near =
      answer-near given _ (checked (lent_refusal records shapes cells w) asked (λ e. asked-bounded (tables-fit records shapes cells w e)))
      (checked-some (lent_refusal records shapes cells w) asked asked-some)

pub eleven : Eleven
eleven =
    record {
      over = λ boxes aabb delta step grounded B D U. over-near aabb delta step grounded B D U boxes;
      list = list-near;
      move = entry-near;
      step = step-near;
      checked = checked-near;
    }
