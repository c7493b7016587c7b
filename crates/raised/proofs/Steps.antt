-- The step, without and with a fall record: of the rules it is the move alone that reads the cap. Assumes nothing.
use mathlib.Core.Path.{◌≡◌, refl, sym, ap, ◌∙◌}
use mathlib.Core.Bool.{Bool, true, false, not, ◌&&◌}
use mathlib.Core.Logic.{◌⊎◌, inl, inr}
use mathlib.Core.List.{List}
use Prim.Native.Nat.{ℕ, ◌≤◌}
use lib.Ieee.{Float}
use Rattle.base.specs.Choose.{choose}
use Rattle.base.specs.Ask.{Ask, refused, found, ◌>>=◌}
use Rattle.boxes.specs.declared.Vec3.{Vec3}
use Rattle.boxes.specs.declared.Aabb.{Aabb}
use Rattle.boxes.specs.Boxes.{from_feet, feet_of}
use Rattle.sweeps.specs.declared.MoveResult.{MoveResult}
use Rattle.sweeps.specs.Lists.{is_cap, cap_of}
use Rattle.tables.specs.declared.LiquidKind.{LiquidKind}
use Rattle.tables.specs.declared.LiquidKind.TheVariants.{None, Water, Lava}
use Rattle.window.specs.declared.Pos.{Pos}
use Rattle.window.specs.declared.Window.{Window}
use Rattle.window.specs.Look.{Block, look_at}
use Rattle.window.specs.Numbers.{with_air}
use Rattle.lent.specs.Lent.{lent_refusal}
use Rattle.groups.specs.Summary.{summary_refusal}
use Rattle.summary.specs.Calls.{plain_words}
use Rattle.bodies.specs.declared.Body.{Body}
use Rattle.bodies.specs.declared.BodyNumbers.{BodyNumbers}
use Rattle.bodies.specs.declared.Ground.{Ground}
use Rattle.bodies.specs.declared.Ground.TheVariants as grounds
use Rattle.bodies.specs.declared.Motion.{Motion}
use Rattle.bodies.specs.declared.MotionNumbers.{MotionNumbers}
use Rattle.bodies.specs.declared.Rules.{Rules}
use Rattle.bodies.specs.Body.{body_of, motion_of, is_living, is_falling_block, with_cap}
use Rattle.bodies.specs.Limits.{rules_fit, numbers_are_fit, number_refusal}
use Rattle.drags.specs.declared.Support.{Support}
use Rattle.drags.specs.Drags.{sunk, apply_living_drag, kept_after, pulled}
use Rattle.samples.specs.Samples.{supporting_friction, living_sample, living_support, ground_support, support_after}
use Rattle.through.specs.Through.{move_aabb}
use Rattle.step_answers.specs.declared.Tick.{Tick}
use Rattle.ticks.specs.Step.{tick_after, after_move, move_on_by, tick_begins, senses, step_body_by, step_body_sensed}
use Rattle.step_answers.specs.Records.{StepAnswer}
use Rattle.step.specs.Answers.{step_answer, fitting, checked_asked, step_entry, summed_asked, step_summed}
use Rattle.fall_rule.specs.declared.Fall.{Fall}
use Rattle.step_answers.specs.Records.{FallingAnswer}
use Rattle.fall_rule.specs.Rule.{fall_fits}
use Rattle.falls.specs.Answers.{with_fall, falling_entry, falling_summed}
use Rattle.raised.specs.Raised.{Raised, Alters6}
use Rattle.raised.proofs.Asks.{Beside, alike, before, after, told, chosen, refused-alike}
use Rattle.raised.proofs.Lists.{move-raised}

module _ (rules : Rules) (c d : ℕ) where
  abbrev lower : Rules
  lower = with_cap rules c

  abbrev upper : Rules
  upper = with_cap rules d

  -- ---- nothing else of a tick reads the cap
  module _ (look : Pos → Ask Block) (records : List ℕ) where
    same-living : (feet : Vec3) (on_ground : Bool) (liquid : LiquidKind) → living_support look records lower feet on_ground liquid ≡ living_support look records upper feet on_ground liquid
    unfolding living_support living_sample
    same-living feet on_ground Water = refl
    same-living feet on_ground Lava = refl
    same-living feet on_ground None = refl

    same-ground : (feet : Vec3) (g : Ground) → ground_support look records lower feet g ≡ ground_support look records upper feet g
    unfolding supporting_friction
    same-ground feet grounds.None = refl
    same-ground feet grounds.Block = refl

    same-support : (body : Body) (liquid : LiquidKind) (feet : Vec3) (on_ground : Bool) → support_after look records lower body liquid feet on_ground ≡ support_after look records upper body liquid feet on_ground
    unfolding support_after
    same-support body liquid feet on_ground = rw (same-living feet on_ground liquid, same-ground feet body.friction)

    same-drag : (body : Body) (liquid : LiquidKind) (support : Support) (v : Vec3) → apply_living_drag lower body liquid support v ≡ apply_living_drag upper body liquid support v
    unfolding sunk
    same-drag body Water support v = refl
    same-drag body Lava support v = refl
    same-drag body None support v = refl

    same-tick : (body : Body) (liquid : LiquidKind) (feet : Vec3) (on_ground : Bool) (support : Support) (v : Vec3) → tick_after lower body liquid feet on_ground support v ≡ tick_after upper body liquid feet on_ground support v
    unfolding tick_after
    same-tick body liquid feet on_ground support v = rw (same-drag body liquid support v)

    same_after : (body : Body) (liquid : LiquidKind) (feet : Vec3) (on_ground : Bool) (v : Vec3) → after_move look records lower body liquid feet on_ground v ≡ after_move look records upper body liquid feet on_ground v
    unfolding after_move
    same_after body liquid feet on_ground v =
        rw (same-support body liquid feet on_ground)
        (alike (support_after look records upper body liquid feet on_ground) _ _ (λ support. ap found (same-tick body liquid feet on_ground support v)))

    -- ---- a tick whose moves are side by side
    module _ (shapes : List Float) (both : (aabb : Aabb) (delta : Vec3) (step : Float) (grounded : Bool) → Beside (move_aabb (cap_of c) look records shapes aabb delta step grounded) (move_aabb (cap_of d) look records shapes aabb delta step grounded)) where
      moves-on : (body : Body) (aabb : Aabb) (on_ground : Bool) (flotation liquid : LiquidKind) (v : Vec3)
          → Beside (move_on_by (move_aabb (cap_of c) look records shapes) look records lower body aabb on_ground flotation liquid v) (move_on_by (move_aabb (cap_of d) look records shapes) look records upper body aabb on_ground flotation liquid v)
      unfolding move_on_by
      moves-on body aabb on_ground flotation liquid v =
          let velocity : Vec3 = pulled body flotation v in
          before _ _ _ _ (both aabb velocity body.step on_ground)
          (λ m. same_after body liquid (feet_of m.aabb) m.on_ground (kept_after m.moved velocity))

      ticks : (body : Body) (motion : Motion) (age : ℕ) → Beside (step_body_sensed look records shapes lower body motion age) (step_body_sensed look records shapes upper body motion age)
      unfolding step_body_sensed step_body_by
      ticks body motion age =
          let aabb : Aabb = from_feet motion.feet body.width body.height in
          after (tick_begins look records body aabb motion age) _ _ (λ begun.
          chosen begun.rests _ _ _
          (after (senses look records body aabb) _ _ (λ liquid.
          moves-on body aabb motion.on_ground begun.flotation liquid begun.velocity)))

-- ---- what a host calls
module _ (rules : Rules) (c d : ℕ) (raise : Raised c d) (records : List ℕ) (shapes : List Float) (cells : List ℕ) (w : Window) (body : BodyNumbers) (given : MotionNumbers) (age : ℕ) where
  same-refusal : number_refusal records (with_cap rules c) body given ≡ number_refusal records (with_cap rules d) body given
  unfolding number_refusal numbers_are_fit rules_fit
  same-refusal = rw (raise.first, raise.second)

  checked : Beside (checked_asked records shapes cells w (with_cap rules c) body given age) (checked_asked records shapes cells w (with_cap rules d) body given age)
  checked =
      let look : Pos → Ask Block = look_at cells (with_air w rules.air) in
      rw same-refusal
      (chosen _ (refused (number_refusal records (with_cap rules d) body given)) _ _
      (ticks rules c d look records shapes
      (move-raised records shapes cells (with_air w rules.air) (cap_of c) (cap_of d) raise.above) (body_of body) (motion_of given) age))

  pub stepped : Alters6 (step_entry records shapes cells w (with_cap rules c) body given age).refusal (step_entry records shapes cells w (with_cap rules c) body given age) (step_entry records shapes cells w (with_cap rules d) body given age)
  unfolding step_entry
  stepped = told (step_answer given) (λ (a : StepAnswer). a.refusal) refl _ _ (chosen _ (refused (lent_refusal records shapes cells w)) _ _ checked)

  pub fallen : (fall : Fall) → Alters6 (falling_entry records shapes cells w (with_cap rules c) body given age fall).step.refusal (falling_entry records shapes cells w (with_cap rules c) body given age fall) (falling_entry records shapes cells w (with_cap rules d) body given age fall)
  unfolding falling_entry with_fall
  fallen fall =
      told (λ (m : Ask Tick). with_fall fall given (step_answer given m)) (λ (a : FallingAnswer). a.step.refusal) refl _ _
      (chosen _ (refused (lent_refusal records shapes cells w)) _ _ (chosen (not (fall_fits fall)) (refused 3) _ _ checked))

-- ---- and over a summary
module _ (rules : Rules) (c d : ℕ) (raise : Raised c d) (records : List ℕ) (shapes : List Float) (words : List ℕ) (w : Window) (body : BodyNumbers) (given : MotionNumbers) (age : ℕ) where
  by-summary : Beside (summed_asked records shapes words w (with_cap rules c) body given age) (summed_asked records shapes words w (with_cap rules d) body given age)
  by-summary =
      refused-alike (number_refusal records (with_cap rules c) body given) (number_refusal records (with_cap rules d) body given) _ _ (same-refusal rules c d raise records shapes (plain_words words w) w body given age)
      (chosen _ (refused (summary_refusal records words (with_air w rules.air))) _ _
      (checked rules c d raise records shapes (plain_words words w) w body given age))

  pub stepped-summed : Alters6 (step_summed records shapes words w (with_cap rules c) body given age).refusal (step_summed records shapes words w (with_cap rules c) body given age) (step_summed records shapes words w (with_cap rules d) body given age)
  unfolding step_summed
  stepped-summed = told (step_answer given) (λ (a : StepAnswer). a.refusal) refl _ _ (chosen _ (refused (lent_refusal records shapes (plain_words words w) w)) _ _ by-summary)

  pub fallen-summed : (fall : Fall) → Alters6 (falling_summed records shapes words w (with_cap rules c) body given age fall).step.refusal (falling_summed records shapes words w (with_cap rules c) body given age fall) (falling_summed records shapes words w (with_cap rules d) body given age fall)
  unfolding falling_summed with_fall
  fallen-summed fall =
      told (λ (m : Ask Tick). with_fall fall given (step_answer given m)) (λ (a : FallingAnswer). a.step.refusal) refl _ _
      (chosen _ (refused (lent_refusal records shapes (plain_words words w) w)) _ _ (chosen (not (fall_fits fall)) (refused 3) _ _ by-summary))
