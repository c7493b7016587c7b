-- `living_block_friction` keeps its number: what it tells beside it changes neither number nor refusal. Assumes nothing.
use mathlib.Core.Path.{◌≡◌, refl}
use mathlib.Core.Bool.{Bool, true, false}
use mathlib.Core.List.{List}
use Prim.Native.Nat.{ℕ}
use lib.Ieee.{Float}
use Rattle.base.specs.Choose.{choose}
use Rattle.base.specs.Ask.{Ask, refused, found, ◌>>=◌}
use Rattle.floats.specs.Numbers.{Answer}
use Rattle.boxes.specs.declared.Vec3.{Vec3}
use Rattle.window.specs.declared.Window.{Window}
use Rattle.window.specs.Look.{look_at}
use Rattle.window.specs.Numbers.{with_air}
use Rattle.bodies.specs.declared.Rules.{Rules}
use Rattle.drags.specs.declared.Sample.{Sample}
use Rattle.drags.specs.Cases.{sample_or}
use Rattle.samples.specs.Samples.{living_sample, living_block_friction}
use Rattle.step_answers.specs.Records.{FrictionAnswer}
use Rattle.step.specs.Answers.{friction_answer, friction_entry, number_answer, friction_alone}

pub record Same (a : FrictionAnswer) (b : Answer) : Type 0 where
  pub value : a.value ≡ b.value
  pub refusal : a.refusal ≡ b.refusal

module _ (default : Float) where
  bare : (m : Ask Sample) → Same (friction_answer default m) (number_answer (m >>= λ s. found (sample_or default s)))
  bare (refused n) = record { value = refl; refusal = refl }
  bare (found s) = record { value = refl; refusal = refl }

  behind : (bad : Bool) (n : ℕ) (a : Ask Sample) (b : Ask Float) → Same (friction_answer default a) (number_answer b)
      → Same (friction_answer default (choose bad (refused n) a)) (number_answer (choose bad (refused n) b))
  unfolding choose
  behind true n a b h = record { value = refl; refusal = refl }
  behind false n a b h = h

pub number-kept : (records : List ℕ) (shapes : List Float) (cells : List ℕ) (w : Window) (rules : Rules) (feet : Vec3)
    → Same (friction_entry records shapes cells w rules feet) (friction_alone records shapes cells w rules feet)
unfolding friction_entry living_block_friction
number-kept records shapes cells w rules feet =
    let d = rules.friction in
    behind d _ _ _ _ (behind d _ _ _ _ (behind d _ _ _ _ (bare d (living_sample (look_at cells (with_air w rules.air)) records rules feet))))
