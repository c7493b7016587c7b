-- A tick depends on its sample by the sample's number alone. Assumes nothing.
use mathlib.Core.Path.{◌≡◌, refl}
use mathlib.Core.Bool.{Bool, true, false, ◌&&◌}
use Rattle.base.specs.Choose.{choose}
use Rattle.boxes.specs.declared.Vec3.{Vec3}
use Rattle.boxes.specs.Vectors.{zero_vec}
use Rattle.tables.specs.declared.LiquidKind.{LiquidKind}
use Rattle.tables.specs.declared.LiquidKind.TheVariants.{None}
use Rattle.bodies.specs.declared.Body.{Body}
use Rattle.bodies.specs.declared.Rules.{Rules}
use Rattle.bodies.specs.Body.{is_living, is_falling_block}
use Rattle.drags.specs.declared.Sample.{Sample}
use Rattle.drags.specs.declared.Sample.TheVariants.{Air, Unloaded, Unregistered}
use Rattle.drags.specs.declared.Support.TheVariants.{Asked}
use Rattle.drags.specs.Constants.{default_grip}
use Rattle.drags.specs.Cases.{sample_or}
use Rattle.drags.specs.Drags.{apply_living_drag, dragged}
use Rattle.drags.proofs.Alike.{living-alike, dragged-alike}
use Rattle.step_answers.specs.declared.Tick.{Tick}
use Rattle.ticks.specs.Step.{tick_to, tick_after, number_for}

-- two ticks that are one but for the sample that they tell
pub record Alike (a b : Tick) : Type 0 where
  pub motion : a.motion ≡ b.motion
  pub liquid : a.liquid ≡ b.liquid

module _ (rules : Rules) (body : Body) (liquid : LiquidKind) (feet : Vec3) (on_ground : Bool) (v : Vec3) where
  -- by its branch: a landed falling block, a living body, every other
  abbrev ticked : Bool → Bool → Sample → Tick
  ticked landed living s =
      choose landed (tick_to feet zero_vec on_ground None (Asked s))
      (choose living (tick_to feet (apply_living_drag rules body liquid (Asked s) v) on_ground liquid (Asked s))
      (tick_to feet (dragged body (Asked s) v) on_ground None (Asked s)))

  each-branch : (landed living : Bool) (s t : Sample)
      → sample_or (choose living rules.friction default_grip) s ≡ sample_or (choose living rules.friction default_grip) t
      → Alike (ticked landed living s) (ticked landed living t)
  unfolding choose
  each-branch true living s t e = record { motion = refl; liquid = refl }
  each-branch false true s t e = record { motion = rw (living-alike s t rules body liquid v e); liquid = refl }
  each-branch false false s t e = record { motion = rw (dragged-alike s t body v e); liquid = refl }

  pub by_number : (s t : Sample) → number_for rules body s ≡ number_for rules body t
      → Alike (tick_after rules body liquid feet on_ground (Asked s) v) (tick_after rules body liquid feet on_ground (Asked t) v)
  unfolding tick_after
  by_number s t e = each-branch (is_falling_block body.model && on_ground) (is_living body.model) s t e

  -- so a body moves alike over air, over a cell that was not loaded and over a state that is not registered
  pub air-unloaded : Alike (tick_after rules body liquid feet on_ground (Asked Air) v) (tick_after rules body liquid feet on_ground (Asked Unloaded) v)
  air-unloaded = by_number Air Unloaded refl

  pub air-unregistered : Alike (tick_after rules body liquid feet on_ground (Asked Air) v) (tick_after rules body liquid feet on_ground (Asked Unregistered) v)
  air-unregistered = by_number Air Unregistered refl
