-- A sample works by its number alone. Assumes nothing.
use mathlib.Core.Path.{◌≡◌, refl}
use lib.Ieee.{Float}
use Rattle.boxes.specs.declared.Vec3.{Vec3}
use Rattle.tables.specs.declared.LiquidKind.{LiquidKind}
use Rattle.tables.specs.declared.LiquidKind.TheVariants.{None, Water, Lava}
use Rattle.bodies.specs.declared.Body.{Body}
use Rattle.bodies.specs.declared.Rules.{Rules}
use Rattle.drags.specs.declared.Sample.{Sample}
use Rattle.drags.specs.declared.Support.TheVariants.{Asked}
use Rattle.drags.specs.Cases.{sample_or}
use Rattle.drags.specs.Constants.{default_grip}
use Rattle.drags.specs.Drags.{apply_living_drag, dragged}

-- two samples of one number do the same to a velocity
module _ (s t : Sample) where
  pub living-alike : (rules : Rules) (body : Body) (liquid : LiquidKind) (v : Vec3) → sample_or rules.friction s ≡ sample_or rules.friction t
      → apply_living_drag rules body liquid (Asked s) v ≡ apply_living_drag rules body liquid (Asked t) v
  living-alike rules body None v e = rw e
  living-alike rules body Water v e = refl
  living-alike rules body Lava v e = refl

  pub dragged-alike : (body : Body) (v : Vec3) → sample_or default_grip s ≡ sample_or default_grip t → dragged body (Asked s) v ≡ dragged body (Asked t) v
  dragged-alike body v e = rw e
