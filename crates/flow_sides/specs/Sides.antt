-- The four sides of a cell in the Rust's `liquid_flow`, and what they add to a flow: what it works out without asking for a cell.
use Rattle.std.specs.Prelude.{Bool, Option, Some, None, ℕ, leb, eqb, ℤ, pos, negsuc, ◌-ℤ◌, Float}
use Rattle.std.specs.Float.{binary64}
use Rattle.std.specs.Float.Ieee.{of_int, of_bits, neg}
use Rattle.base.specs.Choose.{choose}
use Rattle.floats.specs.Numbers.{zero64, one64}
use Rattle.boxes.specs.declared.Vec3.{Vec3}
use Rattle.boxes.specs.Boxes.{vec, plus, minus}
use Rattle.boxes.specs.Vectors.{unit_y, scaled, normalised}
use Rattle.cover.specs.declared.Side.{Side}
use Rattle.cover.specs.declared.Side.TheVariants.{North, East, South, West}
use Rattle.window.specs.declared.CellStep.{CellStep}

-- ---- sides: east is IVec3::X, west NEG_X, south Z, north NEG_Z

-- to the cell on a side, y cells up
abbrev pub side_step : Side → ℤ → CellStep
side_step North y = record { x = pos 0; y = y; z = negsuc 0 }
side_step East y = record { x = pos 1; y = y; z = pos 0 }
side_step South y = record { x = pos 0; y = y; z = pos 1 }
side_step West y = record { x = negsuc 0; y = y; z = pos 0 }

-- neighbour, neighbour - IVec3::Y and neighbour + IVec3::Y
unfoldable pub step_beside : Side → CellStep
step_beside side = side_step side (pos 0)

unfoldable pub step_below : Side → CellStep
step_below side = side_step side (negsuc 0)

unfoldable pub step_above : Side → CellStep
step_above side = side_step side (pos 1)

-- side.as_dvec3()
unfoldable pub unit_to : Side → Vec3
unit_to North = vec zero64 zero64 (neg one64)
unit_to East = vec one64 zero64 zero64
unit_to South = vec zero64 zero64 one64
unit_to West = vec (neg one64) zero64 zero64

-- ---- by how much the liquid on a side is deeper

unfoldable pub effective_depth : ℕ → ℕ
effective_depth depth = choose (leb 8 depth) 0 depth

-- f64::from(other - depth), and f64::from(other - (depth - 8)) where the liquid lies one cell lower
unfoldable pub difference_to : ℕ → ℕ → Float
difference_to other depth = of_int binary64 (pos other -ℤ pos depth)

unfoldable pub difference_below : ℕ → ℕ → Float
difference_below other depth = of_int binary64 (pos other -ℤ (pos depth -ℤ pos 8))

-- ---- what a side adds to a flow, and what the flow comes to

-- if let Some(difference) = difference { flow += side.as_dvec3() * difference; }
unfoldable pub flowed_by : Vec3 → Side → Option Float → Vec3
flowed_by flow side (Some d) = plus flow (scaled (unit_to side) d)
flowed_by flow side None = flow

-- 6.0
abbrev pub six64 : Float
six64 = of_bits binary64 4618441417868443648

-- if down_wall { flow = flow.normalize_or_zero() - DVec3::Y * 6.0; } flow.normalize_or_zero()
unfoldable pub normalised_flow : Vec3 → Bool → Vec3
normalised_flow flow walled = normalised (choose walled (minus (normalised flow) (scaled unit_y six64)) flow)

-- for side in [IVec3::X, IVec3::NEG_X, IVec3::Z, IVec3::NEG_Z]
unfoldable pub side_of : ℕ → Side
side_of k = choose (eqb k 0) East (choose (eqb k 1) West (choose (eqb k 2) South North))
