-- The Rust's `item_flotation`: what liquid an item floats in. The body's network offset and height come as numbers.
use Rattle.std.specs.Prelude.{Bool, ◌&&◌, ◌||◌, List, ℕ, ltb, pos, Float}
use Rattle.std.specs.Float.{binary64}
use Rattle.std.specs.Float.Ieee.{of_int, of_bits, add, sub, div, lt}
use Rattle.base.specs.Choose.{choose}
use Rattle.base.specs.Ask.{Ask, found, ◌>>=◌}
use Rattle.boxes.specs.declared.Vec3.{Vec3}
use Rattle.boxes.specs.Boxes.{plus}
use Rattle.boxes.specs.Vectors.{unit_y, scaled}
use Rattle.tables.specs.declared.LiquidKind.{LiquidKind}
use Rattle.tables.specs.declared.LiquidKind.TheVariants.{None, Water, Lava}
use Rattle.tables.specs.declared.LiquidState.{LiquidState}
use Rattle.window.specs.declared.Pos.{Pos}
use Rattle.window.specs.Look.{Block}
use Rattle.ranges.specs.Cells.{cell_holding, cell_under}
use Rattle.flow.specs.Liquid.{is_water, is_lava, is_falling, liquid_held}
use Rattle.currents.specs.Current.{same_pos, liquid_known}
use Rattle.floats.specs.Numbers.{one64}

-- position + DVec3::Y * d
unfoldable pub moved_up : Vec3 → Float → Vec3
moved_up position d = plus position (scaled unit_y d)

-- 9.0
abbrev pub nine64 : Float
nine64 = of_bits binary64 4621256167635550208

-- f64::from(y) + 1.0 - f64::from(depth) / 9.0
unfoldable pub surface_at : Pos → ℕ → Float
surface_at p depth = sub binary64 (add binary64 (of_int binary64 p.y) one64) (div binary64 (of_int binary64 (pos depth)) nine64)

-- the water point lies in water, below its surface; the depth is used as it is, 8 to 15 too
unfoldable pub under_water : Vec3 → LiquidState → Bool
under_water point state = is_water state.kind && lt point.y (surface_at (cell_holding point) state.depth)

-- lava that does not fall
unfoldable pub in_lava : LiquidState → Bool
in_lava state = is_lava state.kind && ltb state.depth 8

-- if water_pos == foot_pos { foot_state } else if water_pos == wire_pos { wire_state } else { liquid_at(blocks, water_pos) }
unfoldable pub water_state : (Pos → Ask Block) → List ℕ → Pos → LiquidState → Pos → LiquidState → Pos → Ask LiquidState
water_state look records foot foot_state wire wire_state p =
    choose (same_pos p foot) (found foot_state) (choose (same_pos p wire) (found wire_state) (liquid_held look records p))

-- a falling liquid at the wire cell or below it ends flotation
unfoldable pub item_flotation : (Pos → Ask Block) → List ℕ → Float → Float → Vec3 → Pos → LiquidState → Ask LiquidKind
item_flotation look records offset height position foot foot_state = do
  let wire : Vec3 = moved_up position offset
  let point : Vec3 = moved_up position (add binary64 offset height)
  wire_state ← liquid_known look records foot foot_state (cell_holding wire)
  below_state ← liquid_known look records foot foot_state (cell_under wire)
  choose (is_falling wire_state || is_falling below_state) (found None)
      (do
        state ← water_state look records foot foot_state (cell_holding wire) wire_state (cell_holding point)
        found (choose (under_water point state) Water (choose (in_lava wire_state) Lava None)))
