-- The Rust's `living_liquid`: any water, else lava, that overlaps a living body's box shrunk by 0.001.
use Rattle.std.specs.Prelude.{Bool, true, false, List, ℕ, leb, Float}
use Rattle.std.specs.Float.{binary64}
use Rattle.std.specs.Float.Ieee.{of_int, of_bits, add, le}
use Rattle.base.specs.Choose.{choose}
use Rattle.base.specs.Ask.{Ask, found, ◌>>=◌, Turn, next, done, resume}
use Rattle.boxes.specs.declared.Vec3.{Vec3}
use Rattle.boxes.specs.declared.Aabb.{Aabb}
use Rattle.boxes.specs.Boxes.{vec, plus, minus, box}
use Rattle.tables.specs.declared.LiquidKind.{LiquidKind}
use Rattle.tables.specs.declared.LiquidKind.TheVariants.{None, Water, Lava}
use Rattle.tables.specs.declared.LiquidState.{LiquidState}
use Rattle.window.specs.declared.Pos.{Pos}
use Rattle.window.specs.Look.{Block}
use Rattle.ranges.specs.declared.Range.{Range}
use Rattle.ranges.specs.Ranges.{cells_between}
use Rattle.ranges.specs.Walk.{walk}
use Rattle.flow.specs.Liquid.{is_liquid, liquid_held}
use Rattle.liquids.specs.Flotation.{surface_at}
use Rattle.floats.specs.Numbers.{one64}

-- 0.001, and DVec3::splat of it
abbrev pub thousandth : Float
thousandth = of_bits binary64 4562254508917369340

abbrev pub splat : Float → Vec3
splat d = vec d d d

unfoldable pub shrunk : Aabb → Aabb
shrunk aabb = box (plus aabb.min (splat thousandth)) (minus aabb.max (splat thousandth))

-- upper ends included
unfoldable pub cells_of : Aabb → Range
cells_of b =
    record {
      x = cells_between b.min.x b.max.x;
      y = cells_between b.min.y b.max.y;
      z = cells_between b.min.z b.max.z;
    }

-- a liquid that falls fills its block
unfoldable pub surface_of : Pos → ℕ → Float
surface_of p depth = choose (leb 8 depth) (add binary64 (of_int binary64 p.y) one64) (surface_at p depth)

-- the body is in a liquid of this kind: water ends the search, lava is remembered
abbrev pub wet_by : LiquidKind → Bool → Turn Bool LiquidKind
wet_by None lava = next lava
wet_by Water lava = done Water
wet_by Lava lava = next true

-- one cell: there is a liquid, and the body's lowest y is not at or above its surface
unfoldable pub wet_in : Float → Pos → LiquidState → Bool → Turn Bool LiquidKind
wet_in feet p state lava =
    choose (is_liquid state.kind) (choose (le (surface_of p state.depth) feet) (next lava) (wet_by state.kind lava)) (next lava)

unfoldable pub living_turn : (Pos → Ask Block) → List ℕ → Float → Pos → Bool → Ask (Turn Bool LiquidKind)
living_turn look records feet p lava = do
  state ← liquid_held look records p
  found (wet_in feet p state lava)

unfoldable pub living_liquid : (Pos → Ask Block) → List ℕ → Aabb → Ask LiquidKind
living_liquid look records aabb = do
  end ← walk (living_turn look records (shrunk aabb).min.y) (cells_of (shrunk aabb)) false
  resume (λ lava. found (choose lava Lava None)) end
