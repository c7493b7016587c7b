-- The Rust's `item_current`: the flows of the cells that an item's box reaches, and what they do to its velocity.
use Rattle.std.specs.Prelude.{Bool, false, not, ◌&&◌, List, ℕ, eqb, ℤ, pos, negsuc, ◌-ℤ◌, Float}
use Rattle.std.specs.Float.{binary64}
use Rattle.std.specs.Float.Ieee.{of_bits}
use Rattle.base.specs.Choose.{choose}
use Rattle.base.specs.Ask.{Ask, found, ◌>>=◌, Turn, next, resume}
use Rattle.wholes.specs.Whole.{cell_of, ceiling_of}
use Rattle.boxes.specs.declared.Vec3.{Vec3}
use Rattle.boxes.specs.declared.Aabb.{Aabb}
use Rattle.boxes.specs.Boxes.{plus}
use Rattle.boxes.specs.Limits.{two_to, are_within}
use Rattle.boxes.specs.Vectors.{zero_vec, scaled, normalised}
use Rattle.tables.specs.declared.LiquidKind.{LiquidKind}
use Rattle.tables.specs.declared.LiquidKind.TheVariants.{None, Water, Lava}
use Rattle.tables.specs.declared.LiquidState.{LiquidState}
use Rattle.window.specs.declared.Pos.{Pos}
use Rattle.window.specs.Look.{Block}
use Rattle.ranges.specs.declared.Axis.{Axis}
use Rattle.ranges.specs.declared.Range.{Range}
use Rattle.ranges.specs.Ranges.{or_zero}
use Rattle.ranges.specs.Walk.{walk}
use Rattle.lent.specs.Lent.{unless}
use Rattle.flow.specs.Liquid.{is_liquid, liquid_held}
use Rattle.flow.specs.Flow.{liquid_flow}
use Rattle.currents.specs.declared.Stream.{Stream}
use Rattle.currents.specs.declared.Streams.{Streams}
use Rattle.currents.specs.declared.Current.{Current}

-- ---- cells

-- A number of the box is not finite or of size above 2 ^ 26, where `cell_of` stops. Such a box reaches cells that no window holds.
unfoldable pub beyond_reach : Aabb → Bool
beyond_reach aabb = not (are_within aabb.min (two_to 26) && are_within aabb.max (two_to 26))

-- lo.floor() .. hi.ceil(), the upper end excluded
abbrev pub cells_up_to : Float → Float → Axis
cells_up_to lo hi = record { first = cell_of lo; count = or_zero (ceiling_of hi -ℤ cell_of lo) }

unfoldable pub current_range : Aabb → Range
current_range aabb =
    record {
      x = cells_up_to aabb.min.x aabb.max.x;
      y = cells_up_to aabb.min.y aabb.max.y;
      z = cells_up_to aabb.min.z aabb.max.z;
    }

abbrev pub same_number : ℤ → ℤ → Bool
same_number (pos a) (pos b) = eqb a b
same_number (pos a) (negsuc b) = false
same_number (negsuc a) (pos b) = false
same_number (negsuc a) (negsuc b) = eqb a b

unfoldable pub same_pos : Pos → Pos → Bool
same_pos p q = choose (same_number p.x q.x) (choose (same_number p.y q.y) (same_number p.z q.z) false) false

-- if pos == foot_pos { foot_state } else { liquid_at(blocks, pos) }: the cell of the feet is not asked for twice
unfoldable pub liquid_known : (Pos → Ask Block) → List ℕ → Pos → LiquidState → Pos → Ask LiquidState
liquid_known look records foot foot_state p = choose (same_pos p foot) (found foot_state) (liquid_held look records p)

-- ---- flows and counts of the two kinds; of a count it matters whether it is 0, 1 or more

abbrev pub empty_stream : Stream
empty_stream = record { flow = zero_vec; count = 0 }

abbrev pub no_streams : Streams
no_streams = record { water = empty_stream; lava = empty_stream }

unfoldable pub one_more_than : ℕ → ℕ
one_more_than count = choose (eqb count 0) 1 2

-- flows[index] += flow; counts[index] += 1;
unfoldable pub stream_with : Stream → Vec3 → Stream
stream_with s flow = record { flow = plus s.flow flow; count = one_more_than s.count }

unfoldable pub gathered : LiquidKind → Vec3 → Streams → Streams
gathered None flow s = s
gathered Water flow s = record { water = stream_with s.water flow; lava = s.lava }
gathered Lava flow s = record { water = s.water; lava = stream_with s.lava flow }

-- one cell
unfoldable pub current_turn : (Pos → Ask Block) → List ℕ → Pos → LiquidState → Pos → Streams → Ask (Turn Streams Current)
current_turn look records foot foot_state p s = do
  state ← liquid_known look records foot foot_state p
  choose (is_liquid state.kind)
      (do
        flow ← liquid_flow look records p state
        found (next (gathered state.kind flow s)))
      (found (next s))

-- ---- the current

-- 0.014 and 0.0035
abbrev pub water_push : Float
water_push = of_bits binary64 4579224072313301369

abbrev pub lava_push : Float
lava_push = of_bits binary64 4570216873058560377

-- one flow is taken as it is, several are normalised
unfoldable pub direction_of : Stream → Vec3
direction_of s = choose (eqb s.count 1) s.flow (normalised s.flow)

-- current += direction * acceleration, where there is any flow
unfoldable pub carried_by : Vec3 → Stream → Float → Vec3
carried_by current s acceleration = choose (eqb s.count 0) current (plus current (scaled (direction_of s) acceleration))

-- water first; and whether there is water
unfoldable pub current_of : Streams → Current
current_of s =
    record {
      flow = carried_by (carried_by zero_vec s.water water_push) s.lava lava_push;
      water = not (eqb s.water.count 0);
    }

-- a box out of reach is refused before any cell is asked for
unfoldable pub item_current : (Pos → Ask Block) → List ℕ → Aabb → Pos → LiquidState → Ask Current
item_current look records aabb foot foot_state =
    unless (beyond_reach aabb) 5
    (do
      end ← walk (current_turn look records foot foot_state) (current_range aabb) no_streams
      resume (λ s. found (current_of s)) end)
