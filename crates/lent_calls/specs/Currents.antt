-- Currents in lent numbers.
use Rattle.std.specs.Prelude.{List, ℕ, Float}
use Rattle.base.specs.Loop.{stored}
use Rattle.base.specs.Ask.{Ask, refused, found, ◌>>=◌}
use Rattle.boxes.specs.declared.Vec3.{Vec3}
use Rattle.boxes.specs.Boxes.{from_feet}
use Rattle.window.specs.declared.Pos.{Pos}
use Rattle.window.specs.Look.{Block}
use Rattle.currents.specs.declared.Current.{Current}
use Rattle.flow.specs.Liquid.{liquid_held}
use Rattle.currents.specs.Current.{item_current}
use Rattle.ranges.specs.Cells.{cell_holding}
use Rattle.lent_numbers.specs.Written.{flagged}

-- what the flows do to an item at these feet, of this width and height: the cell of its feet is asked for first, as the step does
unfoldable pub current_at : (Pos → Ask Block) → List ℕ → Vec3 → Float → Float → Ask Current
current_at look records feet width height = do
  let foot : Pos = cell_holding feet
  state ← liquid_held look records foot
  item_current look records (from_feet feet width height) foot state

abbrev pub current_refusal : Ask Current → ℕ
current_refusal (refused n) = n
current_refusal (found c) = 0

-- what it adds to the velocity, and 1.0 where there is water: four numbers; a refusal writes nothing
abbrev pub current_written : List Float → Ask Current → List Float
current_written out (refused n) = out
current_written out (found c) = stored out 0 (flagged c.flow c.water)
