-- The windows that the scenes stand in, and what is asked of them.
use Rattle.std.specs.Prelude.{List, [], ◌∷◌, ◌++◌, ℕ, pos, negsuc}
use Rattle.base.specs.Ask.{Ask, refused, found, ◌>>=◌}
use Rattle.boxes.specs.declared.Vec3.{Vec3}
use Rattle.window.specs.declared.Pos.{Pos}
use Rattle.window.specs.declared.Sizes.{Sizes}
use Rattle.window.specs.declared.Window.{Window}
use Rattle.window.specs.Look.{look_at}
use Rattle.flow.specs.Liquid.{liquid_held}
use Rattle.flow.specs.Flow.{liquid_flow}
use Rattle.small_scenes.specs.Palette.{air, records}

abbrev pub middle : Pos
middle = record { x = pos 0; y = pos 0; z = pos 0 }

-- a window in a world of 64 cells down and up
abbrev pub worldly : Pos → Sizes → Window
worldly origin sizes = record { origin = origin; sizes = sizes; lowest = negsuc 63; highest = pos 64; air = air }

-- three cells a side around the middle: layers from below, rows from the north, cells from the west
unfoldable pub around : Window
around = worldly record { x = negsuc 0; y = negsuc 0; z = negsuc 0 } record { x = 3; y = 3; z = 3 }

-- one layer of its cells
abbrev pub cross_of : ℕ → ℕ → ℕ → ℕ → ℕ → List ℕ
cross_of north east south west it = air ∷ north ∷ air ∷ west ∷ it ∷ east ∷ air ∷ south ∷ air ∷ []

-- the words of its columns: all loaded but perhaps that to the north
abbrev pub columns_but_north : ℕ → List ℕ
columns_but_north north = 1 ∷ north ∷ 1 ∷ 1 ∷ 1 ∷ 1 ∷ 1 ∷ 1 ∷ 1 ∷ []

-- its words, with these cells around the middle, air elsewhere, and the column to the north loaded (1) or not (0)
unfoldable pub cells_around : ℕ → ℕ → ℕ → ℕ → ℕ → ℕ → ℕ → List ℕ
cells_around column north east south west above it =
    cross_of air air air air air ++ (cross_of north east south west it ++ (cross_of air air air air above ++ columns_but_north column))

-- the middle layer alone
unfoldable pub flat : Window
flat = worldly record { x = negsuc 0; y = pos 0; z = negsuc 0 } record { x = 3; y = 1; z = 3 }

-- the middle, and the cell above it
unfoldable pub upright : Window
upright = worldly middle record { x = 1; y = 2; z = 1 }

-- the flow of the liquid in the middle of the layer
unfoldable pub flow_among : List ℕ → Ask Vec3
flow_among cells = do
  state ← liquid_held (look_at cells flat) records middle
  liquid_flow (look_at cells flat) records middle state
