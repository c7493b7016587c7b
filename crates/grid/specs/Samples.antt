-- Document 01's P1 and P4 (`p1` and `p4` of crates/small_scenes) as cells of a window, and P1 once more above the world beside a column that is not
-- loaded: with these they meet the premises of demand 3.
use Rattle.std.specs.Prelude.{List, [], ◌∷◌, ℕ, pos, negsuc}
use Rattle.window.specs.declared.Window.{Window}
use Rattle.small_scenes.specs.Palette.{air, full_cube, slab}

-- x 0..3, y -1..2, z 0..1, and the world goes no further up or down
unfoldable pub sample_window : Window
sample_window =
    record { origin = record { x = pos 0; y = negsuc 0; z = pos 0 }; sizes = record { x = 4; y = 4; z = 2 }; lowest = negsuc 0; highest = pos 2; air = air }

-- one layer: these four at z = 0, and air at z = 1
abbrev pub row_then_air : ℕ → ℕ → ℕ → ℕ → List ℕ → List ℕ
row_then_air a b c d rest = a ∷ b ∷ c ∷ d ∷ air ∷ air ∷ air ∷ air ∷ rest

-- the words of the columns: all loaded, but perhaps that at x = 2, z = 0
abbrev pub columns_but_third : ℕ → List ℕ
columns_but_third third = 1 ∷ 1 ∷ third ∷ 1 ∷ 1 ∷ 1 ∷ 1 ∷ 1 ∷ []

unfoldable pub sliding_cells : List ℕ
sliding_cells =
    row_then_air air air air air (row_then_air air air air air (row_then_air air air full_cube air (row_then_air air air air air (columns_but_third 1))))

unfoldable pub climbing_cells : List ℕ
climbing_cells =
    row_then_air air air air air (row_then_air full_cube full_cube full_cube full_cube (row_then_air air air slab slab (row_then_air air air air air (columns_but_third 1))))

-- P1 above the world, whose one layer of cubes is y = -8: the box in its way is of a column that is not loaded
unfoldable pub sky_window : Window
sky_window =
    record { origin = record { x = pos 0; y = negsuc 7; z = pos 0 }; sizes = record { x = 4; y = 1; z = 2 }; lowest = negsuc 7; highest = negsuc 7; air = air }

unfoldable pub sky_cells : List ℕ
sky_cells = row_then_air full_cube full_cube full_cube full_cube (columns_but_third 0)
