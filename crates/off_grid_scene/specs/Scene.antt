-- A body 0.6 wide and 1.8 tall with its feet at (100.3, 64.0, -7.7), above a floor of cubes whose top is at 63 and beside an oak fence that stands on it:
-- blocks of the classroom palette. It falls by 0.08, or walks into the fence while it falls.
use Rattle.std.specs.Prelude.{List, ◌∷◌, ◌++◌, ℕ, replicate, pos, negsuc, Float}
use Rattle.std.specs.Float.Ieee.{neg}
use Rattle.boxes.specs.declared.Vec3.{Vec3}
use Rattle.boxes.specs.declared.Aabb.{Aabb}
use Rattle.boxes.specs.Boxes.{vec, from_feet}
use Rattle.window.specs.declared.Window.{Window}
use Rattle.palette_states.specs.States.{air_state as air, cube_state as cube, oak_state as oak}
use Rattle.small_scenes.specs.Moves.{ratio, whole}

-- x 99 to 102, y 62 to 66, z -9 to -7, in a world from -64 to 319
unfoldable pub fenced_window : Window
fenced_window =
    record { origin = record { x = pos 99; y = pos 62; z = negsuc 8 }; sizes = record { x = 4; y = 5; z = 3 }; lowest = negsuc 63; highest = pos 319; air = air }

-- the floor; a layer of air with the fence at x 101, z -8; three of air; and the twelve columns, all loaded
unfoldable pub fenced_cells : List ℕ
fenced_cells =
    replicate 12 cube
    ++ (replicate 6 air ++ (oak ∷ replicate 5 air)
    ++ (replicate 36 air
    ++ replicate 12 1))

abbrev pub body_box : Aabb
body_box = from_feet (vec (ratio 1003 10) (whole 64) (neg (ratio 77 10))) (ratio 6 10) (ratio 18 10)

abbrev pub falling : Vec3
falling = vec (whole 0) (neg (ratio 8 100)) (whole 0)

abbrev pub walking : Vec3
walking = vec (ratio 9 10) (neg (ratio 8 100)) (whole 0)

abbrev pub step : Float
step = ratio 6 10
