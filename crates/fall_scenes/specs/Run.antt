-- Steps of a living body over the tables of `small_scenes`: it falls and lands on a cube, swims, and falls again; one step among them is refused. Their
-- moves are those of `sample` of crates/falls/specs/Samples.antt.
use Rattle.std.specs.Prelude.{false, true, List, [], ◌∷◌, ℕ, pos, Float}
use Rattle.std.specs.Float.{binary64}
use Rattle.std.specs.Float.Ieee.{sub, round}
use Rattle.boxes.specs.Boxes.{vec}
use Rattle.boxes.specs.Limits.{two_to}
use Rattle.window.specs.declared.Window.{Window}
use Rattle.bodies.specs.declared.BodyNumbers.{BodyNumbers}
use Rattle.bodies.specs.declared.Rules.{Rules}
use Rattle.bodies.specs.declared.MotionNumbers.{MotionNumbers}
use Rattle.small_scenes.specs.Moves.{ratio, whole}
use Rattle.small_scenes.specs.Palette.{records, shapes, air, full_cube, water0}
use Rattle.falls.specs.Moves.{StepCall}
use Rattle.falls.specs.Samples.{hundredths}

-- half a cell wide and one high
abbrev pub body : BodyNumbers
body =
    record {
      width = ratio 1 2;
      height = whole 1;
      offset = whole 0;
      gravity = ratio 1 2;
      vertical = whole 1;
      horizontal = whole 1;
      step = whole 0;
      flap = whole 0;
      flaps = 0;
      model = 1;
      stage = 1;
      friction = 0;
    }

abbrev pub rules : Rules
rules = record { friction = ratio 3 5; depth = ratio 1 2; gravity = ratio 1 2; water = ratio 1 2; lava = ratio 1 2; air = air; cap = 0 }

-- three columns, of a world two cells high: a cube at y 5, water at y 6, nothing; above and below them is sky and void
abbrev pub world : Window
world = record { origin = record { x = pos 0; y = pos 5; z = pos 0 }; sizes = record { x = 3; y = 2; z = 1 }; lowest = pos 5; highest = pos 6; air = air }

abbrev pub cells : List ℕ
cells =
    full_cube ∷ air ∷ air
    ∷ air ∷ water0 ∷ air
    ∷ 1 ∷ 1 ∷ 1 ∷ []

abbrev pub cube_column : Float
cube_column = ratio 1 2

abbrev pub water_column : Float
water_column = ratio 3 2

abbrev pub bare_column : Float
bare_column = ratio 5 2

-- in the middle of a column, its feet at this height, with this velocity
abbrev pub at : Float → Float → Float → MotionNumbers
at x y v = record { feet = vec x y (ratio 1 2); velocity = vec (whole 0) v (whole 0); on_ground = 0 }

-- on its way from one height to another, in hundredths
abbrev pub on_the_way : Float → ℕ → ℕ → MotionNumbers
on_the_way x old new = at x (hundredths old) (sub binary64 (hundredths new) (hundredths old))

-- the fall; the landing, with a velocity that would lead on; a step that is a 4; the swim; the second fall
abbrev pub given : List MotionNumbers
given =
    on_the_way cube_column 1000 800
    ∷ on_the_way cube_column 800 650
    ∷ on_the_way cube_column 650 100
    ∷ at cube_column (two_to 26) (whole 0)
    ∷ on_the_way water_column 600 575
    ∷ on_the_way bare_column 575 565
    ∷ on_the_way bare_column 565 545
    ∷ []

abbrev pub call_of : MotionNumbers → StepCall
call_of m = record { records = records; shapes = shapes; cells = cells; window = world; rules = rules; body = body; given = m; age = 0 }

unfoldable pub calls : List MotionNumbers → List StepCall
calls [] = []
calls (m ∷ ms) = call_of m ∷ calls ms

abbrev pub run : List StepCall
run = calls given
