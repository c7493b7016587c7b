-- Computed beside the request: a move and a step that reach their bounds, and what the step that checks no tables answers for a friction that is a NaN,
-- which no table that was checked has.
use Rattle.std.specs.Prelude.{Bool, false, ◌&&◌, List, [], ◌∷◌, ◌++◌, ◌≡◌, ℕ, eqb, pos, negsuc, Float}
use Rattle.std.specs.Float.{nan, fin}
use Rattle.std.specs.Float.Ieee.{neg, eq}
use Rattle.floats.specs.Numbers.{zero64}
use Rattle.boxes.specs.declared.Aabb.{Aabb}
use Rattle.boxes.specs.declared.Vec3.{Vec3}
use Rattle.boxes.specs.Boxes.{vec, box}
use Rattle.boxes.specs.Limits.{two_to, is_box, is_delta}
use Rattle.sweeps.specs.declared.MoveResult.{MoveResult}
use Rattle.sweeps.specs.Move.{move_over}
use Rattle.window.specs.declared.Window.{Window}
use Rattle.bodies.specs.declared.BodyNumbers.{BodyNumbers}
use Rattle.bodies.specs.declared.Rules.{Rules}
use Rattle.bodies.specs.declared.MotionNumbers.{MotionNumbers}
use Rattle.step_answers.specs.Records.{StepAnswer}
use Rattle.step.specs.Answers.{checked_entry, step_entry}
use Rattle.small_scenes.specs.Palette.{first_words, unlinked, records, shapes, air, full_cube}
use Rattle.finite.specs.Finite.{limit, farthest_move, longest_way, fastest_step}

abbrev pub half : Float
half = fin false 1 (negsuc 0)

-- ---- a box at the end of all coordinates, moved on by 128 where nothing stands

abbrev pub last : Aabb
last = box (vec (limit 33554416) (limit 33554416) (limit 33554416)) (vec (two_to 25) (two_to 25) (two_to 25))

abbrev pub far_onward : Vec3
far_onward = vec (two_to 7) zero64 zero64

-- box and delta are accepted, and coordinate and way are as large as they may be
unfoldable pub is_farthest : MoveResult → Bool
is_farthest r = is_box last && is_delta far_onward && eq r.aabb.max.x (limit farthest_move) && eq r.moved.x (limit longest_way)

abbrev pub gone : MoveResult
gone = move_over [] last far_onward zero64 false

-- ---- a living body that dives: gravity twice, then drag 16 and flap -16

abbrev pub plain_rules : Rules
plain_rules = record { friction = two_to 0; depth = half; gravity = zero64; water = zero64; lava = zero64; air = air; cap = 0 }

abbrev pub diver : BodyNumbers
diver =
    record {
      width = half;
      height = two_to 0;
      offset = zero64;
      gravity = two_to 4;
      vertical = two_to 4;
      horizontal = two_to 4;
      step = zero64;
      flap = neg (two_to 4);
      flaps = 1;
      model = 1;
      stage = 0;
      friction = 0;
    }

-- high in the sky above a world of one cell
abbrev pub diving : MotionNumbers
diving = record { feet = vec half (two_to 7) half; velocity = vec zero64 (neg (two_to 6)) zero64; on_ground = 0 }

abbrev pub low : Window
low = record { origin = record { x = pos 0; y = pos 0; z = pos 0 }; sizes = record { x = 1; y = 1; z = 1 }; lowest = pos 0; highest = pos 0; air = air }

abbrev pub low_cells : List ℕ
low_cells = air ∷ 1 ∷ []

-- accepted, and as fast as a step may be
unfoldable pub is_fastest : StepAnswer → Bool
is_fastest a = eqb a.refusal 0 && eq a.motion.velocity.y (neg (limit fastest_step))

abbrev pub dive : StepAnswer
dive = step_entry records shapes low_cells low plain_rules diver diving 0

-- ---- a body that falls by a half onto a cube of this friction, by its f32 bits, and slides on it

-- 0 air, 1 a cube
abbrev pub floor : ℕ → List ℕ
floor friction = (first_words 1 0 0 0 0 0 ++ unlinked 0) ++ ((3 ∷ friction ∷ 0 ∷ 0 ∷ 0 ∷ 0 ∷ 0 ∷ 0 ∷ 1 ∷ []) ++ unlinked 15)

abbrev pub slider : BodyNumbers
slider =
    record {
      width = half;
      height = two_to 0;
      offset = zero64;
      gravity = half;
      vertical = half;
      horizontal = half;
      step = zero64;
      flap = zero64;
      flaps = 0;
      model = 3;
      stage = 0;
      friction = 1;
    }

abbrev pub sliding_motion : MotionNumbers
sliding_motion = record { feet = vec half (two_to 0) half; velocity = vec (fin false 1 (negsuc 2)) zero64 zero64; on_ground = 0 }

-- a cube, and two cells above it
abbrev pub column : Window
column = record { origin = record { x = pos 0; y = pos 0; z = pos 0 }; sizes = record { x = 1; y = 3; z = 1 }; lowest = pos 0; highest = pos 2; air = air }

abbrev pub column_cells : List ℕ
column_cells = full_cube ∷ air ∷ air ∷ 1 ∷ []

abbrev pub slide : ℕ → StepAnswer
slide friction = checked_entry (floor friction) shapes column_cells column plain_rules slider sliding_motion 0

pub record Slides (friction : ℕ) (speed : Float) : Type 0 where
  pub accepted : (slide friction).refusal ≡ 0
  pub velocity : (slide friction).motion.velocity.x ≡ speed

-- a friction of 1.0, and one that is a NaN: neither is refused, and of the second a NaN is handed out
pub record Slid : Type 0 where
  pub fits : Slides 1065353216 (fin false 1 (negsuc 3))
  pub bad : Slides 2143289344 nan
