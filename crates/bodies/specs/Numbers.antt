-- A motion, a body and rules of 19 numbers and 7 words, number k and word k being handed in. Document 01 has their order, that of a scene file,
-- and its words stand in quotes; the cap is document 02's.
use Rattle.std.specs.Prelude.{Bool, ◌&&◌, List, ℕ, ◌+◌, eqb, length, get_or, Float}
use Rattle.floats.specs.Numbers.{zero64}
use Rattle.boxes.specs.declared.Vec3.{Vec3}
use Rattle.boxes.specs.Boxes.{vec}
use Rattle.bodies.specs.declared.BodyNumbers.{BodyNumbers}
use Rattle.bodies.specs.declared.Rules.{Rules}
use Rattle.bodies.specs.declared.MotionNumbers.{MotionNumbers}

-- ---- lent numbers and words: word k is `tables`' `word_at words 0 k`

-- as many as a body's
unfoldable pub lengths_fit : List Float → List ℕ → Bool
lengths_fit numbers words = eqb (length numbers) 19 && eqb (length words) 7

-- number k, +0 where there is none
abbrev pub number_at : List Float → ℕ → Float
number_at numbers k = get_or numbers k zero64

-- ---- their order

-- x, y, z from number k on
abbrev pub vec_from : (ℕ → Float) → ℕ → Vec3
vec_from number k = vec (number k) (number (k + 1)) (number (k + 2))

-- "position, velocity", and the word "ground"
abbrev pub motion_from : (ℕ → Float) → (ℕ → ℕ) → MotionNumbers
motion_from number word = record { feet = vec_from number 0; velocity = vec_from number 3; on_ground = word 0 }

-- "width, height, network offset, gravity, vertical drag, horizontal drag, flap, step height", and the words "model, stage, ground friction,
-- flap present"
abbrev pub body_from : (ℕ → Float) → (ℕ → ℕ) → BodyNumbers
body_from number word =
    record {
      width = number 6;
      height = number 7;
      offset = number 8;
      gravity = number 9;
      vertical = number 10;
      horizontal = number 11;
      step = number 13;
      flap = number 12;
      flaps = word 4;
      model = word 1;
      stage = word 2;
      friction = word 3;
    }

-- "default friction, sample depth, liquid gravity, water drag, lava drag", and the words "air state" and the cap
abbrev pub rules_from : (ℕ → Float) → (ℕ → ℕ) → Rules
rules_from number word =
    record {
      friction = number 14;
      depth = number 15;
      gravity = number 16;
      water = number 17;
      lava = number 18;
      air = word 5;
      cap = word 6;
    }
