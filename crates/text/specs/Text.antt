-- The answer of a tick as bytes: what `onetick` prints.
use Rattle.std.specs.Prelude.{Bool, List, [], ◌∷◌, ◌++◌, ℕ, ◌+◌, ◌-◌, ◌*◌, ◌/◌, ◌%◌, ◌^◌, eqb, ltb, length, Float}
use Rattle.std.specs.Float.{binary64}
use Rattle.std.specs.Float.Ieee.{to_bits}
use Rattle.base.specs.Choose.{choose}
use Rattle.base.specs.Loop.{listed, stored}
use Rattle.boxes.specs.declared.Vec3.{Vec3}
use Rattle.tables.specs.declared.LiquidKind.{LiquidKind}
use Rattle.tables.specs.declared.LiquidKind.TheVariants.{None, Water, Lava}
use Rattle.suffixes.specs.Bytes.{bytes}
use Rattle.bodies.specs.declared.MotionNumbers.{MotionNumbers}

-- a newline
abbrev pub newline : List ℕ
newline = 10 ∷ []

-- 0 to 9, a to f
unfoldable pub hex_digit : ℕ → ℕ
hex_digit d = choose (ltb d 10) (48 + d) (87 + d)

-- digit k of 16, the highest first
unfoldable pub hex_at : ℕ → ℕ → ℕ
hex_at bits k = hex_digit (bits / 2 ^ (60 - k * 4) % 16)

-- "f64 bits, 16 hex digits"
unfoldable pub hex_of : Float → List ℕ
hex_of x = listed (hex_at (to_bits binary64 x)) 16 0

-- pieces of text, one after the other
unfoldable pub joined_text : List (List ℕ) → List ℕ
joined_text [] = []
joined_text (p ∷ ps) = p ++ joined_text ps

-- "x y z", and the line's end
unfoldable pub vec_text : Vec3 → List ℕ
vec_text v = joined_text (hex_of v.x ∷ bytes " " ∷ hex_of v.y ∷ bytes " " ∷ hex_of v.z ∷ newline ∷ [])

unfoldable pub feet_line : Vec3 → List ℕ
feet_line v = joined_text (bytes "feet " ∷ vec_text v ∷ [])

unfoldable pub velocity_line : Vec3 → List ℕ
velocity_line v = joined_text (bytes "velocity " ∷ vec_text v ∷ [])

-- "ground 0 or 1"
unfoldable pub ground_digit : ℕ → ℕ
ground_digit grounded = choose (eqb grounded 0) 48 49

unfoldable pub ground_line : ℕ → List ℕ
ground_line grounded = joined_text (bytes "ground " ∷ (ground_digit grounded ∷ []) ∷ newline ∷ [])

-- "none, water or lava"
abbrev pub liquid_text : LiquidKind → List ℕ
liquid_text None = bytes "none"
liquid_text Water = bytes "water"
liquid_text Lava = bytes "lava"

unfoldable pub liquid_line : LiquidKind → List ℕ
liquid_line kind = joined_text (bytes "liquid " ∷ liquid_text kind ∷ newline ∷ [])

-- the four lines
unfoldable pub lines_of : MotionNumbers → LiquidKind → List ℕ
lines_of motion kind = joined_text (feet_line motion.feet ∷ velocity_line motion.velocity ∷ ground_line motion.on_ground ∷ liquid_line kind ∷ [])

-- "or `refused N`": the number of a file's refusal has one digit (`one-digit`)
unfoldable pub refused_text : ℕ → List ℕ
refused_text n = joined_text (bytes "refused " ∷ ((48 + n % 10) ∷ []) ∷ newline ∷ [])

unfoldable pub text_of : ℕ → MotionNumbers → LiquidKind → List ℕ
text_of refusal motion kind = choose (eqb refusal 0) (lines_of motion kind) (refused_text refusal)

-- ---- in a lent buffer: nothing is written to one that is too short for every answer, and what lies behind the text is kept

abbrev pub text_room : ℕ
text_room = 160

unfoldable pub written : List ℕ → List ℕ → List ℕ
written out text = choose (ltb (length out) text_room) out (stored out 0 text)

-- how many bytes the answer has
unfoldable pub written_count : List ℕ → List ℕ → ℕ
written_count out text = choose (ltb (length out) text_room) 0 (length text)
