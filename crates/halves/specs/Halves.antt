-- A buffer in two halves, one for each of two parties.
use Rattle.std.specs.Prelude.{List, ℕ, ◌+◌, ◌/◌, length, take, drop, Float}

pub data Who : Type 0 where
  first : Who
  second : Who

-- ---- its half of the buffer: places 0 to h - 1, and h to 2h - 1

-- h, rounded down
abbrev pub length_of_half : List Float → ℕ
length_of_half out = length out / 2

abbrev pub half_place : Who → List Float → ℕ
half_place first out = 0
half_place second out = length_of_half out

abbrev pub half_of : Who → List Float → List Float
half_of who out = take (length_of_half out) (drop (half_place who out) out)

-- a last odd place is nobody's
abbrev pub nobodys : List Float → List Float
nobodys out = drop (length_of_half out + length_of_half out) out
