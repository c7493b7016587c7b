-- Floor and ceiling over whole numbers. The size of `fin s m e` is the fraction m * up e / down e of two whole numbers.
use Rattle.std.specs.Prelude.{Bool, true, false, not, ℕ, ◌+◌, ◌-◌, ◌*◌, ◌/◌, ℤ, pos, neg_ℤ, ◌-ℤ◌, Float}
use Rattle.std.specs.Float.{nan, inf, fin, binary64}
use Rattle.std.specs.Float.Ieee.{up, down, round, neg, le}
use Rattle.base.specs.Choose.{choose}

-- The size of the greatest whole number that is not above a / c; for the sign true, that is not above -(a / c).
-- `Laws.floor-greatest` shows it to be that number.
unfoldable pub floor_size : Bool → ℕ → ℕ → ℕ
floor_size false a c = a / c
floor_size true a c = (a + (c - 1)) / c

-- the size of the least whole number that is not below: that of -x, turned round
abbrev pub ceil_size : Bool → ℕ → ℕ → ℕ
ceil_size s a c = floor_size (not s) a c

-- The float of a whole number with x's sign: IEEE 754's roundToIntegral keeps the sign of x, also where the number is 0.
abbrev pub whole_f : Bool → ℕ → Float
whole_f s n = round binary64 s n 1

unfoldable pub floor_of : Float → Float
floor_of nan = nan
floor_of (inf s) = inf s
floor_of (fin s m e) = whole_f s (floor_size s (m * up e) (down e))

unfoldable pub ceil_of : Float → Float
ceil_of nan = nan
ceil_of (inf s) = inf s
ceil_of (fin s m e) = whole_f s (ceil_size s (m * up e) (down e))

abbrev pub signed_of : Bool → ℕ → ℤ
signed_of false n = pos n
signed_of true n = neg_ℤ (pos n)

-- the greatest whole number that is not above x
unfoldable pub floor_int : Float → ℤ
floor_int nan = pos 0
floor_int (inf s) = pos 0
floor_int (fin s m e) = signed_of s (floor_size s (m * up e) (down e))

-- The cell of a coordinate of size at most 2 ^ 26, which is further than a step can reach from 2 ^ 25. What lies beyond, or is a NaN, is given
-- a cell that no window holds, so that no cell is guessed.
unfoldable pub cell_of : Float → ℤ
cell_of x =
    choose (le x (fin false 1 (pos 26)))
    (choose (le (fin true 1 (pos 26)) x) (floor_int x) (neg_ℤ (pos 67108864)))
    (pos 67108864)

-- the ceiling of a coordinate, as `cell_of` is its floor: the least whole number that is not below it, which is 0 less the floor of -x
abbrev pub ceiling_of : Float → ℤ
ceiling_of x = pos 0 -ℤ cell_of (neg x)
