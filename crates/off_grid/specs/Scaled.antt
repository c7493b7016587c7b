-- The exact scaled value of an f64, and how far one box reaches into another, over whole numbers.
use Rattle.std.specs.Prelude.{Bool, ℕ, ◌+◌, ◌*◌, ◌/◌, ◌^◌, leb, ℤ, pos, ◌-ℤ◌, Float}
use Rattle.std.specs.Int.Signed.{le_z}
use Rattle.std.specs.Float.{nan, inf, fin}
use Rattle.std.specs.Float.Ieee.{up, down}
use Rattle.base.specs.Choose.{choose}
use Rattle.wholes.specs.Whole.{signed_of}
use Rattle.boxes.specs.declared.Aabb.{Aabb}
use Rattle.grid.specs.Exact.{least_z}

-- How many times 2 ^ -1074 it is: that is the smallest f64 above 0, so every finite f64 is a whole number of them. An infinity has no value; it counts
-- as 2 ^ 1024, which is past every f64, so that the order is the floats' own.
unfoldable pub float_units : Float → ℤ
float_units nan = pos 0
float_units (inf s) = signed_of s (2 ^ 2098)
float_units (fin s m e) = signed_of s (m * up e * 2 ^ 1074 / down e)

-- 2 ^ -26, scaled: "at most 2^-26"
abbrev pub slack : ℤ
slack = pos (2 ^ 1048)

-- three quarters of it, which is 3 times 2 ^ -28: what the proof gives
abbrev pub tight_units : ℕ
tight_units = 3 * 2 ^ 1046

abbrev pub tight_slack : ℤ
tight_slack = pos tight_units

-- on one axis, of a box from al to ah and a block from bl to bh: "the smaller of final greatest less block least, and block greatest less final least"
abbrev pub reach_on : Float → Float → Float → Float → ℤ
reach_on al ah bl bh = least_z (float_units ah -ℤ float_units bl) (float_units bh -ℤ float_units al)

-- 1 where that is at most a bound
abbrev pub slight_on : ℤ → Float → Float → Float → Float → ℕ
slight_on bound al ah bl bh = choose (le_z (reach_on al ah bl bh) bound) 1 0

-- on how many of the three axes the box a reaches into the block b by at most a bound
unfoldable pub slight_axes : ℤ → Aabb → Aabb → ℕ
slight_axes bound a b =
    slight_on bound a.min.x a.max.x b.min.x b.max.x
    + slight_on bound a.min.y a.max.y b.min.y b.max.y
    + slight_on bound a.min.z a.max.z b.min.z b.max.z

-- "on at least one axis"
abbrev pub is_slight : ℤ → Aabb → Aabb → Bool
is_slight bound a b = leb 1 (slight_axes bound a b)
