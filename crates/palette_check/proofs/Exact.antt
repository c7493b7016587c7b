-- The palette's numbers are exact: each edge is a whole number of sixteenths and no rounding changes it; the friction is the f32 nearest 0.6.
-- Assumes nothing.
use mathlib.Core.Bool.{Bool, true, false}
use mathlib.Core.Path.{◌≡◌, refl}
use Prim.Native.Nat.{ℕ, ◌*◌, ◌<◌}
use lib.Dec.{eqb}
use lib.Ieee.{Float, nan, inf, fin, up, down, binary32, of_int, of_bits, round, div, to_bits}
use Rattle.base.specs.Every.{every}
use Rattle.base.proofs.Every.{every-at}
use Rattle.palette_boxes.specs.Shapes.{sixteenths}
use Rattle.palette.specs.Palette.{friction}

-- the float is n / 16: `fin false m e` is m * 2 ^ e
abbrev pub is_sixteenths : ℕ → Float → Bool
is_sixteenths n nan = false
is_sixteenths n (inf s) = false
is_sixteenths n (fin true m e) = false
is_sixteenths n (fin false m e) = eqb (m * up e * 16) (n * down e)

exactly : ℕ → Bool
exactly n = is_sixteenths n (sixteenths n)

-- up to 24, the greatest height
pub exact : (n : ℕ) → n < 25 → is_sixteenths n (sixteenths n) ≡ true
unfolding exactly every of_int of_bits round div
exact n h = every-at 25 exactly refl n h

-- 3 / 5
pub friction-nearest : to_bits binary32 (round binary32 false 3 5) ≡ friction
unfolding to_bits round
friction-nearest = refl
