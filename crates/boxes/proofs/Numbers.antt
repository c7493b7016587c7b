-- The numbers that definitions write as bits are those that they are said to be. Assumes nothing.
use mathlib.Core.Path.{◌≡◌, refl}
use mathlib.Core.Bool.{false}
use lib.IntN.{pos}
use lib.Ieee.{fin, binary64, of_bits}
use Rattle.floats.specs.Numbers.{zero64}
use Rattle.boxes.specs.Boxes.{two64}
use Rattle.boxes.specs.Limits.{two_to}

pub zero_is : zero64 ≡ fin false 0 (pos 0)
unfolding of_bits
zero_is = refl

pub two_is : two64 ≡ fin false 1 (pos 1)
unfolding of_bits
two_is = refl

-- the limits, as the code has them
pub four_is : of_bits binary64 4616189618054758400 ≡ two_to 2
unfolding of_bits
four_is = refl

pub sixteen_is : of_bits binary64 4625196817309499392 ≡ two_to 4
unfolding of_bits
sixteen_is = refl

pub widest_is : of_bits binary64 4638707616191610880 ≡ two_to 7
unfolding of_bits
widest_is = refl

pub furthest_is : of_bits binary64 4719772409484279808 ≡ two_to 25
unfolding of_bits
furthest_is = refl

pub ruleset limits = (four_is, sixteen_is, widest_is, furthest_is)
