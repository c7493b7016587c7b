-- The numbers of the Rust text, by their bits; that each is the f64 nearest to its decimal is a law (proofs/Constants.antt).
use Rattle.std.specs.Prelude.{Float}
use Rattle.std.specs.Float.{binary64}
use Rattle.std.specs.Float.Ieee.{of_bits}

-- 0.6
abbrev pub default_grip : Float
default_grip = of_bits binary64 4603579539098121011

-- 1.0e-7
abbrev pub tiny : Float
tiny = of_bits binary64 4502148214488346440

-- 0.0001
abbrev pub slow : Float
slow = of_bits binary64 4547007122018943789

-- 0.0005, 0.99 and 0.0006
abbrev pub lift : Float
lift = of_bits binary64 4557750909289998844

abbrev pub water_viscosity : Float
water_viscosity = of_bits binary64 4607092346807469998

abbrev pub buoyancy : Float
buoyancy = of_bits binary64 4558673246493684321

-- 0.95
abbrev pub lava_viscosity : Float
lava_viscosity = of_bits binary64 4606732058837280358
