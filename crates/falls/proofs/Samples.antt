-- The theorem at two lists of moves, by computing: what it claims holds of the record that the rule leaves, and of no other. Assumes nothing.
use mathlib.Core.List.{◌∷◌, [], ◌++◌}
use mathlib.Core.Path.{◌≡◌, refl}
use lib.Ieee.{of_bits, round, add, sub, neg, lt}
use Rattle.base.specs.Choose.{choose}
use Rattle.floats.specs.Numbers.{zero64}
use Rattle.boxes.specs.Limits.{two_to}
use Rattle.fall_rule.specs.Rule.{landing, fall_of, fall_by, fresh}
use Rattle.falls.specs.Moves.{lands, resets, deepened, none_of, Last, Since, past, all, last, never, Fallen, through}
use Rattle.falls.specs.Samples.{fall, land, swim, fall_again, sample, deep, to_landing, since_swim}
use Rattle.falls.proofs.Moves.{moves-fallen, fallen-one}

-- ---- a fall, a landing, a swim, a second fall

-- the last reset is the swim, and the last landing the landing; no move of the first fall resets
unfoldable swam : Last resets sample
unfolding none_of add sub neg lt of_bits round
swam = record { earlier = fall ++ (land ∷ []); move = swim; later = fall_again; whole = refl; is = tt; none = tt }

unfoldable landed : Last lands sample
unfolding none_of
landed = record { earlier = fall; move = land; later = swim ∷ fall_again; whole = refl; is = tt; none = tt }

fell : Since fall fall
unfolding none_of add sub neg lt of_bits round
fell = all tt

-- what the theorem claims, from the list alone: the two drops since the swim, and the three to the landing
pub sample-fallen : Fallen sample (fall_of since_swim to_landing)
unfolding swam landed deepened landing choose add sub neg lt of_bits round
sample-fallen = record { since = fall_again; is = past swam; sum = refl; landed = last landed fall fell }

-- what the rule leaves, computed; and that it is this, by the theorem
pub sample-leaves : through fresh sample ≡ fall_of since_swim to_landing
unfolding through fall_by landing choose add sub neg lt of_bits round
sample-leaves = refl

pub sample-agrees : through fresh sample ≡ fall_of since_swim to_landing
sample-agrees = fallen-one sample (through fresh sample) (fall_of since_swim to_landing) (moves-fallen sample) sample-fallen

-- ---- a fall that meets the cap, and no landing

pub deep-fallen : Fallen deep (fall_of (two_to 30) zero64)
unfolding none_of deepened choose add sub neg lt of_bits round
deep-fallen = record { since = deep; is = all tt; sum = refl; landed = never tt }

pub deep-leaves : through fresh deep ≡ fall_of (two_to 30) zero64
unfolding through fall_by landing choose add sub neg lt of_bits round
deep-leaves = refl
