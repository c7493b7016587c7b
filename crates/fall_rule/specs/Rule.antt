-- The fall record's rule, in the order of document 02's sentences, which stand in quotes.
use Rattle.std.specs.Prelude.{Bool, ◌&&◌, Float}
use Rattle.std.specs.Float.{binary64}
use Rattle.std.specs.Float.Ieee.{add, sub, neg, lt, le}
use Rattle.base.specs.Choose.{choose}
use Rattle.floats.specs.Numbers.{zero64, is_within_limit, least_of}
use Rattle.boxes.specs.Limits.{two_to}
use Rattle.tables.specs.declared.LiquidKind.{LiquidKind}
use Rattle.flow.specs.Liquid.{is_water}
use Rattle.fall_rule.specs.declared.Fall.{Fall}

-- ---- a move, and its drop

-- the new feet's y less the old, one subtraction
abbrev pub moved : Float → Float → Float
moved old new = sub binary64 new old

-- "if it went down": below zero, which neither zero is
abbrev pub went_down : Float → Bool
went_down move = lt move zero64

abbrev pub drop_of : Float → Float
drop_of move = neg move

-- "each addition rounded and capped at 2^30"
abbrev pub deeper : Float → Float → Float
deeper sum drop = least_of (add binary64 sum drop) (two_to 30)

-- ---- the rule

-- "the sum (with this move's drop added if it went down)"
unfoldable pub landing : Float → Float → Float
landing sum move = choose (went_down move) (deeper sum (drop_of move)) sum

abbrev pub fall_of : Float → Float → Fall
fall_of sum landed = record { sum = sum; landed = landed }

-- "water sensed sets the sum to 0; otherwise, on the ground, landed becomes the sum (with this move's drop added if it went down) and the sum
-- becomes 0; otherwise a downward move adds its drop; any other move sets 0. Landed otherwise keeps its number."
unfoldable pub fall_by : Fall → Bool → Bool → Float → Fall
fall_by fall water grounded move =
    choose water (fall_of zero64 fall.landed)
    (choose grounded (fall_of zero64 (landing fall.sum move))
    (choose (went_down move) (fall_of (deeper fall.sum (drop_of move)) fall.landed)
    (fall_of zero64 fall.landed)))

-- the same of a step: the feet's y before and after it, whether it is on the ground, and the liquid that it senses
abbrev pub fall_after : Fall → Float → Float → Bool → LiquidKind → Fall
fall_after fall old new grounded liquid = fall_by fall (is_water liquid) grounded (moved old new)

-- "a fresh record (both 0)"
abbrev pub fresh : Fall
fresh = fall_of zero64 zero64

-- ---- 3: "a sum or landed number given that is negative, not finite or above 2^30"; -0 is not negative

unfoldable pub is_fallen : Float → Bool
is_fallen x = is_within_limit x (two_to 30) && le zero64 x

unfoldable pub fall_fits : Fall → Bool
fall_fits fall = is_fallen fall.sum && is_fallen fall.landed
