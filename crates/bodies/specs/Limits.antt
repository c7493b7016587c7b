-- The limits of document 01 on a body, rules and motion that a host hands in. Limits include their ends.
use Rattle.std.specs.Prelude.{Bool, ◌&&◌, List, ℕ, ltb, Float}
use Rattle.std.specs.Float.Ieee.{lt}
use Rattle.base.specs.Choose.{choose}
use Rattle.floats.specs.Numbers.{zero64, is_within_limit}
use Rattle.boxes.specs.declared.Vec3.{Vec3}
use Rattle.boxes.specs.Limits.{two_to, are_within, is_step}
use Rattle.sweeps.specs.Lists.{is_cap}
use Rattle.tables.specs.Tables.{is_registered}
use Rattle.bodies.specs.declared.BodyNumbers.{BodyNumbers}
use Rattle.bodies.specs.declared.Rules.{Rules}
use Rattle.bodies.specs.declared.MotionNumbers.{MotionNumbers}

-- ---- 3: body and rules numbers, unknown enum numbers, a yes or no above 1, an air state without a registered record, a cap above 512

-- width and height: over 0, at most 16
unfoldable pub is_extent : Float → Bool
is_extent x = is_within_limit x (two_to 4) && lt zero64 x

-- offset, gravity, drags, flap and rules numbers: of size at most 16
unfoldable pub is_small : Float → Bool
is_small x = is_within_limit x (two_to 4)

unfoldable pub measures_fit : BodyNumbers → Bool
measures_fit b =
    is_extent b.width
    && is_extent b.height
    && is_small b.offset
    && is_small b.gravity
    && is_small b.vertical
    && is_small b.horizontal
    && is_small b.flap
    && is_step b.step

-- model 0 to 3, stage 0 to 2, ground friction 0 or 1, flap present 0 or 1
unfoldable pub cases_fit : BodyNumbers → Bool
cases_fit b = ltb b.model 4 && ltb b.stage 3 && ltb b.friction 2 && ltb b.flaps 2

unfoldable pub rules_fit : List ℕ → Rules → Bool
rules_fit records rules =
    is_small rules.friction
    && is_small rules.depth
    && is_small rules.gravity
    && is_small rules.water
    && is_small rules.lava
    && is_registered records rules.air
    && is_cap rules.cap

-- all that 3 is given for
unfoldable pub numbers_are_fit : List ℕ → Rules → BodyNumbers → ℕ → Bool
numbers_are_fit records rules body grounded = measures_fit body && cases_fit body && rules_fit records rules && ltb grounded 2

-- ---- 4: coordinates to 2 ^ 25, velocity to 64 on each axis

unfoldable pub is_position : Vec3 → Bool
is_position v = are_within v (two_to 25)

unfoldable pub is_velocity : Vec3 → Bool
is_velocity v = are_within v (two_to 6)

unfoldable pub motion_fits : Vec3 → Vec3 → Bool
motion_fits feet velocity = is_position feet && is_velocity velocity

-- ---- 3, then 4; 0 where all fits

unfoldable pub number_refusal : List ℕ → Rules → BodyNumbers → MotionNumbers → ℕ
number_refusal records rules body given =
    choose (numbers_are_fit records rules body given.on_ground) (choose (motion_fits given.feet given.velocity) 0 4) 3
