-- What a step does to a body's velocity, in the Rust's order and line by line: `apply_living_drag` and the lines of `step_body_sensed` that ask
-- for no cell. What the Rust changes through `&mut` goes in and comes back by value; the mob constants come as `rules`; the friction that the
-- Rust samples meanwhile comes as a `Support`. Where the Rust has an `Option<LiquidKind>` there is a `LiquidKind`, whose `None` is the Rust's.
use Rattle.std.specs.Prelude.{Bool, true, false, not, ◌&&◌, ℕ, ◌%◌, eqb, Float}
use Rattle.std.specs.Float.{binary64}
use Rattle.std.specs.Float.Ieee.{add, sub, mul, lt, le, ne}
use Rattle.base.specs.Choose.{choose}
use Rattle.floats.specs.Numbers.{zero64, size_of, one64}
use Rattle.boxes.specs.declared.Vec3.{Vec3}
use Rattle.boxes.specs.Boxes.{vec}
use Rattle.tables.specs.declared.LiquidKind.{LiquidKind}
use Rattle.tables.specs.declared.LiquidKind.TheVariants.{None, Water, Lava}
use Rattle.boxes.specs.Vectors.{squared}
use Rattle.bodies.specs.declared.Stage.{Stage}
use Rattle.bodies.specs.declared.Stage.TheVariants.{BeforeMove, AfterMove, AfterDrag}
use Rattle.std.specs.Prelude.{Option}
use Rattle.std.specs.Prelude as option
use Rattle.bodies.specs.declared.Body.{Body}
use Rattle.bodies.specs.declared.Rules.{Rules}
use Rattle.drags.specs.declared.Support.{Support}
use Rattle.drags.specs.declared.Support.TheVariants.{Asked, NotAsked}
use Rattle.drags.specs.Cases.{sample_or}
use Rattle.drags.specs.Constants.{default_grip, tiny, slow, lift, water_viscosity, buoyancy, lava_viscosity}

-- ---- what a sample comes to

-- horizontal * friction where a sample was taken, and else horizontal alone
abbrev pub grip : Float → Float → Support → Float
grip horizontal default (Asked sample) = mul binary64 horizontal (sample_or default sample)
grip horizontal default NotAsked = horizontal

-- ---- apply_living_drag

-- in a liquid: velocity.y = (velocity.y - gravity) * drag, where gravity is the liquid's if the body has any
unfoldable pub sunk : Rules → Body → Float → Float → Float
sunk rules body drag y =
    mul binary64 (sub binary64 y (choose (lt zero64 body.gravity) rules.gravity zero64)) drag

-- if let Some(flap) = body.wing_flap_drag && velocity.y < 0.0 { velocity.y *= 1.0 - flap; }
unfoldable pub flapped : Option Float → Float → Float
flapped option.None y = y
flapped (option.Some drag) y = choose (lt y zero64) (mul binary64 y (sub binary64 one64 drag)) y

-- velocity.y = (velocity.y - body.gravity) * body.vertical_drag;
abbrev pub fallen : Body → Float → Float
fallen body y = mul binary64 (sub binary64 y body.gravity) body.vertical

-- *axis *= horizontal; if axis.abs() <= 1.0e-7 { *axis = 0.0; }
unfoldable pub damped : Float → Float → Float
damped horizontal axis =
    let v : Float = mul binary64 axis horizontal in
    choose (le (size_of v) tiny) zero64 v

abbrev pub living_velocity : Float → Float → Vec3 → Vec3
living_velocity horizontal y v = vec (damped horizontal v.x) y (damped horizontal v.z)

abbrev pub living_in_liquid : Rules → Body → Float → Vec3 → Vec3
living_in_liquid rules body drag v = living_velocity drag (sunk rules body drag v.y) v

-- the rest of it; on_ground is in the sample: in the air none was taken
abbrev pub living_in_air : Rules → Body → Support → Vec3 → Vec3
living_in_air rules body support v =
    living_velocity (grip body.horizontal rules.friction support) (flapped body.flap (fallen body v.y)) v

abbrev pub apply_living_drag : Rules → Body → LiquidKind → Support → Vec3 → Vec3
apply_living_drag rules body Water support v = living_in_liquid rules body rules.water v
apply_living_drag rules body Lava support v = living_in_liquid rules body rules.lava v
apply_living_drag rules body None support v = living_in_air rules body support v

-- ---- step_body_sensed, an item before its move

-- velocity.y = (velocity.y + 0.0005) * 0.99 + 0.0006; velocity.x *= viscosity; velocity.z *= viscosity;
abbrev pub afloat : Float → Vec3 → Vec3
afloat viscosity v =
    vec
    (mul binary64 v.x viscosity)
    (add binary64 (mul binary64 (add binary64 v.y lift) water_viscosity) buoyancy)
    (mul binary64 v.z viscosity)

-- if let Some(kind) = flotation
unfoldable pub floated : LiquidKind → Vec3 → Vec3
floated None v = v
floated Water v = afloat water_viscosity v
floated Lava v = afloat lava_viscosity v

-- `squared` is velocity.length_squared(): *on_ground && velocity.length_squared() <= 0.0001 && !in_water && !age.is_multiple_of(4)
unfoldable pub rests_now : Bool → Vec3 → Bool → ℕ → Bool
rests_now on_ground v in_water age = on_ground && le (squared v) slow && not in_water && not (eqb (age % 4) 0)

-- ---- step_body_sensed, around the move

abbrev pub is_before_move : Stage → Bool
is_before_move BeforeMove = true
is_before_move AfterMove = false
is_before_move AfterDrag = false

abbrev pub is_dry : LiquidKind → Bool
is_dry None = true
is_dry Water = false
is_dry Lava = false

-- if body.gravity_stage == GravityStage::BeforeMove && flotation.is_none() { velocity.y -= body.gravity; }
unfoldable pub pulled : Body → LiquidKind → Vec3 → Vec3
pulled body flotation v =
    choose (is_before_move body.stage && is_dry flotation) (vec v.x (sub binary64 v.y body.gravity) v.z) v

-- if result.moved.x != velocity.x { velocity.x = 0.0; }, and so for y and z
unfoldable pub unless_stopped : Float → Float → Float
unless_stopped moved v = choose (ne moved v) zero64 v

abbrev pub kept_after : Vec3 → Vec3 → Vec3
kept_after moved v =
    vec (unless_stopped moved.x v.x) (unless_stopped moved.y v.y) (unless_stopped moved.z v.z)

-- ---- step_body_sensed, after the move

-- the match on body.gravity_stage
abbrev pub vertical_after : Stage → Body → Float → Float
vertical_after BeforeMove body y = mul binary64 y body.vertical
vertical_after AfterMove body y = mul binary64 (sub binary64 y body.gravity) body.vertical
vertical_after AfterDrag body y = sub binary64 (mul binary64 y body.vertical) body.gravity

-- every other body: horizontal *= supporting_friction(blocks, feet).unwrap_or(0.6), where a sample was taken
abbrev pub dragged : Body → Support → Vec3 → Vec3
dragged body support v =
    let horizontal : Float = grip body.horizontal default_grip support in
    vec (mul binary64 v.x horizontal) (vertical_after body.stage body v.y) (mul binary64 v.z horizontal)
