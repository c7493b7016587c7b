-- Document 01's number for each case of an enum, and the body that a host's numbers mean.
use Rattle.std.specs.Prelude.{Bool, true, false, ℕ, eqb, Float, Option, Some, None}
use Rattle.base.specs.Choose.{choose}
use Rattle.bodies.specs.declared.Model.{Model}
use Rattle.bodies.specs.declared.Model.TheVariants.{Item, Living, FallingBlock, Other}
use Rattle.bodies.specs.declared.Stage.{Stage}
use Rattle.bodies.specs.declared.Stage.TheVariants.{BeforeMove, AfterMove, AfterDrag}
use Rattle.bodies.specs.declared.Ground.{Ground}
use Rattle.bodies.specs.declared.Ground.TheVariants as grounds
use Rattle.bodies.specs.declared.Body.{Body}
use Rattle.bodies.specs.declared.BodyNumbers.{BodyNumbers}
use Rattle.bodies.specs.declared.Motion.{Motion}
use Rattle.bodies.specs.declared.MotionNumbers.{MotionNumbers}
use Rattle.bodies.specs.declared.Rules.{Rules}

-- ---- the numbers of the cases; the entry refuses a number that is none of them

abbrev pub model_number : Model → ℕ
model_number Item = 0
model_number Living = 1
model_number FallingBlock = 2
model_number Other = 3

abbrev pub stage_number : Stage → ℕ
stage_number BeforeMove = 0
stage_number AfterMove = 1
stage_number AfterDrag = 2

abbrev pub friction_number : Ground → ℕ
friction_number grounds.None = 0
friction_number grounds.Block = 1

unfoldable pub model_of : ℕ → Model
model_of n =
    choose (eqb n (model_number Item)) Item
    (choose (eqb n (model_number Living)) Living
    (choose (eqb n (model_number FallingBlock)) FallingBlock
    Other))

unfoldable pub stage_of : ℕ → Stage
stage_of n =
    choose (eqb n (stage_number BeforeMove)) BeforeMove
    (choose (eqb n (stage_number AfterMove)) AfterMove
    AfterDrag)

unfoldable pub friction_of : ℕ → Ground
friction_of n = choose (eqb n (friction_number grounds.Block)) grounds.Block grounds.None

-- ---- yes is 1 and no is 0

unfoldable pub is_yes : ℕ → Bool
is_yes n = eqb n 1

unfoldable pub yes_number : Bool → ℕ
yes_number b = choose b 1 0

-- Some(drag) where the flap is present
unfoldable pub flap_of : ℕ → Float → Option Float
flap_of present drag = choose (is_yes present) (Some drag) None

-- ---- what the numbers mean

unfoldable pub body_of : BodyNumbers → Body
body_of b =
    record {
      width = b.width;
      height = b.height;
      offset = b.offset;
      gravity = b.gravity;
      vertical = b.vertical;
      horizontal = b.horizontal;
      step = b.step;
      flap = flap_of b.flaps b.flap;
      model = model_of b.model;
      stage = stage_of b.stage;
      friction = friction_of b.friction;
    }

unfoldable pub motion_of : MotionNumbers → Motion
motion_of m = record { feet = m.feet; velocity = m.velocity; on_ground = is_yes m.on_ground }

-- the same rules with this cap
abbrev pub with_cap : Rules → ℕ → Rules
with_cap rules cap =
    record {
      friction = rules.friction;
      depth = rules.depth;
      gravity = rules.gravity;
      water = rules.water;
      lava = rules.lava;
      air = rules.air;
      cap = cap;
    }

-- ---- which model it is

abbrev pub is_item : Model → Bool
is_item Item = true
is_item Living = false
is_item FallingBlock = false
is_item Other = false

abbrev pub is_living : Model → Bool
is_living Item = false
is_living Living = true
is_living FallingBlock = false
is_living Other = false

abbrev pub is_falling_block : Model → Bool
is_falling_block Item = false
is_falling_block Living = false
is_falling_block FallingBlock = true
is_falling_block Other = false
