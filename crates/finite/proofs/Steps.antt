-- A step's numbers stay within bounds (`step-finds`): positions within 2 ^ 25 + 102, velocities within 26,112. A velocity of 64 is 68 with a current, 70
-- after flotation and 86 after gravity before the move; a living body has no current, so its fall is within 80, then 96 with gravity, times 16 for
-- drag and 17 for its flap. Assumes nothing.
use mathlib.Core.Path.{◌≡◌, refl}
use mathlib.Core.Bool.{Bool, true, false, ◌&&◌, false≢true}
use mathlib.Core.List.{List}
use Prim.Native.Nat.{ℕ, ◌+◌, ◌*◌, ◌^◌, ◌≤◌}
use native.Mathlib.Omega.{arith}
use lib.Dec.{lit≤}
use lib.Ieee.{Float, binary64, of_bits, div}
use Rattle.base.specs.Choose.{choose}
use Rattle.base.specs.Ask.{Ask}
use Rattle.base.proofs.Bounds.{Within, add-within, sub_within, mul-within, more, either-most, half-within}
use Rattle.floats.specs.Numbers.{one64}
use Rattle.boxes.specs.declared.Vec3.{Vec3}
use Rattle.boxes.specs.declared.Aabb.{Aabb}
use Rattle.boxes.specs.Boxes.{two64, from_feet, feet_of}
use Rattle.boxes.specs.Vectors.{zero_vec}
use Rattle.sweeps.specs.declared.MoveResult.{MoveResult}
use Rattle.tables.specs.declared.LiquidKind.{LiquidKind}
use Rattle.tables.specs.declared.LiquidKind.TheVariants.{None, Water, Lava}
use Rattle.table_check.specs.Check.{tables_fit}
use Rattle.window.specs.declared.Pos.{Pos}
use Rattle.window.specs.Look.{Block}
use Rattle.ranges.specs.declared.Range.{Range}
use Rattle.ranges.specs.Cells.{cell_holding}
use Rattle.through.specs.Through.{move_aabb, move_aabb_past}
use Rattle.flow.specs.Liquid.{liquid_held}
use Rattle.liquids.specs.Flotation.{item_flotation}
use Rattle.bodies.specs.declared.Model.{Model}
use Rattle.bodies.specs.declared.Model.TheVariants.{Item, Living, FallingBlock, Other}
use Rattle.bodies.specs.declared.Stage.{Stage}
use Rattle.bodies.specs.declared.Stage.TheVariants.{BeforeMove, AfterMove, AfterDrag}
use Rattle.bodies.specs.declared.Ground.{Ground}
use Rattle.bodies.specs.declared.Ground.TheVariants as grounds
use Rattle.std.specs.Prelude.{Option}
use Rattle.std.specs.Prelude as option
use Rattle.bodies.specs.declared.Body.{Body}
use Rattle.bodies.specs.declared.Rules.{Rules}
use Rattle.bodies.specs.declared.Motion.{Motion}
use Rattle.bodies.specs.Body.{is_item, is_living, is_falling_block}
use Rattle.drags.specs.declared.Sample.{Sample}
use Rattle.drags.specs.declared.Support.{Support}
use Rattle.drags.specs.declared.Support.TheVariants.{Asked, NotAsked}
use Rattle.drags.specs.Constants.{default_grip, lift, water_viscosity, buoyancy, lava_viscosity}
use Rattle.drags.specs.Drags as drag
use Rattle.samples.specs.Samples as sample
use Rattle.ticks.specs.declared.Begun.{Begun}
use Rattle.step_answers.specs.declared.Tick.{Tick}
use Rattle.ticks.specs.Step as tick
use Rattle.ticks.proofs.Tells.{Finds, one, by, either, after}
use Rattle.finite.specs.Finite.{farthest_step, fastest_step}
use Rattle.finite.proofs.Moves.{Vec, Box, Moved, wider, zero-within, zero-vec, plus-within, either-vec, window-within, past-within}
use Rattle.finite.proofs.Currents.{Flows, one-within, current-finds}
use Rattle.finite.proofs.Frictions.{Sampled, sample-within, sampled-within}

-- ---- a body and rules within their limits
abbrev Wings : Option Float → Type 0
Wings option.None = Unit {0}
Wings (option.Some drag) = Within drag 16

pub record Flaps (f : Option Float) : Type 0 where
  pub is : Wings f

pub record BodyFits (b : Body) : Type 0 where
  pub width : Within b.width 16
  pub height : Within b.height 16
  pub gravity : Within b.gravity 16
  pub vertical : Within b.vertical 16
  pub horizontal : Within b.horizontal 16
  pub step : Within b.step 4
  pub flap : Flaps b.flap

pub record RulesFit (r : Rules) : Type 0 where
  pub friction : Within r.friction 16
  pub gravity : Within r.gravity 16
  pub water : Within r.water 16
  pub lava : Within r.lava 16

pub record MotionFits (m : Motion) : Type 0 where
  pub feet : Vec m.feet (2 ^ 25)
  pub velocity : Vec m.velocity 64

-- ---- numbers of the Rust text
grip-within : Within default_grip 16
unfolding of_bits
grip-within = record { is = lit≤ tt }

lift-within : Within lift 1
unfolding of_bits
lift-within = record { is = lit≤ tt }

viscosity-within : Within water_viscosity 1
unfolding of_bits
viscosity-within = record { is = lit≤ tt }

buoyancy-within : Within buoyancy 1
unfolding of_bits
buoyancy-within = record { is = lit≤ tt }

lava-within : Within lava_viscosity 1
unfolding of_bits
lava-within = record { is = lit≤ tt }

-- ---- the box of a body, and the feet of a box
half : (x : Float) (n : ℕ) → Within x (2 * n) → n ≤ 2 ^ 53 → Within (div binary64 x two64) n
unfolding of_bits
half x n h l = half-within x n h l

abbrev place : ℕ
place = 2 ^ 25 + 16

feet-box : (feet : Vec3) (width height : Float) → Vec feet (2 ^ 25) → Within width 16 → Within height 16 → Box (from_feet feet width height) place
feet-box feet width height F W H =
    let g : Within (div binary64 width two64) 16 = more _ 8 16 (half width 8 W (lit≤ tt)) (lit≤ tt) in
    let l : 2 ^ 25 + 16 ≤ 2 ^ 53 = lit≤ tt in
    record {
      min = record { x = sub_within _ _ (2 ^ 25) 16 F.x g l; y = more _ (2 ^ 25) place F.y (lit≤ tt); z = sub_within _ _ (2 ^ 25) 16 F.z g l };
      max = record { x = add-within _ _ (2 ^ 25) 16 F.x g l; y = add-within _ _ (2 ^ 25) 16 F.y H l; z = add-within _ _ (2 ^ 25) 16 F.z g l };
    }

box-feet : (b : Aabb) (n : ℕ) → Box b n → n + n ≤ 2 ^ 53 → Vec (feet_of b) n
box-feet b n h l =
    record {
      x = half _ n (more _ (n + n) (2 * n) (add-within _ _ n n h.min.x h.max.x l) (omega arith)) (omega arith);
      y = h.min.y;
      z = half _ n (more _ (n + n) (2 * n) (add-within _ _ n n h.min.z h.max.z l) (omega arith)) (omega arith);
    }

-- ---- before the move: 70 on each axis, 64 for a living body, and 16 more with gravity
afloat-within : (viscosity : Float) (v : Vec3) → Within viscosity 1 → Vec v 68 → Vec (drag.afloat viscosity v) 70
afloat-within viscosity v h K =
    record {
      x = more _ 68 70 (mul-within v.x viscosity 68 1 K.x h (lit≤ tt)) (lit≤ tt);
      y = add-within _ _ 69 1 (mul-within _ _ 69 1 (add-within v.y lift 68 1 K.y lift-within (lit≤ tt)) viscosity-within (lit≤ tt)) buoyancy-within (lit≤ tt);
      z = more _ 68 70 (mul-within v.z viscosity 68 1 K.z h (lit≤ tt)) (lit≤ tt);
    }

floated-within : (k : LiquidKind) (v : Vec3) → Vec v 68 → Vec (drag.floated k v) 70
unfolding drag.floated
floated-within None v K = wider v 68 70 K (lit≤ tt)
floated-within Water v K = afloat-within water_viscosity v viscosity-within K
floated-within Lava v K = afloat-within lava_viscosity v lava-within K

pulled-within : (n : ℕ) (body : Body) (k : LiquidKind) (v : Vec3) → BodyFits body → Vec v n → n + 16 ≤ 2 ^ 53 → Vec (drag.pulled body k v) (n + 16)
unfolding drag.pulled
pulled-within n body k v F K l =
    either-vec _ _ _ (n + 16)
    record {
      x = more _ n (n + 16) K.x (omega arith);
      y = sub_within v.y body.gravity n 16 K.y F.gravity l;
      z = more _ n (n + 16) K.z (omega arith);
    }
    (wider v n (n + 16) K (omega arith))

stopped-within : (moved v : Float) (n : ℕ) → Within v n → Within (drag.unless_stopped moved v) n
unfolding drag.unless_stopped
stopped-within moved v n h = either-most _ _ _ n 1 (zero-within n) h

kept-within : (moved v : Vec3) (n : ℕ) → Vec v n → Vec (drag.kept_after moved v) n
kept-within moved v n K =
    record { x = stopped-within _ v.x n K.x; y = stopped-within _ v.y n K.y; z = stopped-within _ v.z n K.z }

-- ---- after the move: 26,112 on each axis
damped-within : (horizontal axis : Float) → Within horizontal 256 → Within axis 80 → Within (drag.damped horizontal axis) fastest_step
unfolding drag.damped
damped-within horizontal axis h a = either-most _ _ _ fastest_step 1 (zero-within fastest_step) (more _ (80 * 256) fastest_step (mul-within axis horizontal 80 256 a h (lit≤ tt)) (lit≤ tt))

fallen-within : (n : ℕ) (body : Body) (y : Float) → BodyFits body → Within y n → n + 16 ≤ 2 ^ 53 → (n + 16) * 16 ≤ 2 ^ 53 → Within (drag.fallen body y) ((n + 16) * 16)
fallen-within n body y F h l m = mul-within _ body.vertical (n + 16) 16 (sub_within y body.gravity n 16 h F.gravity l) F.vertical m

flapped-within : (f : Option Float) (y : Float) → Flaps f → Within y 1536 → Within (drag.flapped f y) fastest_step
unfolding drag.flapped
flapped-within option.None y F h = more y 1536 fastest_step h (lit≤ tt)
flapped-within (option.Some d) y F h =
    either-most _ _ _ fastest_step 1
    (more _ (1536 * 17) fastest_step (mul-within y _ 1536 17 h (sub_within one64 d 1 16 one-within F.is (lit≤ tt)) (lit≤ tt)) (lit≤ tt))
    (more y 1536 fastest_step h (lit≤ tt))

sunk-within : (rules : Rules) (body : Body) (d y : Float) → RulesFit rules → Within d 16 → Within y 80 → Within (drag.sunk rules body d y) 1536
unfolding drag.sunk
sunk-within rules body d y R D h =
    mul-within _ d 96 16 (sub_within y _ 80 16 h (either-most _ _ _ 16 1 R.gravity (zero-within 16)) (lit≤ tt)) D (lit≤ tt)

living-within : (horizontal y : Float) (v : Vec3) → Within horizontal 256 → Within y fastest_step → Vec v 80 → Vec (drag.living_velocity horizontal y v) fastest_step
living-within horizontal y v H Y K = record { x = damped-within horizontal v.x H K.x; y = Y; z = damped-within horizontal v.z H K.z }

liquid-within : (rules : Rules) (body : Body) (d : Float) (v : Vec3) → RulesFit rules → Within d 16 → Vec v 80 → Vec (drag.living_in_liquid rules body d v) fastest_step
liquid-within rules body d v R D K =
    living-within d _ v (more d 16 256 D (lit≤ tt)) (more _ 1536 fastest_step (sunk-within rules body d v.y R D K.y) (lit≤ tt)) K

vertical-within : (s : Stage) (body : Body) (y : Float) → BodyFits body → Within y 86 → Within (drag.vertical_after s body y) fastest_step
vertical-within BeforeMove body y F h = more _ (86 * 16) fastest_step (mul-within y body.vertical 86 16 h F.vertical (lit≤ tt)) (lit≤ tt)
vertical-within AfterMove body y F h = more _ (102 * 16) fastest_step (fallen-within 86 body y F h (lit≤ tt) (lit≤ tt)) (lit≤ tt)
vertical-within AfterDrag body y F h =
    more _ (86 * 16 + 16) fastest_step (sub_within _ body.gravity (86 * 16) 16 (mul-within y body.vertical 86 16 h F.vertical (lit≤ tt)) F.gravity (lit≤ tt)) (lit≤ tt)

-- ---- the sample that is taken after the move
abbrev Slight : Support → Type 0
Slight (Asked s) = Sampled s
Slight NotAsked = Unit {0}

record Supported (s : Support) : Type 0 where
  is : Slight s

grip-finite : (horizontal default : Float) (s : Support) → Within horizontal 16 → Within default 16 → Supported s → Within (drag.grip horizontal default s) 256
grip-finite horizontal default (Asked s) h d g = mul-within horizontal _ 16 16 h (sample-within default s d g.is) (lit≤ tt)
grip-finite horizontal default NotAsked h d g = more horizontal 16 256 h (lit≤ tt)

-- ---- the step

pub record Steps (t : Tick) : Type 0 where
  pub feet : Vec t.motion.feet farthest_step
  pub velocity : Vec t.motion.velocity fastest_step

chosen-tick : (t : Bool) (a b : Tick) → (t ≡ true → Steps a) → Steps b → Steps (choose t a b)
unfolding choose
chosen-tick true a b h g = h refl
chosen-tick false a b h g = g

chosen-begun : {P : Begun → Type 0} (t : Bool) (a b : Ask Begun) → (t ≡ true → Finds P a) → Finds P b → Finds P (choose t a b)
unfolding choose
chosen-begun true a b h g = h refl
chosen-begun false a b h g = g

-- a living body is no item, so that no current and no flotation has changed its velocity
not-both : (m : Model) → is_item m ≡ true → is_living m ≡ true → ⊥
not-both Item i l = false≢true l
not-both Living i l = false≢true i
not-both FallingBlock i l = false≢true i
not-both Other i l = false≢true i

record Ready (m : Model) (b : Begun) : Type 0 where
  any : Vec b.velocity 70
  living : is_living m ≡ true → Vec b.velocity 64

-- the velocity with which a body comes out of its move
record Kept (m : Model) (v : Vec3) : Type 0 where
  any : Vec v 86
  living : is_living m ≡ true → Vec v 80

-- a mover, and that it keeps within the bounds of a move
abbrev pub Mover : Type 0
Mover = Aabb → Vec3 → Float → Bool → Ask MoveResult

abbrev pub Moving : Mover → Type 0
Moving move = (aabb : Aabb) (u : Vec3) (step : Float) (on_ground : Bool) → Box aabb place → Vec u 86 → Within step 4 → Finds (Moved place 86) (move aabb u step on_ground)

pub plain-moving : (cap : ℕ) (look : Pos → Ask Block) (records : List ℕ) (shapes : List Float) → Moving (move_aabb cap look records shapes)
plain-moving cap look records shapes = window-within place 86 (lit≤ tt) 4 (lit≤ tt) cap look records shapes

pub past-moving : (cap : ℕ) (over : Range → ℕ → Bool) (look : Pos → Ask Block) (records : List ℕ) (shapes : List Float) → Moving (move_aabb_past cap over look records shapes)
past-moving cap over look records shapes = past-within place 86 (lit≤ tt) 4 (lit≤ tt) cap over look records shapes

module _ (look : Pos → Ask Block) (records : List ℕ) (shapes : List Float) (fit : tables_fit records shapes ≡ true) (rules : Rules) (body : Body) (R : RulesFit rules) (F : BodyFits body) where
  -- ---- after the move
  told-finds : (asked : Ask Sample) → Finds Sampled asked → Finds Supported (sample.told asked)
  unfolding sample.told
  told-finds asked h = by asked _ h (λ s S. one _ record { is = S })

  living-support : (feet : Vec3) (on_ground : Bool) (k : LiquidKind) → Finds Supported (sample.living_support look records rules feet on_ground k)
  unfolding sample.living_support sample.living_sample
  living-support feet on_ground Water = one _ record { is = tt }
  living-support feet on_ground Lava = one _ record { is = tt }
  living-support feet on_ground None = either on_ground _ _ (told-finds _ (sampled-within records shapes fit rules.air _)) (one _ record { is = tt })

  ground-support : (feet : Vec3) (g : Ground) → Finds Supported (sample.ground_support look records rules feet g)
  unfolding sample.supporting_friction
  ground-support feet grounds.None = one _ record { is = tt }
  ground-support feet grounds.Block = told-finds _ (sampled-within records shapes fit rules.air _)

  support-finds : (liquid : LiquidKind) (feet : Vec3) (on_ground : Bool) → Finds Supported (sample.support_after look records rules body liquid feet on_ground)
  unfolding sample.support_after
  support-finds liquid feet on_ground =
      either (is_falling_block body.model && on_ground) _ _ (one _ record { is = tt })
      (either (is_living body.model) _ _ (living-support feet on_ground liquid)
      (either on_ground _ _ (ground-support feet body.friction) (one _ record { is = tt })))

  living-drag : (k : LiquidKind) (s : Support) (v : Vec3) → Supported s → Vec v 80 → Vec (drag.apply_living_drag rules body k s v) fastest_step
  living-drag Water s v S K = liquid-within rules body rules.water v R R.water K
  living-drag Lava s v S K = liquid-within rules body rules.lava v R R.lava K
  living-drag None s v S K =
      living-within (drag.grip body.horizontal rules.friction s) _ v (grip-finite body.horizontal rules.friction s F.horizontal R.friction S)
      (flapped-within body.flap _ F.flap (fallen-within 80 body v.y F K.y (lit≤ tt) (lit≤ tt))) K

  dragged-within : (s : Support) (v : Vec3) → Supported s → Vec v 86 → Vec (drag.dragged body s v) fastest_step
  dragged-within s v S K =
      let h : Float = drag.grip body.horizontal default_grip s in
      let H : Within h 256 = grip-finite body.horizontal default_grip s F.horizontal grip-within S in
      record {
        x = more _ (86 * 256) fastest_step (mul-within v.x h 86 256 K.x H (lit≤ tt)) (lit≤ tt);
        y = vertical-within body.stage body v.y F K.y;
        z = more _ (86 * 256) fastest_step (mul-within v.z h 86 256 K.z H (lit≤ tt)) (lit≤ tt);
      }

  tick-steps : (liquid : LiquidKind) (feet : Vec3) (on_ground : Bool) (s : Support) (v : Vec3) → Vec feet farthest_step → Supported s → Kept body.model v
      → Steps (tick.tick_after rules body liquid feet on_ground s v)
  unfolding tick.tick_after
  tick-steps liquid feet on_ground s v P S K =
      chosen-tick (is_falling_block body.model && on_ground) _ _ (λ e. record { feet = P; velocity = zero-vec fastest_step })
      (chosen-tick (is_living body.model) _ _ (λ e. record { feet = P; velocity = living-drag liquid s v S (K.living e) })
      record { feet = P; velocity = dragged-within s v S K.any })

  after-finds : (liquid : LiquidKind) (feet : Vec3) (on_ground : Bool) (v : Vec3) → Vec feet farthest_step → Kept body.model v → Finds Steps (tick.after_move look records rules body liquid feet on_ground v)
  unfolding tick.after_move
  after-finds liquid feet on_ground v P K = by _ _ (support-finds liquid feet on_ground) (λ s S. one _ (tick-steps liquid feet on_ground s v P S K))

  -- whatever the move came to, within its bounds
  moved-finds : (liquid : LiquidKind) (u : Vec3) (r : MoveResult) → Kept body.model u → Moved place 86 r
      → Finds Steps (tick.after_move look records rules body liquid (feet_of r.aabb) r.on_ground (drag.kept_after r.moved u))
  moved-finds liquid u r K M =
      after-finds liquid (feet_of r.aabb) r.on_ground (drag.kept_after r.moved u) (box-feet r.aabb farthest_step M.box (lit≤ tt))
      record { any = kept-within r.moved u 86 K.any; living = λ e. kept-within r.moved u 80 (K.living e) }

  move-finds : (move : Mover) → Moving move → (aabb : Aabb) (on_ground : Bool) (liquid : LiquidKind) (b : Begun) → Box aabb place → Ready body.model b
      → Finds Steps (tick.move_on_by move look records rules body aabb on_ground b.flotation liquid b.velocity)
  unfolding tick.move_on_by
  move-finds move within aabb on_ground liquid b B K =
      let u : Vec3 = drag.pulled body b.flotation b.velocity in
      let U : Vec u 86 = pulled-within 70 body b.flotation b.velocity F K.any (lit≤ tt) in
      by _ _ (within aabb u body.step on_ground B U F.step) (λ r M.
      moved-finds liquid u r record { any = U; living = λ e. pulled-within 64 body b.flotation b.velocity F (K.living e) (lit≤ tt) } M)

  -- ---- the whole
  module _ (motion : Motion) (age : ℕ) (M : MotionFits motion) where
    item-finds : (aabb : Aabb) → is_item body.model ≡ true → Finds (Ready body.model) (tick.item_begins look records body aabb motion age)
    unfolding tick.item_begins
    item-finds aabb i =
        after (liquid_held look records (cell_holding motion.feet)) _ (λ s.
        by _ _ (current-finds look records aabb (cell_holding motion.feet) s) (λ c C.
        after (item_flotation look records body.offset body.height motion.feet (cell_holding motion.feet) s) _ (λ k.
        one _ record {
          any = floated-within k _ (plus-within motion.velocity c.flow 64 4 M.velocity C.flow (lit≤ tt));
          living = λ l. absurd (not-both body.model i l);
        })))

    begins-finds : (aabb : Aabb) → Finds (Ready body.model) (tick.tick_begins look records body aabb motion age)
    unfolding tick.tick_begins
    begins-finds aabb =
        chosen-begun (is_item body.model) _ _ (item-finds aabb)
        (one _ record { any = wider motion.velocity 64 70 M.velocity (lit≤ tt); living = λ l. M.velocity })

    pub step-finds : (move : Mover) → Moving move → Finds Steps (tick.step_body_by move look records rules body motion age)
    unfolding tick.step_body_by
    step-finds move within =
        let aabb : Aabb = from_feet motion.feet body.width body.height in
        by _ _ (begins-finds aabb) (λ b B.
        either b.rests _ _
        (one _ record { feet = wider motion.feet (2 ^ 25) farthest_step M.feet (lit≤ tt); velocity = wider b.velocity 70 fastest_step B.any (lit≤ tt) })
        (after (tick.senses look records body aabb) _ (λ k.
        move-finds move within aabb motion.on_ground k b (feet-box motion.feet body.width body.height M.feet F.width F.height) B)))
