-- The step: physics.rs' `step_body_sensed`, in the Rust's order and line by line. `look` is its `block_at`: what is looked up outside the window
-- is refused, and the first refusal ends the step. The mob constants, the air state and the cap come as `rules`. What the Rust changes through `&mut` goes
-- in and comes back by value, and where it has an `Option<LiquidKind>` there is a `LiquidKind`, whose `None` is the Rust's. The sample of friction
-- that it takes after its move is asked for first (`support_after` of `samples`), and what it does to the velocity is worked out from it (`drags`).
use Rattle.std.specs.Prelude.{Bool, false, not, ◌&&◌, List, ℕ, Float}
use Rattle.base.specs.Choose.{choose}
use Rattle.base.specs.Ask.{Ask, refused, found, ◌>>=◌}
use Rattle.boxes.specs.declared.Vec3.{Vec3}
use Rattle.boxes.specs.declared.Aabb.{Aabb}
use Rattle.sweeps.specs.declared.MoveResult.{MoveResult}
use Rattle.sweeps.specs.Lists.{cap_of}
use Rattle.boxes.specs.Boxes.{plus, from_feet, feet_of}
use Rattle.tables.specs.declared.LiquidKind.{LiquidKind}
use Rattle.tables.specs.declared.LiquidKind.TheVariants.{None}
use Rattle.window.specs.declared.Pos.{Pos}
use Rattle.window.specs.declared.Window.{Window}
use Rattle.window.specs.Look.{Block, look_at}
use Rattle.passing.specs.Passing.{passes}
use Rattle.through.specs.Through.{move_aabb, move_aabb_past}
use Rattle.boxes.specs.Vectors.{zero_vec}
use Rattle.flow.specs.Liquid.{liquid_held}
use Rattle.currents.specs.Current.{item_current}
use Rattle.ranges.specs.Cells.{cell_holding}
use Rattle.liquids.specs.Flotation.{item_flotation}
use Rattle.liquids.specs.Living.{living_liquid}
use Rattle.bodies.specs.declared.Body.{Body}
use Rattle.bodies.specs.declared.Rules.{Rules}
use Rattle.bodies.specs.declared.Motion.{Motion}
use Rattle.bodies.specs.Body.{is_item, is_living, is_falling_block}
use Rattle.drags.specs.declared.Sample.{Sample}
use Rattle.drags.specs.declared.Support.{Support}
use Rattle.drags.specs.declared.Support.TheVariants.{NotAsked}
use Rattle.drags.specs.Constants.{default_grip}
use Rattle.drags.specs.Cases.{sample_or}
use Rattle.drags.specs.Drags.{apply_living_drag, floated, rests_now, pulled, kept_after, dragged}
use Rattle.samples.specs.Samples.{support_after, takes_sample}
use Rattle.ticks.specs.declared.Begun.{Begun}
use Rattle.step_answers.specs.declared.Tick.{Tick}

-- ---- step_body_sensed, after the move

abbrev pub tick_to : Vec3 → Vec3 → Bool → LiquidKind → Support → Tick
tick_to feet velocity on_ground liquid support =
    record { motion = record { feet = feet; velocity = velocity; on_ground = on_ground }; liquid = liquid; support = support }

-- what follows the move, from the sample on: `v` is the velocity with its blocked axes zeroed
unfoldable pub tick_after : Rules → Body → LiquidKind → Vec3 → Bool → Support → Vec3 → Tick
tick_after rules body liquid feet on_ground support v =
    choose (is_falling_block body.model && on_ground) (tick_to feet zero_vec on_ground None support)
    (choose (is_living body.model) (tick_to feet (apply_living_drag rules body liquid support v) on_ground liquid support)
    (tick_to feet (dragged body support v) on_ground None support))

unfoldable pub after_move : (Pos → Ask Block) → List ℕ → Rules → Body → LiquidKind → Vec3 → Bool → Vec3 → Ask Tick
after_move look records rules body liquid feet on_ground v = do
  support ← support_after look records rules body liquid feet on_ground
  found (tick_after rules body liquid feet on_ground support v)

-- from gravity before the move on: `move` is the Rust's `move_aabb` among the blocks, `flotation` an item's, `liquid` a living body's, and `v` the velocity
unfoldable pub move_on_by : (Aabb → Vec3 → Float → Bool → Ask MoveResult) → (Pos → Ask Block) → List ℕ → Rules → Body → Aabb → Bool → LiquidKind → LiquidKind → Vec3 → Ask Tick
move_on_by move look records rules body aabb on_ground flotation liquid v = do
  let velocity : Vec3 = pulled body flotation v
  result ← move aabb velocity body.step on_ground
  after_move look records rules body liquid (feet_of result.aabb) result.on_ground (kept_after result.moved velocity)

-- ---- step_body_sensed, whole

-- an item's current, then its flotation, and whether it rests: where it does, both stay in the velocity
unfoldable pub item_begins : (Pos → Ask Block) → List ℕ → Body → Aabb → Motion → ℕ → Ask Begun
item_begins look records body aabb motion age = do
  let foot : Pos = cell_holding motion.feet
  state ← liquid_held look records foot
  current ← item_current look records aabb foot state
  flotation ← item_flotation look records body.offset body.height motion.feet foot state
  let velocity : Vec3 = floated flotation (plus motion.velocity current.flow)
  found record { velocity = velocity; flotation = flotation; rests = rests_now motion.on_ground velocity current.water age }

-- let flotation = if body.model == PhysicsModel::Item { .. } else { None };
unfoldable pub tick_begins : (Pos → Ask Block) → List ℕ → Body → Aabb → Motion → ℕ → Ask Begun
tick_begins look records body aabb motion age =
    choose (is_item body.model)
    (item_begins look records body aabb motion age)
    (found record { velocity = motion.velocity; flotation = None; rests = false })

-- let living_liquid = if body.model == PhysicsModel::Living { living_liquid(blocks, aabb) } else { None };
unfoldable pub senses : (Pos → Ask Block) → List ℕ → Body → Aabb → Ask LiquidKind
senses look records body aabb = choose (is_living body.model) (living_liquid look records aabb) (found None)

unfoldable pub step_body_by : (Aabb → Vec3 → Float → Bool → Ask MoveResult) → (Pos → Ask Block) → List ℕ → Rules → Body → Motion → ℕ → Ask Tick
step_body_by move look records rules body motion age = do
  let aabb : Aabb = from_feet motion.feet body.width body.height
  begun ← tick_begins look records body aabb motion age
  choose begun.rests (found (tick_to motion.feet begun.velocity motion.on_ground None NotAsked))
      (do
        liquid ← senses look records body aabb
        move_on_by move look records rules body aabb motion.on_ground begun.flotation liquid begun.velocity)

unfoldable pub step_body_sensed : (Pos → Ask Block) → List ℕ → List Float → Rules → Body → Motion → ℕ → Ask Tick
step_body_sensed look records shapes rules = step_body_by (move_aabb (cap_of rules.cap) look records shapes) look records rules

-- the same where the move passes over layers, by the summary behind the words of a window; with a true one, and with none, it is the same step
-- (proofs/Past.antt)
abbrev pub move_past : ℕ → List ℕ → Window → List ℕ → List Float → Aabb → Vec3 → Float → Bool → Ask MoveResult
move_past cap words w = move_aabb_past (cap_of cap) (passes words w) (look_at words w)

abbrev pub step_body_past : List ℕ → Window → List ℕ → List Float → Rules → Body → Motion → ℕ → Ask Tick
step_body_past words w records shapes rules = step_body_by (move_past rules.cap words w records shapes) (look_at words w) records rules

-- ---- of its sample, for who reads cases

-- "Each caller's number": where there is none a living body has the rules' default, and every other body 0.6
abbrev pub number_for : Rules → Body → Sample → Float
number_for rules body sample = sample_or (choose (is_living body.model) rules.friction default_grip) sample

-- "at rest": before any move
abbrev pub rests_by : Ask Begun → Bool
rests_by (refused n) = false
rests_by (found begun) = begun.rests

unfoldable pub is_at_rest : (Pos → Ask Block) → List ℕ → Body → Motion → ℕ → Bool
is_at_rest look records body motion age = rests_by (tick_begins look records body (from_feet motion.feet body.width body.height) motion age)

-- whether the Rust takes a sample in a tick that ends with this liquid and ground flag
abbrev pub tells_sample : (Pos → Ask Block) → List ℕ → Body → Motion → ℕ → LiquidKind → Bool → Bool
tells_sample look records body motion age liquid on_ground = not (is_at_rest look records body motion age) && takes_sample body liquid on_ground
