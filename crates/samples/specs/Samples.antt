-- Friction samples: physics.rs' `supporting_friction` and `living_block_friction`, and where a step takes one. Where the Rust's sample is `None`,
-- ours says why. `look` is its `block_at`: what is looked up outside the window is refused. The mob constants and the air state come as `rules`.
use Rattle.std.specs.Prelude.{Bool, true, false, not, ◌&&◌, List, ℕ, eqb, pos, negsuc, Float}
use Rattle.std.specs.Float.{binary64}
use Rattle.std.specs.Float.Ieee.{sub}
use Rattle.base.specs.Choose.{choose}
use Rattle.base.specs.Ask.{Ask, found, ◌>>=◌}
use Rattle.boxes.specs.declared.Vec3.{Vec3}
use Rattle.boxes.specs.Boxes.{vec}
use Rattle.tables.specs.declared.LiquidKind.{LiquidKind}
use Rattle.tables.specs.declared.LiquidKind.TheVariants.{None, Water, Lava}
use Rattle.tables.specs.Tables.{is_registered, friction_at}
use Rattle.bodies.specs.declared.Ground.{Ground}
use Rattle.bodies.specs.declared.Ground.TheVariants as grounds
use Rattle.bodies.specs.declared.Body.{Body}
use Rattle.bodies.specs.declared.Rules.{Rules}
use Rattle.bodies.specs.Body.{is_living, is_falling_block}
use Rattle.window.specs.declared.Pos.{Pos}
use Rattle.window.specs.declared.CellStep.{CellStep}
use Rattle.window.specs.Look.{Block, none, some, stepped}
use Rattle.ranges.specs.Cells.{cell_holding}
use Rattle.drags.specs.declared.Sample.{Sample}
use Rattle.drags.specs.declared.Sample.TheVariants.{Friction, Air, Unloaded, Unregistered}
use Rattle.drags.specs.declared.Support.{Support}
use Rattle.drags.specs.declared.Support.TheVariants.{Asked, NotAsked}
use Rattle.drags.specs.Cases.{sample_or}
use Rattle.drags.specs.Drags.{is_dry}

-- ---- supporting_friction

abbrev pub downwards : CellStep
downwards = record { x = pos 0; y = negsuc 0; z = pos 0 }

-- if runtime_id == AIR { return None }: air is the air state alone, and another one without boxes has its own friction
-- .get_by_runtime_id(runtime_id).map(..): the friction of a registered state
unfoldable pub sample_of_state : List ℕ → ℕ → ℕ → Sample
sample_of_state records air id = choose (eqb id air) Air (choose (is_registered records id) (Friction (friction_at records id)) Unregistered)

-- blocks.block_at(pos)?
abbrev pub sample_of_block : List ℕ → ℕ → Block → Sample
sample_of_block records air none = Unloaded
sample_of_block records air (some id) = sample_of_state records air id

unfoldable pub sampled : List ℕ → ℕ → Ask Block → Ask Sample
sampled records air asked = do
  block ← asked
  found (sample_of_block records air block)

-- the cell (floor x, floor y - 1, floor z)
unfoldable pub supporting_friction : (Pos → Ask Block) → List ℕ → Rules → Vec3 → Ask Sample
supporting_friction look records rules feet = sampled records rules.air (look (stepped (cell_holding feet) downwards))

-- ---- living_block_friction

-- the cell of the feet less the sample depth
abbrev pub sample_cell : Rules → Vec3 → Pos
sample_cell rules feet = cell_holding (vec feet.x (sub binary64 feet.y rules.depth) feet.z)

unfoldable pub living_sample : (Pos → Ask Block) → List ℕ → Rules → Vec3 → Ask Sample
living_sample look records rules feet = sampled records rules.air (look (sample_cell rules feet))

-- .map_or(DEFAULT_BLOCK_FRICTION, ..)
unfoldable pub living_block_friction : (Pos → Ask Block) → List ℕ → Rules → Vec3 → Ask Float
living_block_friction look records rules feet = do
  sample ← living_sample look records rules feet
  found (sample_or rules.friction sample)

-- ---- where a step takes a sample after its move, and which; elsewhere none is asked for

unfoldable pub told : Ask Sample → Ask Support
told asked = do
  sample ← asked
  found (Asked sample)

-- apply_living_drag: if let Some(drag) = liquid_drag { .. } else { .. if on_ground { .. living_block_friction(blocks, feet) } .. }
unfoldable pub living_support : (Pos → Ask Block) → List ℕ → Rules → Vec3 → Bool → LiquidKind → Ask Support
living_support look records rules feet on_ground Water = found NotAsked
living_support look records rules feet on_ground Lava = found NotAsked
living_support look records rules feet on_ground None = choose on_ground (told (living_sample look records rules feet)) (found NotAsked)

-- match body.ground_friction { GroundFriction::None => {} GroundFriction::Block => { .. supporting_friction(blocks, feet) .. } }
abbrev pub ground_support : (Pos → Ask Block) → List ℕ → Rules → Vec3 → Ground → Ask Support
ground_support look records rules feet grounds.None = found NotAsked
ground_support look records rules feet grounds.Block = told (supporting_friction look records rules feet)

-- if body.model == PhysicsModel::FallingBlock && *on_ground { .. return }
-- if body.model == PhysicsModel::Living { apply_living_drag(..); return }
-- if *on_ground { match body.ground_friction }
unfoldable pub support_after : (Pos → Ask Block) → List ℕ → Rules → Body → LiquidKind → Vec3 → Bool → Ask Support
support_after look records rules body liquid feet on_ground =
    choose (is_falling_block body.model && on_ground) (found NotAsked)
    (choose (is_living body.model) (living_support look records rules feet on_ground liquid)
    (choose on_ground (ground_support look records rules feet body.friction) (found NotAsked)))

-- ---- the same as a test, for who reads cases: "in the air, .. no block friction, a living body in liquid, a landed falling block" no sample is
-- taken; an item "at rest" does not come so far

abbrev pub is_block : Ground → Bool
is_block grounds.None = false
is_block grounds.Block = true

unfoldable pub takes_sample : Body → LiquidKind → Bool → Bool
takes_sample body liquid on_ground =
    on_ground && choose (is_living body.model) (is_dry liquid) (not (is_falling_block body.model) && is_block body.friction)

abbrev pub is_asked : Support → Bool
is_asked (Asked sample) = true
is_asked NotAsked = false
