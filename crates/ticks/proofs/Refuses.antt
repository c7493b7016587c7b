-- Which refusals a tick can give: 5, 6 and 7. Assumes nothing.
use mathlib.Core.Path.{◌≡◌}
use mathlib.Core.Bool.{Bool, false}
use mathlib.Core.Logic.{inl, inr}
use mathlib.Core.List.{List}
use Prim.Native.Nat.{ℕ, ◌≤◌}
use native.Mathlib.Omega.{arith}
use lib.Ieee.{Float}
use Rattle.base.specs.Ask.{Ask}
use Rattle.boxes.specs.declared.Vec3.{Vec3}
use Rattle.boxes.specs.declared.Aabb.{Aabb}
use Rattle.cover.specs.declared.Side.{Side}
use Rattle.tables.specs.declared.LiquidKind.{LiquidKind}
use Rattle.tables.specs.declared.LiquidKind.TheVariants.{None, Water, Lava}
use Rattle.tables.specs.declared.LiquidState.{LiquidState}
use Rattle.window.specs.declared.Pos.{Pos}
use Rattle.window.specs.declared.Window.{Window}
use Rattle.window.specs.Look.{Block, none, some, look_at}
use Rattle.passing.specs.Passing.{passes}
use Rattle.sweeps.specs.declared.MoveResult.{MoveResult}
use Rattle.collection.proofs.Refuses.{Refuses, FiveOrSix, wider, finds, names, either, after, walks, asks, resumes, look-refuses}
use Rattle.sweeps.specs.Lists.{cap_of}
use Rattle.through.specs.Through.{move_aabb}
use Rattle.through.proofs.Moved.{move-refuses, move-past-refuses}
use Rattle.flow.specs.Liquid.{liquid_held, stops_flow, blocks_liquid_flow}
use Rattle.flow.specs.Flow.{FlowSoFar, difference, walled_by, side_flow, liquid_flow}
use Rattle.currents.specs.Current.{liquid_known, current_turn, item_current}
use Rattle.liquids.specs.Flotation.{water_state, item_flotation}
use Rattle.liquids.specs.Living.{living_turn, living_liquid}
use Rattle.bodies.specs.declared.Ground.{Ground}
use Rattle.bodies.specs.declared.Ground.TheVariants as grounds
use Rattle.bodies.specs.declared.Body.{Body}
use Rattle.bodies.specs.declared.Rules.{Rules}
use Rattle.bodies.specs.declared.Motion.{Motion}
use Rattle.drags.specs.Drags.{pulled}
use Rattle.samples.specs.Samples.{sampled, supporting_friction, living_sample, living_block_friction, told, living_support, ground_support, support_after}
use Rattle.ticks.specs.Step.{after_move, move_on_by, item_begins, tick_begins, senses, step_body_by, step_body_sensed, move_past, step_body_past}

-- ---- what asks for cells, where a look-up refuses by P
module _ {P : ℕ → Type 0} (look : Pos → Ask Block) (h : (p : Pos) → Refuses P (look p)) (records : List ℕ) where
  liquid-refuses : (p : Pos) → Refuses P (liquid_held look records p)
  unfolding liquid_held
  liquid-refuses p = after (look p) _ (h p) (λ b. finds _)

  known-refuses : (foot : Pos) (s : LiquidState) (p : Pos) → Refuses P (liquid_known look records foot s p)
  unfolding liquid_known
  known-refuses foot s p = either _ _ _ (finds _) (liquid-refuses p)

  water-refuses : (foot : Pos) (s : LiquidState) (wire : Pos) (t : LiquidState) (p : Pos) → Refuses P (water_state look records foot s wire t p)
  unfolding water_state
  water-refuses foot s wire t p = either _ _ _ (finds _) (either _ _ _ (finds _) (liquid-refuses p))

  pub flotation-refuses : (offset height : Float) (position : Vec3) (foot : Pos) (s : LiquidState) → Refuses P (item_flotation look records offset height position foot s)
  unfolding item_flotation
  flotation-refuses offset height position foot s =
      after _ _ (known-refuses foot s _) (λ a.
      after _ _ (known-refuses foot s _) (λ b.
      either _ _ _ (finds _) (after _ _ (water-refuses foot s _ a _) (λ t. finds _))))

  pub living-refuses : (aabb : Aabb) → Refuses P (living_liquid look records aabb)
  unfolding living_liquid living_turn
  living-refuses aabb = after _ _ (walks _ _ (λ p lava. after _ _ (liquid-refuses p) (λ s. finds _)) false) (resumes _ (λ lava. finds _))

  sample-refuses : (air : ℕ) (p : Pos) → Refuses P (sampled records air (look p))
  unfolding sampled
  sample-refuses air p = after (look p) _ (h p) (λ b. finds _)

  -- ---- the samples, and all that follows the move
  module _ (rules : Rules) (feet : Vec3) where
    living-sample-refuses : Refuses P (living_sample look records rules feet)
    unfolding living_sample
    living-sample-refuses = sample-refuses rules.air _

    pub friction-refuses : Refuses P (living_block_friction look records rules feet)
    unfolding living_block_friction
    friction-refuses = after _ _ living-sample-refuses (λ s. finds _)

    living-support-refuses : (on_ground : Bool) (liquid : LiquidKind) → Refuses P (living_support look records rules feet on_ground liquid)
    unfolding living_support told
    living-support-refuses on_ground None = either _ _ _ (after _ _ living-sample-refuses (λ s. finds _)) (finds _)
    living-support-refuses on_ground Water = finds _
    living-support-refuses on_ground Lava = finds _

    ground-support-refuses : (g : Ground) → Refuses P (ground_support look records rules feet g)
    unfolding supporting_friction told
    ground-support-refuses grounds.None = finds _
    ground-support-refuses grounds.Block = after _ _ (sample-refuses rules.air _) (λ s. finds _)

    support-refuses : (body : Body) (liquid : LiquidKind) (on_ground : Bool) → Refuses P (support_after look records rules body liquid feet on_ground)
    unfolding support_after
    support-refuses body liquid on_ground =
        either _ _ _ (finds _)
        (either _ _ _ (living-support-refuses on_ground liquid)
        (either _ _ _ (ground-support-refuses body.friction) (finds _)))

    after-refuses : (body : Body) (liquid : LiquidKind) (on_ground : Bool) (v : Vec3) → Refuses P (after_move look records rules body liquid feet on_ground v)
    unfolding after_move
    after-refuses body liquid on_ground v = after _ _ (support-refuses body liquid on_ground) (λ s. finds _)

  -- ---- flows and currents, which meet a 7 as well
  module _ (outside : P 5) (seven : P 7) where
    stops-refuses : (b : Block) → Refuses P (stops_flow records b)
    stops-refuses none = finds _
    stops-refuses (some s) = either _ _ _ (finds _) (names 7 seven)

    blocks-refuses : (p : Pos) → Refuses P (blocks_liquid_flow look records p)
    unfolding blocks_liquid_flow
    blocks-refuses p = after (look p) _ (h p) stops-refuses

    difference-refuses : (p : Pos) (s : LiquidState) (side : Side) → Refuses P (difference look records p s side)
    unfolding difference
    difference-refuses p s side =
        after _ _ (liquid-refuses _) (λ a.
        either _ _ _ (finds _) (after _ _ (blocks-refuses _) (λ b.
        either _ _ _ (finds _) (after _ _ (liquid-refuses _) (λ c. either _ _ _ (finds _) (finds _))))))

    walled-refuses : (p : Pos) (s : LiquidState) (side : Side) (walled : Bool) → Refuses P (walled_by look records p s side walled)
    unfolding walled_by
    walled-refuses p s side walled = either _ _ _ (after _ _ (blocks-refuses _) (λ b. either _ _ _ (finds _) (blocks-refuses _))) (finds _)

    side-refuses : (p : Pos) (s : LiquidState) (side : Side) (f : FlowSoFar) → Refuses P (side_flow look records p s side f)
    unfolding side_flow
    side-refuses p s side f = after _ _ (difference-refuses p s side) (λ g. after _ _ (walled-refuses p s side _) (λ b. finds _))

    pub flow-refuses : (p : Pos) (s : LiquidState) → Refuses P (liquid_flow look records p s)
    unfolding liquid_flow
    flow-refuses p s = after _ _ (asks _ (λ k f. side-refuses p s _ f) 4 0 _) (λ f. finds _)

    pub current-refuses : (aabb : Aabb) (foot : Pos) (t : LiquidState) → Refuses P (item_current look records aabb foot t)
    unfolding item_current current_turn
    current-refuses aabb foot t =
        either _ _ _ (names 5 outside)
        (after _ _
        (walks _ _ (λ p s. after _ _ (known-refuses foot t p) (λ a. either _ _ _ (after _ _ (flow-refuses p a) (λ f. finds _)) (finds _))) _)
        (resumes _ (λ s. finds _)))

    begins-refuses : (body : Body) (aabb : Aabb) (motion : Motion) (age : ℕ) → Refuses P (tick_begins look records body aabb motion age)
    unfolding tick_begins item_begins
    begins-refuses body aabb motion age =
        either _ _ _
        (after _ _ (liquid-refuses _) (λ s.
        after _ _ (current-refuses aabb _ s) (λ c.
        after _ _ (flotation-refuses _ _ _ _ s) (λ f. finds _))))
        (finds _)

-- ---- the step's core, over a window
abbrev pub FiveToSeven : ℕ → Type 0
FiveToSeven n = (5 ≤ n) × (n ≤ 7)

five : (n : ℕ) → n ≡ 5 → FiveToSeven n
five n e = (omega arith, omega arith)

five-or-six : (n : ℕ) → FiveOrSix n → FiveToSeven n
five-or-six n (inl e) = (omega arith, omega arith)
five-or-six n (inr e) = (omega arith, omega arith)

module _ (cells : List ℕ) (w : Window) (records : List ℕ) where
  looks : (p : Pos) → Refuses FiveToSeven (look_at cells w p)
  looks p = wider _ five (look-refuses cells w p)

  -- by a mover that refuses 5 and 6 alone
  module _ (move : Aabb → Vec3 → Float → Bool → Ask MoveResult) (refuses : (aabb : Aabb) (v : Vec3) (step : Float) (on_ground : Bool) → Refuses FiveOrSix (move aabb v step on_ground)) (rules : Rules) (body : Body) where
    on-refuses : (aabb : Aabb) (on_ground : Bool) (flotation liquid : LiquidKind) (v : Vec3) → Refuses FiveToSeven (move_on_by move (look_at cells w) records rules body aabb on_ground flotation liquid v)
    unfolding move_on_by
    on-refuses aabb on_ground flotation liquid v =
        after _ _ (wider _ five-or-six (refuses aabb (pulled body flotation v) body.step on_ground)) (λ m.
        after-refuses (look_at cells w) looks records rules _ body liquid _ _)

    by-refuses : (motion : Motion) (age : ℕ) → Refuses FiveToSeven (step_body_by move (look_at cells w) records rules body motion age)
    unfolding step_body_by senses
    by-refuses motion age =
        after _ _ (begins-refuses (look_at cells w) looks records (omega arith, omega arith) (omega arith, omega arith) body _ motion age) (λ b.
        either _ _ _ (finds _)
        (after _ _ (either _ _ _ (living-refuses (look_at cells w) looks records _) (finds _)) (λ l. on-refuses _ _ _ l _)))

  module _ (shapes : List Float) (rules : Rules) (body : Body) where
    pub core-refuses : (motion : Motion) (age : ℕ) → Refuses FiveToSeven (step_body_sensed (look_at cells w) records shapes rules body motion age)
    unfolding step_body_sensed
    core-refuses = by-refuses (move_aabb (cap_of rules.cap) (look_at cells w) records shapes) (move-refuses (cap_of rules.cap) cells w records shapes) rules body

    -- and by the summary behind the window's words
    pub past-refuses : (motion : Motion) (age : ℕ) → Refuses FiveToSeven (step_body_past cells w records shapes rules body motion age)
    past-refuses = by-refuses (move_past rules.cap cells w records shapes) (move-past-refuses (cap_of rules.cap) (passes cells w) cells w records shapes) rules body
