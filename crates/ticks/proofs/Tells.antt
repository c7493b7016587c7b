-- Where a tick tells a sample: exactly where its body does not rest and the Rust takes one. Assumes nothing.
use mathlib.Core.Path.{◌≡◌, refl, subst}
use mathlib.Core.Bool.{Bool, true, false, not, ◌&&◌}
use mathlib.Core.List.{List}
use Prim.Native.Nat.{ℕ}
use native.Mathlib.Omega.{arith}
use lib.Ieee.{Float}
use Rattle.base.specs.Choose.{choose}
use Rattle.base.specs.Ask.{Ask, refused, found, ◌>>=◌}
use Rattle.boxes.specs.declared.Vec3.{Vec3}
use Rattle.boxes.specs.declared.Aabb.{Aabb}
use Rattle.boxes.specs.Boxes.{from_feet, feet_of}
use Rattle.boxes.specs.Vectors.{zero_vec}
use Rattle.tables.specs.declared.LiquidKind.{LiquidKind}
use Rattle.tables.specs.declared.LiquidKind.TheVariants.{None}
use Rattle.window.specs.declared.Pos.{Pos}
use Rattle.window.specs.Look.{Block}
use Rattle.sweeps.specs.Lists.{cap_of}
use Rattle.through.specs.Through.{move_aabb}
use Rattle.bodies.specs.declared.Model.{Model}
use Rattle.bodies.specs.declared.Model.TheVariants.{Item, Living, FallingBlock, Other}
use Rattle.bodies.specs.declared.Body.{Body}
use Rattle.bodies.specs.declared.Rules.{Rules}
use Rattle.bodies.specs.declared.Motion.{Motion}
use Rattle.bodies.specs.Body.{is_living, is_falling_block}
use Rattle.drags.specs.declared.Support.{Support}
use Rattle.drags.specs.declared.Support.TheVariants.{NotAsked}
use Rattle.drags.specs.Drags.{is_dry, apply_living_drag, pulled, kept_after, dragged}
use Rattle.samples.specs.Samples.{is_block, takes_sample, is_asked, support_after}
use Rattle.samples.proofs.Asks.{asked-there}
use Rattle.ticks.specs.declared.Begun.{Begun}
use Rattle.step_answers.specs.declared.Tick.{Tick}
use Rattle.ticks.specs.Step.{tick_to, tick_after, after_move, move_on_by, tick_begins, senses, step_body_by, step_body_sensed, rests_by, is_at_rest, tells_sample}

-- ---- what all that can be found fits
pub record Finds {A : Type 0} (P : A → Type 0) (m : Ask A) : Type 0 where
  pub each : (a : A) → m ≡ found a → P a

pub nothing : {A : Type 0} {P : A → Type 0} (n : ℕ) → Finds P (refused n)
nothing n = record { each = λ a e. let z : ◌≡◌ {A = ℕ} 0 1 = cc in absurd (omega arith) }

pub one : {A : Type 0} {P : A → Type 0} (a : A) → P a → Finds P (found a)
one {P = P} a p = record { each = λ b e. let q : a ≡ b = cc in subst P q p }

pub by : {A B : Type 0} {Q : A → Type 0} {P : B → Type 0} (m : Ask A) (k : A → Ask B) → Finds Q m → ((a : A) → Q a → Finds P (k a)) → Finds P (m >>= k)
by (refused n) k h g = nothing n
by (found a) k h g = g a (h.each a refl)

pub either : {A : Type 0} {P : A → Type 0} (t : Bool) (a b : Ask A) → Finds P a → Finds P b → Finds P (choose t a b)
unfolding choose
either true a b h g = h
either false a b h g = g

pub after : {A B : Type 0} {P : B → Type 0} (m : Ask A) (k : A → Ask B) → ((a : A) → Finds P (k a)) → Finds P (m >>= k)
after (refused n) k g = nothing n
after (found a) k g = g a

-- ---- after the move: the answer's own liquid and ground flag say whether a sample was taken
module _ (look : Pos → Ask Block) (records : List ℕ) (rules : Rules) (body : Body) where
  abbrev Told : Tick → Type 0
  Told t = is_asked t.support ≡ takes_sample body t.liquid t.motion.on_ground

  -- a body that is not living hands back liquid none, and its sample does not go by it
  by-model : (m : Model) (liquid : LiquidKind) (on_ground block : Bool) (s : Support) (feet u v w : Vec3)
      → is_asked s ≡ (on_ground && choose (is_living m) (is_dry liquid) (not (is_falling_block m) && block))
      → let t : Tick = choose (is_falling_block m && on_ground) (tick_to feet u on_ground None s) (choose (is_living m) (tick_to feet v on_ground liquid s) (tick_to feet w on_ground None s)) in
      is_asked t.support ≡ (t.motion.on_ground && choose (is_living m) (is_dry t.liquid) (not (is_falling_block m) && block))
  unfolding choose
  by-model Item liquid on_ground block s feet u v w e = e
  by-model Living liquid on_ground block s feet u v w e = e
  by-model FallingBlock liquid true block s feet u v w e = e
  by-model FallingBlock liquid false block s feet u v w e = e
  by-model Other liquid on_ground block s feet u v w e = e

  tells : (liquid : LiquidKind) (feet : Vec3) (on_ground : Bool) (s : Support) (v : Vec3) → is_asked s ≡ takes_sample body liquid on_ground → Told (tick_after rules body liquid feet on_ground s v)
  unfolding tick_after takes_sample
  tells liquid feet on_ground s v e =
      by-model body.model liquid on_ground (is_block body.friction) s feet zero_vec (apply_living_drag rules body liquid s v) (dragged body s v) e

  after-tells : (liquid : LiquidKind) (feet : Vec3) (on_ground : Bool) (v : Vec3) → Finds Told (after_move look records rules body liquid feet on_ground v)
  unfolding after_move
  after-tells liquid feet on_ground v =
      by (support_after look records rules body liquid feet on_ground) _
      (record { each = asked-there look records rules feet body liquid on_ground })
      (λ s e. one (tick_after rules body liquid feet on_ground s v) (tells liquid feet on_ground s v e))

  -- ---- the tick whole
  module _ (shapes : List Float) (motion : Motion) (age : ℕ) where
    abbrev start : Aabb
    start = from_feet motion.feet body.width body.height

    on-tells : (flotation liquid : LiquidKind) (v : Vec3) → Finds Told (move_on_by (move_aabb (cap_of rules.cap) look records shapes) look records rules body start motion.on_ground flotation liquid v)
    unfolding move_on_by
    on-tells flotation liquid v =
        let velocity = pulled body flotation v in
        after (move_aabb (cap_of rules.cap) look records shapes start velocity body.step motion.on_ground) _
        (λ m. after-tells liquid (feet_of m.aabb) m.on_ground (kept_after m.moved velocity))

    abbrev ToldUnless : Bool → Tick → Type 0
    ToldUnless rests t = is_asked t.support ≡ (not rests && takes_sample body t.liquid t.motion.on_ground)

    abbrev going : Bool → Begun → Ask Tick
    going rests b =
        choose rests (found (tick_to motion.feet b.velocity motion.on_ground None NotAsked))
        (senses look records body start >>= λ liquid. move_on_by (move_aabb (cap_of rules.cap) look records shapes) look records rules body start motion.on_ground b.flotation liquid b.velocity)

    rests-or-goes : (rests : Bool) (b : Begun) → Finds (ToldUnless rests) (going rests b)
    unfolding choose
    rests-or-goes true b = one (tick_to motion.feet b.velocity motion.on_ground None NotAsked) refl
    rests-or-goes false b = after (senses look records body start) _ (λ liquid. on-tells b.flotation liquid b.velocity)

    begins : (m : Ask Begun) → Finds (ToldUnless (rests_by m)) (m >>= λ b. going b.rests b)
    begins (refused n) = nothing n
    begins (found b) = rests-or-goes b.rests b

    pub tick-tells : Finds (λ (t : Tick). is_asked t.support ≡ tells_sample look records body motion age t.liquid t.motion.on_ground) (step_body_sensed look records shapes rules body motion age)
    unfolding step_body_sensed step_body_by is_at_rest
    tick-tells = begins (tick_begins look records body start motion age)
