-- A sample is told exactly where the test says that one is taken. Assumes nothing.
use mathlib.Core.Path.{◌≡◌, refl, sym, ◌∙◌}
use mathlib.Core.Bool.{Bool, true, false, not, ◌&&◌}
use mathlib.Core.List.{List}
use Prim.Native.Nat.{ℕ}
use native.Mathlib.Omega.{arith}
use Rattle.base.specs.Choose.{choose}
use Rattle.base.specs.Ask.{Ask, refused, found}
use Rattle.boxes.specs.declared.Vec3.{Vec3}
use Rattle.tables.specs.declared.LiquidKind.{LiquidKind}
use Rattle.tables.specs.declared.LiquidKind.TheVariants.{None, Water, Lava}
use Rattle.bodies.specs.declared.Model.{Model}
use Rattle.bodies.specs.declared.Model.TheVariants.{Item, Living, FallingBlock, Other}
use Rattle.bodies.specs.declared.Ground.{Ground}
use Rattle.bodies.specs.declared.Ground.TheVariants as grounds
use Rattle.bodies.specs.declared.Body.{Body}
use Rattle.bodies.specs.declared.Rules.{Rules}
use Rattle.bodies.specs.Body.{is_living, is_falling_block}
use Rattle.window.specs.declared.Pos.{Pos}
use Rattle.window.specs.Look.{Block}
use Rattle.drags.specs.declared.Sample.{Sample}
use Rattle.drags.specs.declared.Support.{Support}
use Rattle.drags.specs.declared.Support.TheVariants.{Asked, NotAsked}
use Rattle.drags.specs.Drags.{is_dry}
use Rattle.samples.specs.Samples.{supporting_friction, living_sample, told, living_support, ground_support, support_after, is_block, takes_sample, is_asked}

-- a support that was told, or that was not
told-asked : (m : Ask Sample) (s : Support) → told m ≡ found s → is_asked s ≡ true
unfolding told
told-asked (refused n) s e = let z : ◌≡◌ {A = ℕ} 0 1 = cc in absurd (omega arith)
told-asked (found a) s e = let h : Asked a ≡ s = cc in rw (sym h)

by-test : (t : Bool) (m : Ask Sample) (s : Support) → choose t (told m) (found NotAsked) ≡ found s → is_asked s ≡ t
unfolding choose
by-test true m s e = told-asked m s e
by-test false m s e = let h : NotAsked ≡ s = cc in rw (sym h)

module _ (look : Pos → Ask Block) (records : List ℕ) (rules : Rules) (feet : Vec3) where
  -- the sample that bodies of a model take
  abbrev taken : Model → Ask Sample
  taken m = choose (is_living m) (living_sample look records rules feet) (supporting_friction look records rules feet)

  cases : (m : Model) (l : LiquidKind) (g : Bool) (f : Ground)
      → choose (is_falling_block m && g) (found NotAsked) (choose (is_living m) (living_support look records rules feet g l) (choose g (ground_support look records rules feet f) (found NotAsked)))
      ≡ choose (g && choose (is_living m) (is_dry l) (not (is_falling_block m) && is_block f)) (told (taken m)) (found NotAsked)
  unfolding living_support choose
  cases Item l true grounds.None = refl
  cases Item l true grounds.Block = refl
  cases Item l false f = refl
  cases Living None true f = refl
  cases Living Water true f = refl
  cases Living Lava true f = refl
  cases Living None false f = refl
  cases Living Water false f = refl
  cases Living Lava false f = refl
  cases FallingBlock l true f = refl
  cases FallingBlock l false f = refl
  cases Other l true grounds.None = refl
  cases Other l true grounds.Block = refl
  cases Other l false f = refl

  -- the Rust's branches come to one test, and to one sample
  pub support-by-test : (body : Body) (liquid : LiquidKind) (on_ground : Bool)
      → support_after look records rules body liquid feet on_ground ≡ choose (takes_sample body liquid on_ground) (told (taken body.model)) (found NotAsked)
  unfolding support_after takes_sample
  support-by-test body liquid on_ground = cases body.model liquid on_ground body.friction

  pub asked-there : (body : Body) (liquid : LiquidKind) (on_ground : Bool) (s : Support)
      → support_after look records rules body liquid feet on_ground ≡ found s → is_asked s ≡ takes_sample body liquid on_ground
  asked-there body liquid on_ground s e = by-test _ _ s (sym (support-by-test body liquid on_ground) ∙ e)
