-- What the check of a move's numbers says of the move. Assumes nothing.
use mathlib.Core.Path.{◌≡◌, refl}
use mathlib.Core.Bool.{Bool, true, false, not, ◌&&◌}
use Prim.Native.Nat.{ℕ}
use native.Mathlib.Omega.{arith}
use lib.Ieee.{Float}
use Rattle.base.specs.Choose.{choose}
use Rattle.base.specs.Ask.{Ask, refused}
use Rattle.boxes.specs.declared.Vec3.{Vec3}
use Rattle.boxes.specs.declared.Aabb.{Aabb}
use Rattle.boxes.specs.Limits.{is_box, is_delta, is_step}
use Rattle.sweeps.specs.Lists.{is_cap}
use Rattle.lent.specs.Lent.{unless}
use Rattle.moves.specs.Answers.{numbers_refusal}

module _ {A : Type 0} (cap : ℕ) (aabb : Aabb) (delta : Vec3) (step : Float) (ask : Ask A) where
  abbrev pub checked : Ask A
  checked = unless (not (is_cap cap && is_step step)) 3 (unless (not (is_box aabb && is_delta delta)) 4 ask)

  -- refused, it is refused with the same number
  pub numbers-refused : (n : ℕ) → n ≡ numbers_refusal cap aabb delta step → (n ≡ 0 → ⊥) → checked ≡ refused n
  unfolding choose
  numbers-refused n e z = (go (is_cap cap && is_step step) (is_box aabb && is_delta delta) e)
    where
      go : (s t : Bool) → n ≡ choose (not s) 3 (choose (not t) 4 0) → unless (not s) 3 (unless (not t) 4 ask) ≡ refused n
      go true true e = absurd (z e)
      go true false e = rw e
      go false t e = rw e

  -- passed, it is what is asked
  pub numbers-passed : ◌≡◌ {A = ℕ} 0 (numbers_refusal cap aabb delta step) → checked ≡ ask
  unfolding choose
  numbers-passed e = go (is_cap cap && is_step step) (is_box aabb && is_delta delta) e
    where
      go : (s t : Bool) → ◌≡◌ {A = ℕ} 0 (choose (not s) 3 (choose (not t) 4 0)) → unless (not s) 3 (unless (not t) 4 ask) ≡ ask
      go true true e = refl
      go true false e = absurd (omega arith)
      go false t e = absurd (omega arith)
