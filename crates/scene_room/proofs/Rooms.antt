-- What the room comes to. Assumes nothing.
use mathlib.Core.Bool.{Bool, true, false}
use mathlib.Core.Path.{◌≡◌, refl, sym, ◌∙◌}
use Prim.Native.Nat.{ℕ, ◌*◌, ◌≤◌, ◌<◌}
use native.Mathlib.Omega.{arith}
use lib.Dec.{leb}
use borrow.Author.Tests.{lt-leb, le-leb, leb-true}
use Rattle.base.specs.Choose.{choose}
use Rattle.scene_room.specs.Room.{room_for}

pub record Fits (blocks size : ℕ) : Type 0 where
  pub few : blocks ≤ 128
  pub long : blocks * 512 ≤ size

pub room_fits : (blocks size r : ℕ) → r ≡ room_for blocks size → r ≡ 0 → Fits blocks size
unfolding room_for choose
room_fits blocks size r e z = go (leb blocks 128) (leb-true blocks 128) (leb (blocks * 512) size) (leb-true (blocks * 512) size) (sym e ∙ z)
  where
    go : (a : Bool) → (a ≡ true → blocks ≤ 128) → (b : Bool) → (b ≡ true → blocks * 512 ≤ size) → ◌≡◌ {A = ℕ} (choose a (choose b 0 11) 12) 0 → Fits blocks size
    go true f true g z = record { few = f refl; long = g refl }
    go true f false g z = absurd (omega arith)
    go false f b g z = absurd (omega arith)

pub room-enough : (blocks size : ℕ) → blocks ≤ 128 → blocks * 512 ≤ size → room_for blocks size ≡ 0
unfolding room_for choose
room-enough blocks size few long = rw (le-leb blocks 128 few, le-leb (blocks * 512) size long)

pub room-many : (blocks size : ℕ) → 128 < blocks → room_for blocks size ≡ 12
unfolding room_for choose
room-many blocks size h = rw (lt-leb blocks 128 h)
