-- The cap in force is never above the room. Assumes nothing.
use mathlib.Core.Bool.{Bool, true, false}
use Prim.Native.Nat.{ℕ, ◌≤◌, min}
use native.Mathlib.Omega.{arith}
use lib.Dec.{eqb}
use Rattle.base.specs.Choose.{choose}
use Rattle.sweeps.specs.Lists.{room, cap_of}

pub cap-in-room : (cap : ℕ) → cap_of cap ≤ room
unfolding cap_of choose
cap-in-room cap = go (eqb cap 0)
  where
    go : (t : Bool) → choose t room (min cap room) ≤ room
    go true = omega arith
    go false = omega arith
