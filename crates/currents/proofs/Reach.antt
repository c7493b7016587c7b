-- A box of which a number lies beyond 2 ^ 26 is refused with 5, whatever the window holds. Assumes nothing.
use mathlib.Core.Bool.{true, false}
use mathlib.Core.Path.{◌≡◌, refl}
use mathlib.Core.List.{List}
use Prim.Native.Nat.{ℕ}
use lib.IntN.{pos, negsuc}
use lib.Ieee.{Float, fin, neg, le}
use Rattle.base.specs.Choose.{choose}
use Rattle.base.specs.Ask.{Ask, refused}
use Rattle.floats.specs.Numbers.{size_of}
use Rattle.wholes.specs.Whole.{floor_size, floor_int, cell_of}
use Rattle.boxes.specs.declared.Vec3.{Vec3}
use Rattle.boxes.specs.declared.Aabb.{Aabb}
use Rattle.boxes.specs.Boxes.{vec, box}
use Rattle.tables.specs.declared.LiquidState.{LiquidState}
use Rattle.window.specs.declared.Pos.{Pos}
use Rattle.window.specs.Look.{Block}
use Rattle.currents.specs.Current.{beyond_reach, cells_up_to, item_current}

pub beyond-is-5 : (look : Pos → Ask Block) (records : List ℕ) (aabb : Aabb) (foot : Pos) (s : LiquidState)
    → beyond_reach aabb ≡ true → item_current look records aabb foot s ≡ refused 5
unfolding item_current choose
beyond-is-5 look records aabb foot s e = rw e

-- The smallest box that shows why: from 2 ^ 26 a quarter on. Its floor and its ceiling both stop at 2 ^ 26, and there are no cells between.
abbrev corner : Float
corner = fin false 1 (pos 26)

abbrev quarter-on : Float
quarter-on = fin false 268435457 (negsuc 1)

pub none_between : (cells_up_to corner quarter-on).count ≡ 0
unfolding cell_of choose floor_int floor_size le neg
none_between = refl

pub quarter-beyond : (y z : Float) (max : Vec3) → beyond_reach (box (vec quarter-on y z) max) ≡ true
unfolding beyond_reach choose size_of le
quarter-beyond y z max = refl
