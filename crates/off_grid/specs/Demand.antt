-- "For any accepted move ... and no overlap at the start, show for each block box that on at least one axis the final box reaches into it by at most
-- 2^-26": over a list that is handed in, whose own boxes are the block boxes. crates/off_grid_window has the same through a window. The list's limits are
-- those of acceptance; a box of it may have no thickness.
use Rattle.std.specs.Prelude.{◌≡◌, Bool, ◌&&◌, ℕ, ◌<◌, ℤ, T, get_or, Float}
use mathlib.Core.List.{Memᴰ}
use Rattle.std.specs.Float.{binary64}
use Rattle.std.specs.Float.Ieee.{fits}
use Rattle.boxes.specs.declared.Vec3.{Vec3}
use Rattle.boxes.specs.declared.Aabb.{Aabb}
use Rattle.sweeps.specs.declared.BoxList.{BoxList}
use Rattle.sweeps.specs.Lists.{room, list_of, no_box}
use Rattle.sweeps.specs.Entry.{move_over_list}
use Rattle.grid.specs.Grid.{is_free}
use Rattle.off_grid.specs.Scaled.{is_slight}

-- ---- what the types of a program's parameters say of what it is handed: each number is a value of its format
abbrev pub vec_f64 : Vec3 → Bool
vec_f64 v = fits binary64 v.x && (fits binary64 v.y && fits binary64 v.z)

abbrev pub box_f64 : Aabb → Bool
box_f64 b = vec_f64 b.min && vec_f64 b.max

pub record TypedMove (aabb : Aabb) (delta : Vec3) (step_height : Float) : Type 0 where
  pub box : T (box_f64 aabb)
  pub way : T (vec_f64 delta)
  pub step : T (fits binary64 step_height)

pub record TypedList (list : BoxList) : Type 0 where
  pub boxes : (i : ℕ) → i < room → T (box_f64 (get_or list.boxes i no_box))

-- ---- the demand, for a bound
abbrev pub BoundedListDemand : ℤ → Type 0
BoundedListDemand bound =
    (cap : ℕ) (list : BoxList) (aabb : Aabb) (delta : Vec3) (step_height : Float) (was_on_ground : Bool)
    → TypedList list → TypedMove aabb delta step_height
    → T (is_free aabb (list_of list))
    → (move_over_list cap list aabb delta step_height was_on_ground).refusal ≡ 0
    → (b : Aabb) → Memᴰ b (list_of list) → T (is_slight bound (move_over_list cap list aabb delta step_height was_on_ground).result.aabb b)
