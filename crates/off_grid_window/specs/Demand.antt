-- "For any accepted move, with shapes of positive size inside their cell or up to half a block above it, and no overlap at the start, show for each block
-- box that on at least one axis the final box reaches into it by at most 2^-26": through a window. As in demand 3 the block boxes are those of every cell
-- whose shape the look-up settles without leaving the window, at any height, collected or not. The premises are what the types of the parameters say, a
-- test that anyone can compute, and that the move was not refused.
use Rattle.std.specs.Prelude.{◌≡◌, Bool, ◌&&◌, List, ℕ, ℤ, T, get_or, Float}
use Rattle.std.specs.Float.{binary32}
use Rattle.std.specs.Float.Ieee.{fits}
use Rattle.floats.specs.Numbers.{zero64}
use Rattle.boxes.specs.declared.Vec3.{Vec3}
use Rattle.boxes.specs.declared.Aabb.{Aabb}
use Rattle.window.specs.declared.Window.{Window}
use Rattle.moves.specs.Answers.{move_entry}
use Rattle.grid.specs.Grid.{is_solid}
use Rattle.grid.specs.Demand.{IsSettled, is_in_cell, shapes_pass, is_free_in}
use Rattle.off_grid.specs.Scaled.{is_slight}
use Rattle.off_grid.specs.Demand.{TypedMove}

-- the shapes' numbers are f32s, as their type says
pub record TypedShapes (shapes : List Float) : Type 0 where
  pub numbers : (i : ℕ) → T (fits binary32 (get_or shapes i zero64))

-- "of positive size inside their cell or up to half a block above it"
abbrev pub is_shape : Aabb → Bool
is_shape b = is_solid b && is_in_cell b

-- the shapes that the cells come to, and "no overlap at the start", both as demand 3 tests them
unfoldable pub window_off_grid : List ℕ → List Float → List ℕ → Window → Aabb → Bool
window_off_grid records shapes cells w aabb = shapes_pass is_shape records shapes cells w && is_free_in records shapes cells w aabb

-- the demand, for a bound
abbrev pub BoundedWindowDemand : ℤ → Type 0
BoundedWindowDemand bound =
    (cap : ℕ) (records : List ℕ) (shapes : List Float) (cells : List ℕ) (w : Window) (aabb : Aabb) (delta : Vec3) (step_height : Float) (was_on_ground : Bool)
    → TypedShapes shapes → TypedMove aabb delta step_height
    → T (window_off_grid records shapes cells w aabb)
    → (move_entry cap records shapes cells w aabb delta step_height was_on_ground).refusal ≡ 0
    → (b : Aabb) → IsSettled records shapes cells w b → T (is_slight bound (move_entry cap records shapes cells w aabb delta step_height was_on_ground).result.aabb b)
