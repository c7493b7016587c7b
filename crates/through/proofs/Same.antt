-- The move with a true summary, or with none, is the plain move. Assumes nothing.
use mathlib.Core.Path.{◌≡◌}
use mathlib.Core.Bool.{Bool}
use mathlib.Core.List.{List}
use Prim.Native.Nat.{ℕ, ◌≤◌}
use lib.ListN.{length}
use lib.Ieee.{Float}
use Rattle.boxes.specs.declared.Vec3.{Vec3}
use Rattle.boxes.specs.declared.Aabb.{Aabb}
use Rattle.window.specs.declared.Window.{Window}
use Rattle.window.specs.Look.{look_at}
use Rattle.collection.specs.Collect.{swept_area}
use Rattle.groups.specs.Summary.{words_before}
use Rattle.groups.proofs.Sets.{Kept}
use Rattle.passing.specs.Passing.{passes}
use Rattle.past.proofs.Same.{collection-with, collection-without}
use Rattle.through.specs.Through.{move_aabb, move_aabb_past}

module _ (cap : ℕ) (words : List ℕ) (w : Window) (records : List ℕ) (shapes : List Float) where
  -- by a summary whose words are those built afresh
  pub move-with : Kept records words w → (aabb : Aabb) (delta : Vec3) (step : Float) (grounded : Bool) → move_aabb_past cap (passes words w) (look_at words w) records shapes aabb delta step grounded ≡ move_aabb cap (look_at words w) records shapes aabb delta step grounded
  unfolding move_aabb_past move_aabb
  move-with kept aabb delta step grounded = rw (collection-with words w records shapes kept cap (swept_area aabb delta step))

  -- and where the words of cells and columns stand alone
  pub move-without : length words ≤ words_before w.sizes → (aabb : Aabb) (delta : Vec3) (step : Float) (grounded : Bool) → move_aabb_past cap (passes words w) (look_at words w) records shapes aabb delta step grounded ≡ move_aabb cap (look_at words w) records shapes aabb delta step grounded
  unfolding move_aabb_past move_aabb
  move-without short aabb delta step grounded = rw (collection-without words w records shapes short cap (swept_area aabb delta step))
