-- The move through a window, as the Rust's move_aabb: the swept area, collection, the move over what was collected.
use Rattle.std.specs.Prelude.{Bool, List, ℕ, Float}
use Rattle.base.specs.Ask.{Ask, found, ◌>>=◌}
use Rattle.boxes.specs.declared.Vec3.{Vec3}
use Rattle.boxes.specs.declared.Aabb.{Aabb}
use Rattle.sweeps.specs.declared.MoveResult.{MoveResult}
use Rattle.sweeps.specs.Move.{move_over}
use Rattle.window.specs.declared.Pos.{Pos}
use Rattle.window.specs.Look.{Block}
use Rattle.ranges.specs.declared.Range.{Range}
use Rattle.collection.specs.Collect.{swept_area, collect_block_boxes}
use Rattle.collection.specs.Past.{collect_past}

-- `cap` is the cap in force
unfoldable pub move_aabb : ℕ → (Pos → Ask Block) → List ℕ → List Float → Aabb → Vec3 → Float → Bool → Ask MoveResult
move_aabb cap look records shapes aabb delta step_height was_on_ground = do
  boxes ← collect_block_boxes cap look records shapes (swept_area aabb delta step_height)
  found (move_over boxes aabb delta step_height was_on_ground)

-- the same where collection passes over layers: `over` says of each layer of a range whether it does
unfoldable pub move_aabb_past : ℕ → (Range → ℕ → Bool) → (Pos → Ask Block) → List ℕ → List Float → Aabb → Vec3 → Float → Bool → Ask MoveResult
move_aabb_past cap over look records shapes aabb delta step_height was_on_ground = do
  boxes ← collect_past over cap look records shapes (swept_area aabb delta step_height)
  found (move_over boxes aabb delta step_height was_on_ground)
