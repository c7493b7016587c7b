-- The boxes that a move through a window collects, in lent numbers: `mover` is the box that moves and its delta, nine numbers, and `places` are
-- how many numbers there is room for in what is lent to be written to.
use Rattle.std.specs.Prelude.{true, not, List, [], ◌∷◌, ℕ, eqb, ltb, pos, length, get_or, Float}
use Rattle.std.specs.Float.{binary64}
use Rattle.std.specs.Float.Ieee.{of_int}
use Rattle.base.specs.Choose.{choose}
use Rattle.base.specs.Loop.{stored}
use Rattle.boxes.specs.declared.Aabb.{Aabb}
use Rattle.sweeps.specs.Lists.{Held, cap_of, no_box}
use Rattle.lent.specs.Lent.{direct, unless}
use Rattle.movers.specs.Movers.{vec_at, aabb_at, mover_refusal}
use Rattle.window.specs.declared.Window.{Window}
use Rattle.window.specs.Look.{look_at}
use Rattle.collection.specs.Collect.{collect_block_boxes, swept_area}
use Rattle.collection.specs.Answers.{held_asked}

-- the area that the move sweeps: its delta, and up by the step height
abbrev pub swept_by : List Float → Float → Aabb
swept_by mover step = swept_area (aabb_at mover 0) (vec_at mover 6) step

-- 3, then 4, or 0: what a move is refused for, whatever the ground
abbrev pub early_of : ℕ → List Float → Float → ℕ
early_of cap mover step = mover_refusal cap mover step 0 true

-- what the move collects: 1, 2, 3, 4 and 11 in order, before any cell is asked for; then 5 or 6. A refusal has no box.
unfoldable pub collected_at : ℕ → List ℕ → List Float → List ℕ → Window → List Float → Float → ℕ → Held
collected_at cap records shapes cells w mover step places =
    held_asked
    (direct records shapes cells w
    (unless (not (eqb (early_of cap mover step) 0)) (early_of cap mover step)
    (unless (ltb places 7) 11
    (collect_block_boxes (cap_of cap) (look_at cells w) records shapes (swept_by mover step)))))

-- how many boxes there are, and box k, zeros where k is not below that: seven numbers
abbrev pub numbers_at : List Aabb → ℕ → List Float
numbers_at bs k =
    let b : Aabb = get_or bs k no_box in
    of_int binary64 (pos (length bs)) ∷ b.min.x ∷ b.min.y ∷ b.min.z ∷ b.max.x ∷ b.max.y ∷ b.max.z ∷ []

-- a refusal writes nothing: what the host has stays as it is
unfoldable pub box_written : List Float → Held → ℕ → List Float
box_written out h k = choose (eqb h.refusal 0) (stored out 0 (numbers_at h.boxes k)) out
