-- How the code makes a move: up to seven passes over the boxes in one loop, so that the list is handed on once. Passes 0 to 2 are the first
-- attempt, 3 to 5 the step-up, and 6 settles it back down. The functions that a pass is made of cite this file, and no contract of a whole
-- move does: that is `move_over` (Move.antt), to which the passes are proved to come (`moves`, crates/sweeps/proofs/Shape.antt).
use Rattle.std.specs.Prelude.{Bool, true, false, List, [], ◌∷◌, ℕ, zero, suc, ◌+◌, ◌%◌, eqb, ltb, get_or, Float}
use Rattle.std.specs.Float.{binary64}
use Rattle.std.specs.Float.Ieee.{add, neg}
use Rattle.base.specs.Choose.{choose}
use Rattle.floats.specs.Numbers.{zero64}
use Rattle.boxes.specs.declared.Vec3.{Vec3}
use Rattle.boxes.specs.declared.Aabb.{Aabb}
use Rattle.sweeps.specs.declared.Along.{Along}
use Rattle.sweeps.specs.declared.Along.TheVariants.{X, Y, Z}
use Rattle.sweeps.specs.declared.Swept.{Swept}
use Rattle.sweeps.specs.declared.Request.{Request}
use Rattle.sweeps.specs.declared.Sweep.{Sweep}
use Rattle.sweeps.specs.declared.MoveResult.{MoveResult}
use Rattle.boxes.specs.Boxes.{vec, offset_by, clip_x, clip_y, clip_z}
use Rattle.sweeps.specs.Move.{clip_all, longer, stopped_falling, tries_step}

-- the number of an axis
abbrev pub axis_number : Along → ℕ
axis_number X = 0
axis_number Y = 1
axis_number Z = 2

-- y, x, z: 0 is x, 1 is y, 2 is z
unfoldable pub axis_of : ℕ → ℕ
axis_of pass = get_or (1 ∷ 0 ∷ 2 ∷ []) (pass % 3) 0

unfoldable pub clip_along : ℕ → Aabb → Aabb → Float → Float
clip_along axis b mover d = choose (eqb axis 0) (clip_x b mover d) (choose (eqb axis 1) (clip_y b mover d) (clip_z b mover d))

-- the way that a pass starts with
unfoldable pub wanted_of : ℕ → ℕ → Request → Swept → Float
wanted_of pass axis q s =
    choose (eqb axis 0) q.delta.x
    (choose (eqb axis 2) q.delta.z
    (choose (ltb pass 3) q.delta.y
    (choose (ltb pass 6) q.step (neg s.moved.y))))

-- an attempt after a pass that came to d
unfoldable pub gone_of : ℕ → ℕ → Swept → Float → Swept
gone_of pass axis s d =
    choose (eqb axis 0) record { aabb = offset_by s.aabb (vec d zero64 zero64); moved = vec d s.moved.y s.moved.z }
    (choose (eqb axis 2) record { aabb = offset_by s.aabb (vec zero64 zero64 d); moved = vec s.moved.x s.moved.y d }
    (choose (ltb pass 6) record { aabb = offset_by s.aabb (vec zero64 d zero64); moved = vec s.moved.x d s.moved.z }
    record { aabb = offset_by s.aabb (vec zero64 d zero64); moved = vec s.moved.x (add binary64 s.moved.y d) s.moved.z }))

abbrev pub tries : Request → Vec3 → Bool
tries q moved = tries_step q.delta q.step q.on_ground moved

-- where a move stands after a pass whose attempt came to `gone`
unfoldable pub next_sweep : ℕ → Request → Swept → Swept → Sweep
next_sweep pass q first gone =
    choose (eqb pass 2)
    (choose (tries q gone.moved)
    record { now = record { aabb = q.aabb; moved = gone.moved }; first = gone; over = false }
    record { now = gone; first = gone; over = true })
    (choose (eqb pass 6)
    record { now = longer first gone; first = first; over = true }
    record { now = gone; first = first; over = false })

-- one pass
unfoldable pub pass_of : ℕ → List Aabb → Request → Sweep → Sweep
pass_of pass boxes q s =
    next_sweep pass q s.first
    (gone_of pass (axis_of pass) s.now (clip_all (clip_along (axis_of pass)) boxes s.now.aabb (wanted_of pass (axis_of pass) q s.now)))

-- so many passes from the pass given, unless the move is over before
unfoldable pub passes_from : ℕ → ℕ → List Aabb → Request → Sweep → Sweep
passes_from zero pass boxes q s = s
passes_from (suc k) pass boxes q s =
    choose (pass_of pass boxes q s).over (pass_of pass boxes q s) (passes_from k (pass + 1) boxes q (pass_of pass boxes q s))

abbrev pub first_sweep : Request → Sweep
first_sweep q =
    record { now = record { aabb = q.aabb; moved = q.delta }; first = record { aabb = q.aabb; moved = q.delta }; over = false }

abbrev pub sweep_of : List Aabb → Request → Sweep
sweep_of boxes q = passes_from 7 0 boxes q (first_sweep q)

-- what a move comes to whose passes are over
abbrev pub end_of_move : Request → Sweep → MoveResult
end_of_move q s =
    record { aabb = s.now.aabb; moved = s.now.moved; on_ground = stopped_falling q.delta.y s.now.moved.y }
