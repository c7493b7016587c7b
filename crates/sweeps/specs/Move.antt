-- The move over a list, line by line as physics.rs has `clip_sequence` and `move_aabb`, its boxes given. It takes any boxes and any numbers.
use Rattle.std.specs.Prelude.{Bool, ◌&&◌, ◌||◌, List, [], ◌∷◌, Float}
use Rattle.std.specs.Float.{binary64}
use Rattle.std.specs.Float.Ieee.{add, mul, neg, lt, ne}
use Rattle.base.specs.Choose.{choose}
use Rattle.floats.specs.Numbers.{zero64}
use Rattle.boxes.specs.declared.Vec3.{Vec3}
use Rattle.boxes.specs.declared.Aabb.{Aabb}
use Rattle.sweeps.specs.declared.Swept.{Swept}
use Rattle.sweeps.specs.declared.MoveResult.{MoveResult}
use Rattle.boxes.specs.Boxes.{vec, offset_by, clip_x, clip_y, clip_z}

-- for b in boxes { d = b.clip(aabb, d); }
unfoldable pub clip_all : (Aabb → Aabb → Float → Float) → List Aabb → Aabb → Float → Float
clip_all clip [] aabb d = d
clip_all clip (b ∷ bs) aabb d = clip_all clip bs aabb (clip b aabb d)

-- y, then x, then z
unfoldable pub clip_sequence : List Aabb → Aabb → Vec3 → Swept
clip_sequence boxes aabb delta =
    let dy : Float = clip_all clip_y boxes aabb delta.y in
    let after_y : Aabb = offset_by aabb (vec zero64 dy zero64) in
    let dx : Float = clip_all clip_x boxes after_y delta.x in
    let after_x : Aabb = offset_by after_y (vec dx zero64 zero64) in
    let dz : Float = clip_all clip_z boxes after_x delta.z in
    record { aabb = offset_by after_x (vec zero64 zero64 dz); moved = vec dx dy dz }

-- the attempt with the step height for y, settled back down onto whatever the stepped box now stands on
unfoldable pub stepped_up : List Aabb → Aabb → Vec3 → Float → Swept
stepped_up boxes aabb delta step_height =
    let up : Swept = clip_sequence boxes aabb (vec delta.x step_height delta.z) in
    let down : Float = clip_all clip_y boxes up.aabb (neg up.moved.y) in
    record {
      aabb = offset_by up.aabb (vec zero64 down zero64);
      moved = vec up.moved.x (add binary64 up.moved.y down) up.moved.z;
    }

-- v.x * v.x + v.z * v.z
abbrev pub flat_square : Vec3 → Float
flat_square v = add binary64 (mul binary64 v.x v.x) (mul binary64 v.z v.z)

-- the second attempt only where it is strictly longer horizontally
abbrev pub longer : Swept → Swept → Swept
longer moved stepped = choose (lt (flat_square moved.moved) (flat_square stepped.moved)) stepped moved

-- a downward way dy was stopped: delta.y < 0.0 && moved.y != delta.y
abbrev pub stopped_falling : Float → Float → Bool
stopped_falling dy y = lt dy zero64 && ne y dy

abbrev pub blocked_horizontally : Vec3 → Vec3 → Bool
blocked_horizontally delta moved = ne moved.x delta.x || ne moved.z delta.z

-- whether a step-up is tried, after a first attempt that came to `moved`
abbrev pub tries_step : Vec3 → Float → Bool → Vec3 → Bool
tries_step delta step_height was_on_ground moved =
    lt zero64 step_height && ((was_on_ground || stopped_falling delta.y moved.y) && blocked_horizontally delta moved)

unfoldable pub move_over : List Aabb → Aabb → Vec3 → Float → Bool → MoveResult
move_over boxes aabb delta step_height was_on_ground =
    let first : Swept = clip_sequence boxes aabb delta in
    let kept : Swept = choose (tries_step delta step_height was_on_ground first.moved) (longer first (stepped_up boxes aabb delta step_height)) first in
    record { aabb = kept.aabb; moved = kept.moved; on_ground = stopped_falling delta.y kept.moved.y }
