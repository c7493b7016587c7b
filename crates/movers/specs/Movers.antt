-- What moves, in lent numbers: `mover` is a box and its delta, nine numbers. A number that is not there is read as +0.
use Rattle.std.specs.Prelude.{Bool, ◌&&◌, List, ℕ, ◌+◌, length, ltb, leb, eqb, Float}
use Rattle.base.specs.Choose.{choose}
use Rattle.boxes.specs.declared.Vec3.{Vec3}
use Rattle.boxes.specs.declared.Aabb.{Aabb}
use Rattle.boxes.specs.Boxes.{box}
use Rattle.boxes.specs.Limits.{is_box, is_delta, is_step}
use Rattle.sweeps.specs.declared.Request.{Request}
use Rattle.sweeps.specs.Lists.{is_cap}
use Rattle.bodies.specs.Numbers.{number_at, vec_from}

abbrev pub vec_at : List Float → ℕ → Vec3
vec_at numbers i = vec_from (number_at numbers) i

-- min x y z, max x y z
abbrev pub aabb_at : List Float → ℕ → Aabb
aabb_at numbers i = box (vec_at numbers i) (vec_at numbers (i + 3))

abbrev pub request_of : List Float → Float → ℕ → Request
request_of mover step grounded = record { aabb = aabb_at mover 0; delta = vec_at mover 6; step = step; on_ground = eqb grounded 1 }

-- nine numbers, of a box and a delta within their limits, and what else has to be so
abbrev pub mover_fits : List Float → Bool → Bool
mover_fits mover sound = eqb (length mover) 9 && (sound && (is_box (aabb_at mover 0) && is_delta (vec_at mover 6)))

-- 3 for a cap above 512, the step height, and a ground that is neither 0 nor 1; 4 for the mover, or where what is moved over is not `sound`; else 0
unfoldable pub mover_refusal : ℕ → List Float → Float → ℕ → Bool → ℕ
mover_refusal cap mover step grounded sound = choose (is_cap cap && (ltb grounded 2 && is_step step)) (choose (mover_fits mover sound) 0 4) 3

-- lengths that fit, a ground that is 0 or 1, and room for ten numbers; `places` are how many numbers there is room for
abbrev pub whole_move : List Float → ℕ → ℕ → Bool
whole_move mover grounded places = ltb grounded 2 && (eqb (length mover) 9 && leb 10 places)
