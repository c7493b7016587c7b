-- The premises over a list are not empty, and some slack is needed: a body 0.6 wide and 1.8 tall, its feet at 0.36, falls by 0.5 onto a floor whose top is at
-- 0.1. The move is accepted, there is no overlap before, and the final box overlaps the floor: by 2 ^ -55. By computing; assumes nothing.
use mathlib.Core.Path.{◌≡◌, refl}
use mathlib.Core.Bool.{true}
use mathlib.Core.List.{[], ◌∷◌}
use Prim.Native.Nat.{ℕ, zero, suc, ◌^◌, ◌<◌}
use lib.IntN.{pos}
use lib.Dec.{T}
use lib.ListN.{get_or}
use lib.Ieee as I
use Rattle.base.specs.Choose as C
use Rattle.floats.specs.Numbers as N
use Rattle.boxes.specs.declared.Vec3.{Vec3}
use Rattle.boxes.specs.declared.Aabb.{Aabb}
use Rattle.boxes.specs.Boxes.{vec, box, from_feet, overlap}
use Rattle.boxes.specs.Limits as L
use Rattle.sweeps.specs.declared.BoxList.{BoxList}
use Rattle.sweeps.specs.Lists.{room, list_of, no_box}
use Rattle.sweeps.specs.Lists as LS
use Rattle.sweeps.specs.Move as M
use Rattle.sweeps.specs.Entry as E
use Rattle.grid.specs.Grid as G
use Rattle.small_scenes.specs.Moves.{ratio, whole}
use Rattle.off_grid.specs.Scaled as S
use Rattle.off_grid.specs.Demand.{box_f64, TypedMove, TypedList}

abbrev floor : Aabb
floor = box (vec (whole 0) (whole 0) (whole 0)) (vec (whole 1) (ratio 1 10) (whole 1))

abbrev body : Aabb
body = from_feet (vec (ratio 1 2) (ratio 36 100) (ratio 1 2)) (ratio 6 10) (ratio 18 10)

abbrev fall : Vec3
fall = vec (whole 0) (I.neg (ratio 1 2)) (whole 0)

abbrev list : BoxList
list = record { boxes = floor ∷ []; count = 1 }

abbrev after : Aabb
after = (E.move_over_list 0 list body fall (ratio 6 10) true).result.aabb

pub list-typed : TypedList list
unfolding I.fits I.of_bits I.round
list-typed = record { boxes = at }
  where
    at : (i : ℕ) → i < room → T (box_f64 (get_or list.boxes i no_box))
    at zero h = tt
    at (suc i) h = tt

pub record Fair : Type 0 where
  pub typed : TypedMove body fall (ratio 6 10)
  pub free : T (G.is_free body (list_of list))
  pub accepted : (E.move_over_list 0 list body fall (ratio 6 10) true).refusal ≡ 0
  pub inside : overlap after floor ≡ true
  pub reach : S.reach_on after.min.y after.max.y floor.min.y floor.max.y ≡ pos (2 ^ 1019)

pub falling-fair : Fair
unfolding C.choose LS.is_cap LS.cap_of N.size_of L.are_boxes M.clip_all M.clip_sequence M.stepped_up M.move_over E.move_over_list G.is_free S.float_units I.fits I.of_bits I.round I.add I.sub I.mul I.div I.neg I.lt I.le I.eq I.ne
falling-fair = record { typed = record { box = tt; way = tt; step = tt }; free = tt; accepted = refl; inside = refl; reach = refl }
