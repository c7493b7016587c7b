-- Change request Thirteen over a list that is handed in. Assumes nothing.
use mathlib.Core.Path.{sym, subst}
use mathlib.Core.Bool.{not}
use mathlib.Core.List.{List, [], ◌∷◌}
use Prim.Native.Nat.{ℕ, zero, suc, ◌*◌, ◌^◌, ◌≤◌, ◌<◌}
use native.Mathlib.Omega.{arith}
use lib.IntN.{pos}
use lib.Dec.{T}
use lib.ListN.{get_or, take}
use lib.Ieee.Fits.{and_l, and_r}
use Rattle.boxes.specs.declared.Aabb.{Aabb}
use Rattle.boxes.specs.Boxes.{overlap}
use Rattle.boxes.specs.Limits.{is_box, are_boxes}
use Rattle.sweeps.specs.declared.MoveResult.{MoveResult}
use Rattle.sweeps.specs.Lists.{room, list_of, no_box}
use Rattle.grid.specs.Grid.{is_free}
use Rattle.grid.proofs.OverList.{taken-over}
use Rattle.off_grid.specs.Scaled.{slack, tight_units, tight_slack, is_slight}
use Rattle.off_grid.specs.Demand.{box_f64, BoundedListDemand}
use Rattle.off_grid.proofs.Axis.{unit, All}
use Rattle.off_grid.proofs.Passes.{BoxIn, box-widen, box-real, Clear, free-clear}
use Rattle.off_grid.proofs.Starts.{one, box_in, mover, from_start, tight, loose}

-- the first `count` boxes, of which each is one of f64s and within the limits
all_in : (n count : ℕ) (bs : List Aabb) → count ≤ n → ((i : ℕ) → i < n → T (box_f64 (get_or bs i no_box))) → T (are_boxes (take count bs)) → All (BoxIn (67108868 * one)) (take count bs)
unfolding are_boxes
all_in n zero bs h f t = tt
all_in n (suc count) [] h f t = tt
all_in zero (suc count) (b ∷ bs) h f t = absurd (omega arith)
all_in (suc n) (suc count) (b ∷ bs) h f t = (
  box-widen (omega arith) (box_in b (f 0 (omega arith)) (and_l (is_box b) (are_boxes (take count bs)) t)),
  all_in n count bs (omega arith) (λ i k. f (suc i) (omega arith)) (and_r (is_box b) (are_boxes (take count bs)) t),
)

all-clear : {q : ℕ} (r : ℕ) (a : Aabb) (bs : List Aabb) → BoxIn q a → All (BoxIn r) bs → T (is_free a bs) → All (Clear 0 0 0 0 a) bs
unfolding is_free
all-clear r a [] A B t = tt
all-clear r a (b ∷ bs) A B t =
    (free-clear a b (box-real A) (box-real B.0) (and_l (not (overlap a b)) (is_free a bs) t), all-clear r a bs A B.1 (and_r (not (overlap a b)) (is_free a bs) t))

within-bound : (k : ℕ) → 3 * unit ≤ k → BoundedListDemand (pos k)
within-bound k K cap list a d h grounded L F free e b m =
    let t = taken-over cap list a d h grounded e in
    let M = mover a d h F t.box t.delta t.step in
    let B = all_in room list.count list.boxes t.count L.boxes t.boxes in
    subst (λ (r : MoveResult). T (is_slight (pos k) r.aabb b)) (sym t.result)
    (from_start k K (list_of list) a d h grounded record { mover = M; boxes = B; free = all-clear (67108868 * one) a (list_of list) M.box B free } b m)

-- "by at most 2^-26", and three quarters of it
pub off-grid-accepted : BoundedListDemand slack
off-grid-accepted = within-bound (2 ^ 1048) loose

pub off-grid-accepted-tight : BoundedListDemand tight_slack
off-grid-accepted-tight = within-bound tight_units tight
