-- Demand 3 of the move over a list that is handed in. Assumes nothing.
use mathlib.Core.Path.{◌≡◌, sym, subst}
use mathlib.Core.Logic.{inl}
use mathlib.Core.Bool.{Bool, true, false, not, ◌&&◌}
use mathlib.Core.List.{Memᴰ}
use Prim.Native.Nat.{ℕ, ◌≤◌}
use native.Mathlib.Omega.{arith}
use lib.Dec.{T, eqb, ltb, nltb→le}
use lib.Ieee.{Float}
use lib.Ieee.Fits.{and_l, and_r}
use Rattle.base.specs.Choose.{choose}
use Rattle.boxes.specs.declared.Vec3.{Vec3}
use Rattle.boxes.specs.declared.Aabb.{Aabb}
use Rattle.sweeps.specs.declared.BoxList.{BoxList}
use Rattle.sweeps.specs.declared.MoveResult.{MoveResult}
use Rattle.sweeps.specs.Lists.{room, is_cap, cap_of, list_of}
use Rattle.sweeps.proofs.Caps.{cap-in-room}
use Rattle.sweeps.specs.Move.{move_over}
use Rattle.boxes.specs.Limits.{is_step, is_box, is_delta, are_boxes}
use Rattle.sweeps.specs.Entry.{refusal_of, refused_move, move_over_list}
use Rattle.grid.specs.Grid.{on_grid, vec_on_grid, is_proper, are_proper, is_free}
use Rattle.grid.specs.Demand.{Demand3, keeps_step, list_on_grid, ListDemand}
use Rattle.grid.proofs.Readings.{knowns}
use Rattle.grid.proofs.Starts.{Start, start, from_start}

-- ---- a move that is not refused
record Accepted (a b c : Bool) : Type 0 where
  one : T a
  two : T b
  three : T (not c)

accepted : (a b c : Bool) → ◌≡◌ {A = ℕ} (choose (not a) 3 (choose (not b) 4 (choose c 6 0))) 0 → Accepted a b c
unfolding choose
accepted true true false e = record { one = tt; two = tt; three = tt }
accepted true true true e = absurd (omega arith)
accepted true false c e = absurd (omega arith)
accepted false b c e = absurd (omega arith)

result-is : (n : ℕ) (a b : MoveResult) → n ≡ 0 → choose (eqb n 0) a b ≡ a
unfolding choose
result-is n a b e = rw e

pub record TakenOver (cap : ℕ) (list : BoxList) (m : Aabb) (d : Vec3) (h : Float) (grounded : Bool) : Type 0 where
  pub step : T (is_step h)
  pub box : T (is_box m)
  pub delta : T (is_delta d)
  pub boxes : T (are_boxes (list_of list))
  pub count : list.count ≤ room
  pub result : (move_over_list cap list m d h grounded).result ≡ move_over (list_of list) m d h grounded

pub taken-over : (cap : ℕ) (list : BoxList) (m : Aabb) (d : Vec3) (h : Float) (grounded : Bool) → (move_over_list cap list m d h grounded).refusal ≡ 0 → TakenOver cap list m d h grounded
unfolding move_over_list
taken-over cap list m d h grounded e =
    let fs = list_of list in
    let a = accepted (is_cap cap && is_step h) (is_box m && (is_delta d && are_boxes fs)) (ltb (cap_of cap) list.count) e in
    let db = and_r (is_box m) (is_delta d && are_boxes fs) a.two in
    record {
      step = and_r (is_cap cap) (is_step h) a.one;
      box = and_l (is_box m) (is_delta d && are_boxes fs) a.two;
      delta = and_l (is_delta d) (are_boxes fs) db;
      boxes = and_r (is_delta d) (are_boxes fs) db;
      count = let few = nltb→le (cap_of cap) list.count a.three in omega (arith, cap-in-room cap);
      result = result-is (refusal_of cap m d h (are_boxes fs) list.count) (move_over fs m d h grounded) (refused_move m) e;
    }

pub demand3-list : ListDemand
unfolding list_on_grid
demand3-list cap list m d h grounded t e =
    let fs = list_of list in
    let a = taken-over cap list m d h grounded e in
    let t1 = and_r (is_proper m) (are_proper fs && (vec_on_grid d && (on_grid h && is_free m fs))) t in
    let t2 = and_r (are_proper fs) (vec_on_grid d && (on_grid h && is_free m fs)) t1 in
    let t3 = and_r (vec_on_grid d) (on_grid h && is_free m fs) t2 in
    let k = knowns fs a.boxes (and_l (are_proper fs) (vec_on_grid d && (on_grid h && is_free m fs)) t1) in
    let s : Start m d h = start m d h a.box (and_l (is_proper m) (are_proper fs && (vec_on_grid d && (on_grid h && is_free m fs))) t)
    a.delta (and_l (vec_on_grid d) (on_grid h && is_free m fs) t2) a.step (and_l (on_grid h) (is_free m fs) t3) in
    subst (λ (r : MoveResult). Demand3 (λ b. Memᴰ b fs) (keeps_step fs m d h grounded) m d r) (sym a.result)
    (from_start (λ b. Memᴰ b fs) fs k.boxes k.on k.solid m d h s (λ o n. n) (λ o n. inl n) (and_r (on_grid h) (is_free m fs) t3) grounded)
