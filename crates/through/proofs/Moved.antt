-- The move over what was collected from the swept area comes to `move_aabb_past`, and refuses 5 and 6 alone. Assumes nothing.
use mathlib.Core.Path.{◌≡◌, refl}
use mathlib.Core.Bool.{Bool}
use mathlib.Core.List.{List, []}
use Prim.Native.Nat.{ℕ, ◌≤◌, ◌<◌}
use native.Mathlib.Omega.{arith}
use lib.ListN.{take, length-replicate}
use lib.Ieee.{Float}
use Rattle.base.specs.Choose.{choose}
use Rattle.base.specs.Ask.{Ask, refused, found, next}
use Rattle.boxes.specs.declared.Aabb.{Aabb}
use Rattle.sweeps.specs.declared.Request.{Request}
use Rattle.sweeps.specs.declared.Sweep.{Sweep}
use Rattle.sweeps.specs.declared.MoveResult.{MoveResult}
use Rattle.sweeps.specs.Move.{move_over}
use Rattle.sweeps.specs.Passes.{sweep_of, end_of_move}
use Rattle.sweeps.proofs.Shape.{moves}
use Rattle.sweeps.specs.Lists.{Held, no_box}
use Rattle.lent_boxes.specs.Boxes.{boxes_in, lent_count, first_boxes}
use Rattle.lent_boxes.proofs.Lent.{all_there}
use Rattle.window.specs.declared.Window.{Window}
use Rattle.window.specs.Look.{look_at}
use Rattle.ranges.specs.declared.Range.{Range}
use Rattle.ranges.specs.Ranges.{trimmed}
use Rattle.passing.specs.Passing.{Reached, reach_in, lines_by, passes}
use Rattle.collection.specs.Collect.{push, range_of, swept_area}
use Rattle.collection.specs.Past.{collect_in_past, collect_past}
use Rattle.collection.specs.Answers.{held_asked}
use Rattle.through.specs.Through.{move_aabb, move_aabb_past}
use Rattle.through.specs.Few.{few, empty_few, move_from}
use Rattle.through.specs.declared.Few.{Few}
use Rattle.boxes.specs.declared.Vec3.{Vec3}
use Rattle.collection.proofs.Collects.{Room, all_past}
use Rattle.collection.proofs.Past.{in-range}
use Rattle.collection.proofs.Caps.{list-told, refusal-told, found-under, refused-under}
use Rattle.collection.proofs.Refuses.{Refuses, FiveOrSix, finds, after, past-refuses, collect-refuses}

module _ (cap : ℕ) (over : ℕ → Bool) (cells : List ℕ) (w : Window) (records : List ℕ) (shapes : List Float) (q : Request) (area : Aabb) (r : Range) where
  abbrev whole-move : Ask MoveResult
  whole-move = move_from cap over (look_at cells w) records shapes q area r

  pub moved : (bs : List Aabb) → found (next bs) ≡ all_past (push cap) (look_at cells w) records shapes area r over [] → (s : Sweep) → s ≡ sweep_of bs q → (m : MoveResult) → m ≡ end_of_move q s → found m ≡ whole-move
  unfolding move_from
  moved bs h s es m em = rw (← h, em, moves bs q s es)

  pub not-moved : (k : ℕ) → refused k ≡ all_past (push cap) (look_at cells w) records shapes area r over [] → refused k ≡ whole-move
  unfolding move_from
  not-moved k h = rw (← h)

  -- from the answer of a collection under a cap that may be lower
  module _ (least : ℕ) (within : least ≤ cap) (h : Held) (e : h ≡ held_asked (collect_in_past over least (look_at cells w) records shapes area r)) where
    pub moved-over : h.refusal ≡ 0 → (n : ℕ) (room : List Float) → h.boxes ≡ boxes_in room n → (m : MoveResult) → m ≡ move_over (first_boxes n room) q.aabb q.delta q.step q.on_ground
        → n ≤ lent_count room → found m ≡ whole-move
    unfolding move_from
    moved-over z n room eb m em there =
        let low = list-told h (collect_in_past over least (look_at cells w) records shapes area r) (past-refuses over least cells w records shapes area r) e z in
        rw (found-under cells w records shapes area over r least cap within h.boxes low, em, all_there n room there, eb)

    pub told-refused : (h.refusal ≡ 0 → ⊥) → (h.refusal ≡ 6 → ⊥) → refused h.refusal ≡ whole-move
    unfolding move_from
    told-refused z s =
        let low = refusal-told h (collect_in_past over least (look_at cells w) records shapes area r) e z in
        rw (refused-under cells w records shapes area over r least cap within h.refusal low s)

  -- under the cap itself 6 is told too
  pub told-any : (h : Held) → h ≡ held_asked (collect_in_past over cap (look_at cells w) records shapes area r) → (h.refusal ≡ 0 → ⊥) → refused h.refusal ≡ whole-move
  unfolding move_from
  told-any h e z = rw (refusal-told h (collect_in_past over cap (look_at cells w) records shapes area r) e z)

-- for the range of the swept area, as `range_of` answers it
pub as-asked : (cap : ℕ) (over : Range → ℕ → Bool) (cells : List ℕ) (w : Window) (records : List ℕ) (shapes : List Float) (q : Request) (area : Aabb) (r : Range) → area ≡ swept_area q.aabb q.delta q.step → r ≡ trimmed (range_of area)
    → move_from cap (over r) (look_at cells w) records shapes q area r ≡ move_aabb_past cap over (look_at cells w) records shapes q.aabb q.delta q.step q.on_ground
unfolding move_from move_aabb_past
as-asked cap over cells w records shapes q area r e er = rw (in-range over cap (look_at cells w) records shapes area r er, e)

-- ---- the lines of a layer, as the program has them
module _ (words : List ℕ) (w : Window) (r : Range) (k : Reached) (y lines x : ℕ) (e : k ≡ reach_in words w r) (f : lines ≡ lines_by words w r k y) where
  come-to : lines ≡ choose (passes words w r y) 0 r.x.count
  come-to = rw e at f

  pub on-the-way : x < lines → x < choose (passes words w r y) 0 r.x.count
  on-the-way h = rw come-to at h

  pub at-the-end : lines ≤ x → choose (passes words w r y) 0 r.x.count ≤ x
  at-the-end h = rw come-to at h

pub move-refuses : (cap : ℕ) (cells : List ℕ) (w : Window) (records : List ℕ) (shapes : List Float) (aabb : Aabb) (delta : Vec3) (step : Float) (grounded : Bool) → Refuses FiveOrSix (move_aabb cap (look_at cells w) records shapes aabb delta step grounded)
unfolding move_aabb
move-refuses cap cells w records shapes aabb delta step grounded = after _ _ (collect-refuses cap cells w records shapes _) (λ bs. finds _)

pub move-past-refuses : (cap : ℕ) (over : Range → ℕ → Bool) (cells : List ℕ) (w : Window) (records : List ℕ) (shapes : List Float) (aabb : Aabb) (delta : Vec3) (step : Float) (grounded : Bool) → Refuses FiveOrSix (move_aabb_past cap over (look_at cells w) records shapes aabb delta step grounded)
unfolding move_aabb_past collect_past
move-past-refuses cap over cells w records shapes aabb delta step grounded = after _ _ (past-refuses _ cap cells w records shapes _ _) (λ bs. finds _)

pub empty-few : (l : Few) → l ≡ empty_few → Room few l.boxes l.count × (take l.count l.boxes ≡ [])
unfolding empty_few
empty-few l e = rw e (record { whole = length-replicate few no_box; counts = omega arith }, refl)
