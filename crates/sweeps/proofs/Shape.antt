-- The passes, one after the other, are the move of physics.rs. Assumes nothing.
use mathlib.Core.Path.{◌≡◌, refl, ap, ◌∙◌}
use mathlib.Core.Bool.{Bool, true, false}
use mathlib.Core.List.{List}
use lib.Ieee.{lt, of_bits}
use Rattle.base.specs.Choose.{choose}
use Rattle.base.proofs.Cases.{yes, no}
use Rattle.floats.specs.Numbers.{zero64}
use Rattle.boxes.specs.declared.Vec3.{Vec3}
use Rattle.boxes.specs.declared.Aabb.{Aabb}
use Rattle.sweeps.specs.declared.Swept.{Swept}
use Rattle.sweeps.specs.declared.Request.{Request}
use Rattle.sweeps.specs.declared.Sweep.{Sweep}
use Rattle.sweeps.specs.Move.{clip_sequence, stepped_up, longer, move_over}
use Rattle.sweeps.specs.Passes.{axis_of, clip_along, wanted_of, gone_of, tries, next_sweep, pass_of, passes_from, sweep_of, end_of_move}

module _ (boxes : List Aabb) (q : Request) where
  abbrev first : Swept
  first = clip_sequence boxes q.aabb q.delta

  abbrev stepped : Swept
  stepped = stepped_up boxes q.aabb q.delta q.step

  -- where the move stands after the first attempt: it starts again, or is over
  abbrev again : Sweep
  again = record { now = record { aabb = q.aabb; moved = first.moved }; first = first; over = false }

  abbrev done : Sweep
  done = record { now = first; first = first; over = true }

  abbrev third : Sweep
  third = choose (tries q first.moved) again done

  three : sweep_of boxes q ≡ choose third.over third (passes_from 4 3 boxes q third)
  unfolding choose passes_from pass_of next_sweep gone_of wanted_of axis_of clip_along clip_sequence
  three = refl

  four : (passes_from 4 3 boxes q again).now ≡ longer first stepped
  unfolding choose passes_from pass_of next_sweep gone_of wanted_of axis_of clip_along clip_sequence stepped_up
  four = refl

  by : (t : Bool) → tries q first.moved ≡ t → (sweep_of boxes q).now ≡ choose t (longer first stepped) first
  unfolding choose
  by true e =
      let is : third ≡ again = yes (tries q first.moved) again done e in
      let k : sweep_of boxes q ≡ passes_from 4 3 boxes q again = three ∙ rw is in
      ap (λ (s : Sweep). s.now) k ∙ four
  by false e =
      let is : third ≡ done = no (tries q first.moved) again done e in
      let k : sweep_of boxes q ≡ done = three ∙ rw is in
      ap (λ (s : Sweep). s.now) k

  pub swept : (sweep_of boxes q).now ≡ choose (tries q first.moved) (longer first stepped) first
  swept = by _ refl

pub moves : (boxes : List Aabb) (q : Request) (s : Sweep) → s ≡ sweep_of boxes q → end_of_move q s ≡ move_over boxes q.aabb q.delta q.step q.on_ground
unfolding move_over
moves boxes q s e = ap (end_of_move q) e ∙ ap (λ (k : Swept). end_of_move q record { now = k; first = k; over = true }) (swept boxes q)

-- with no step height there is one attempt
pub one-attempt : (boxes : List Aabb) (aabb : Aabb) (delta : Vec3) (s : Sweep) → s ≡ sweep_of boxes record { aabb = aabb; delta = delta; step = zero64; on_ground = false } → s.now ≡ clip_sequence boxes aabb delta
unfolding choose lt of_bits
one-attempt boxes aabb delta s e = ap (λ (k : Sweep). k.now) e ∙ swept boxes record { aabb = aabb; delta = delta; step = zero64; on_ground = false }
