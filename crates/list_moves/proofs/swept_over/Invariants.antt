-- `list_moves::swept_over` meets its contract. Assumes nothing.
use mathlib.Core.Path.{◌≡◌}
use Prim.Native.Nat.{◌-◌}
use lib.ListN.{drop}
use Rattle.sweeps.specs.Move.{clip_all}
use Rattle.sweeps.specs.Passes.{axis_number, clip_along, passes_from, sweep_of}
use Rattle.list_moves.proofs.swept_over.Given as goal

abbrev pub invariant-loop-b : goal.invariant-loop-b
invariant-loop-b l =
    let clip = clip_along (axis_number l.axis) in
    clip_all clip (drop l.b-index l.boxes) l.now.aabb l.d ≡ clip_all clip l.boxes l.now.aabb l.initial.d

abbrev pub invariant-loop-pass : goal.invariant-loop-pass
invariant-loop-pass l = passes_from (7 - l.pass) l.pass l.boxes l.q l.s ≡ sweep_of l.boxes l.q
