-- `lent_moves::moved_over` meets its contract. Assumes nothing.
use mathlib.Core.Path.{◌≡◌}
use Prim.Native.Nat.{◌-◌}
use Rattle.sweeps.specs.Passes.{passes_from, sweep_of}
use Rattle.lent_boxes.specs.Boxes.{first_boxes}
use Rattle.lent_moves.proofs.moved_over.Given as goal

abbrev pub invariant-loop-pass : goal.invariant-loop-pass
invariant-loop-pass l = passes_from (7 - l.pass) l.pass (first_boxes l.n l.numbers) l.q l.s ≡ sweep_of (first_boxes l.n l.numbers) l.q
