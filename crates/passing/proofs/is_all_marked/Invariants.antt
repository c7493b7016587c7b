-- `passing::is_all_marked` meets its contract. Assumes nothing.
use mathlib.Core.Bool.{true}
use mathlib.Core.Path.{◌≡◌}
use Prim.Native.Nat.{◌+◌, ◌*◌, ◌/◌}
use Rattle.base.specs.Every.{every}
use Rattle.passing.specs.Passing.{row_marked}
use Rattle.passing.proofs.is_all_marked.Given as goal

abbrev pub invariant-loop-j : goal.invariant-loop-j
invariant-loop-j l = every l.j (λ i. row_marked l.words (l.k.before + l.k.x + (l.y / 4 * l.k.layer + l.k.z + i) * l.k.row) l.k.across) ≡ true
