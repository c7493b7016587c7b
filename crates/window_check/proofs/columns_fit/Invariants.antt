-- `window_check::columns_fit` meets its contract. Assumes nothing.
use mathlib.Core.Bool.{true}
use mathlib.Core.Path.{◌≡◌}
use Prim.Native.Nat.{◌+◌}
use Rattle.base.specs.Every.{every}
use Rattle.window.specs.Window.{column_fits}
use Rattle.window_check.proofs.columns_fit.Given as goal

abbrev pub invariant-loop-k : goal.invariant-loop-k
invariant-loop-k l = every l.k (λ k. column_fits l.words (l.first + k)) ≡ true
