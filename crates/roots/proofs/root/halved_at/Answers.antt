-- `roots::root::halved_at` meets its contract, by the facts of `Shift.antt`. Assumes nothing.
use Prim.Native.Nat.{ℕ, ◌+◌, ◌*◌, ◌%◌, ◌^◌, ◌<◌}
use native.Mathlib.Omega.{arith}
use Rattle.roots.proofs.Shift.{halves}
use Rattle.roots.proofs.root.halved_at.Goals as goal

bits : (w y : ℕ) → (w % 2 + 1074) * 2 ^ 52 + y % 2 ^ 53 < 1100 * 2 ^ 52
bits w y = omega arith

pub returns : goal.returns
returns c = let p = c.requires in (halves c.args.m c.args.k c.args.z p.0 p.1 p.2 p.3, bits _ _)
