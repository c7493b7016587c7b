-- `roots::root::root_bits` meets its contract, by the facts of `Shift.antt`. Assumes nothing.
use Prim.Native.Nat.{◌+◌, ◌*◌, ◌^◌}
use native.Mathlib.Omega.{arith}
use Rattle.roots.specs.Steps.{RootBits, units_of}
use Rattle.roots.proofs.Shift.{root-bits, bits-le}
use Rattle.roots.proofs.root.root_bits.Goals as goal
use Rattle.roots.proofs.root.root_bits.Goals.{After-rounded_root}

after : (c : After-rounded_root) → RootBits (units_of c.args.b) (c.halved_of-h.result.half * 2 ^ 52 + c.rounded_root.result)
after c = root-bits _ _ _ _ c.halved_of-h.ensures.0 c.rounded_root.ensures

pub rounded_root-requires : goal.rounded_root-requires
rounded_root-requires c = let h = c.halved_of-h.ensures in (h.0.low, h.0.high, h.1)

pub overflow_add-result : goal.overflow_add-result
overflow_add-result c = omega (arith, bits-le _ _ (after (goal.at.overflow_add-result c).After-rounded_root))

pub returns : goal.returns
returns c = after (goal.at.returns c).After-rounded_root
