-- `roots::root::root_by_bits` meets its contract: before a turn r has the root's bits from 32 - turn on (`Bits` of `Confirmed.antt`). Assumes nothing.
use Prim.Native.Nat.{◌-◌}
use Rattle.roots.proofs.Confirmed.{Bits}
use Rattle.roots.proofs.root.root_by_bits.Given as goal

abbrev pub invariant-loop-turn : goal.invariant-loop-turn
invariant-loop-turn l = Bits l.m l.r (32 - l.turn)
