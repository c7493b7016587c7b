-- `roots::root::root_by_bits` meets its contract: before a turn r has the root's bits from 32 - turn on (`Bits` of `Confirmed.antt`). Assumes nothing.
use Prim.Native.Nat.{◌-◌, ◌^◌, ◌<◌}
use native.Mathlib.Omega.{arith}
use Rattle.roots.proofs.Confirmed.{with_bit, no_bits, all-bits, bit-room, bit-set, bit-clear, square-fits}
use Rattle.roots.proofs.root.root_by_bits.Goals as goal
use Rattle.roots.proofs.root.root_by_bits.Goals.{In-loop-turn, then-t-m, else-t-m}

room : (c : In-loop-turn) → with_bit c.loop-turn.r (31 - c.loop-turn.turn) < 2 ^ 32
room c = bit-room c.args.m _ _ _ (omega arith) c.loop-turn.invariant

pub loop-turn-init : goal.loop-turn-init
loop-turn-init c = no_bits c.args.m c.ranges.m.fits

pub overflow_add-t : goal.overflow_add-t
overflow_add-t c = let f = room (goal.at.overflow_add-t c).In-loop-turn in omega arith

pub overflow_mul-t : goal.overflow_mul-t
overflow_mul-t c = record { fits = square-fits _ (room (goal.at.overflow_mul-t c).In-loop-turn) }

pub loop-turn-preserved : goal.loop-turn-preserved
loop-turn-preserved c =
    let l = c.loop-turn in
    elim c.if-t-m.branch [
      | then-t-m w ↦ rw w.r-is (bit-set _ _ _ (31 - l.turn) (omega arith) l.invariant _ (omega arith) w.if-t-m.true)
      | else-t-m w ↦ rw w.r-is (bit-clear _ _ _ (31 - l.turn) (omega arith) l.invariant _ (omega arith) w.if-t-m.false)
    ]

pub returns : goal.returns
returns c = all-bits _ _ (32 - c.loop-turn.turn) (omega arith) c.loop-turn.invariant
