-- `roots::root::quotient` meets its contract, by the facts of `Confirmed.antt`. Assumes nothing.
use native.Mathlib.Omega.{arith}
use Prim.Native.Nat.{◌%◌, ◌^◌}
use Rattle.roots.proofs.Confirmed.{multiple-fits, multiple-pos, quotient-below, divided}
use Rattle.roots.proofs.root.quotient.Goals as goal

pub overflow_mul-p : goal.overflow_mul-p
overflow_mul-p c = record { fits = multiple-fits (c.args.g % 2 ^ 23) c.args.d (omega arith) c.requires.1 }

pub returns-then-p-a : goal.returns-then-p-a
returns-then-p-a c = divided c.args.a _ c.requires.0

pub overflow_sub-result : goal.overflow_sub-result
overflow_sub-result c = multiple-pos c.args.a c.args.d _ c.if-p-a.false

pub returns-then-p-a-2 : goal.returns-then-p-a-2
returns-then-p-a-2 c = quotient-below _ _ _ c.if-p-a.false c.if-p-a-2.true

pub returns : goal.returns
returns c = divided c.args.a _ c.requires.0
