-- `through::crowded` meets its contract. Assumes nothing.
use mathlib.Core.Path.{◌≡◌, refl}
use Prim.Native.Nat.{min}
use native.Mathlib.Omega.{arith}
use Rattle.std.proofs.lemmas.Result.{err_from_is_err_and}
use Rattle.base.proofs.Answers.{some_number}
use Rattle.sweeps.specs.Lists.{cap_of}
use Rattle.sweeps.proofs.Caps.{cap-in-room}
use Rattle.through.proofs.Moved.{moved-over, told-any}
use Rattle.through.proofs.crowded.Goals as goal

pub returns-in_err-count : goal.returns-in_err-count
returns-in_err-count c =
    let cap = c.args.cap in
    let n = c.cap_of-most.ensures in
    let m = cap-in-room cap in
    let all : min (cap_of cap) 512 ≡ cap_of cap = omega arith in
    let p = err_from_is_err_and c.from_residual.result c.from_residual.ensures.1 in
    rw (p.1, p.2) (told-any _ _ _ _ _ _ _ _ _ _ (rw (n, all) at c.in_err-count.ensures.room_after) (some_number _))

pub returns : goal.returns
returns c =
    let k = c.in_ok-count.ensures.count_bound in
    let n = c.cap_of-most.ensures in
    moved-over _ _ _ _ _ _ _ _ _ _ (omega arith) _ c.in_ok-count.ensures.room_after refl _ c.collect_into.new.room refl _ c.moved_over.ensures (omega arith)
