-- `through::many` meets its contract. Assumes nothing.
use Rattle.std.proofs.Common.{rules}
use mathlib.Core.Path.{◌≡◌, refl}
use native.Mathlib.Omega.{arith}
use Rattle.base.specs.declared.Refusal.TheVariants.{TooManyBoxes}
use Rattle.base.proofs.Answers.{one_number, some_number}
use Rattle.through.proofs.Moved.{moved-over, told-refused}
use Rattle.through.proofs.many.Goals as goal

pub returns-in-Ok : goal.returns-in-Ok
returns-in-Ok c =
    let k = c.in-Ok.ensures.count_bound in
    let n = c.cap_within-most.ensures in
    moved-over _ _ _ _ _ _ _ _ _ _ (omega arith) _ c.in-Ok.ensures.room_after refl _ c.collect_into.new.room refl _ c.moved_over.ensures (omega arith)

pub returns-in-Err : goal.returns-in-Err
returns-in-Err c =
    let n = c.cap_within-most.ensures in
    told-refused _ _ _ _ _ _ _ _ _ _ (omega arith) _ c.in-Err.ensures.room_after (some_number c.in-Err.refusal)
    (λ q. let z : c.in-Err.refusal ≡ TooManyBoxes = one_number c.in-Err.refusal TooManyBoxes q in search rules)
