-- An answer has at most 160 bytes, and its room has 160.
use Rattle.std.proofs.Common.{◌≤◌, length, arith, sym, length-take-le}
use Rattle.text.proofs.Sizes.{written-most}
use Rattle.onetick.proofs.main.Goals as goal

pub slice_bounds-out-end : goal.slice_bounds-out-end
slice_bounds-out-end c =
    let most : c.answer-m.result ≤ 160 = rw c.answer-m.ensures.value (written-most _ _ _ _) in
    let kept = c.answer-m.auto.out in
    omega arith

pub slice_bounds-write_all-end : goal.slice_bounds-write_all-end
slice_bounds-write_all-end c =
    let most : c.answer-m.result ≤ 160 = rw c.answer-m.ensures.value (written-most _ _ _ _) in
    let kept = c.answer-m.auto.out in
    let within : c.answer-m.result ≤ length c.answer-m.new.out = omega arith in
    sym (length-take-le c.answer-m.result c.answer-m.new.out within)
