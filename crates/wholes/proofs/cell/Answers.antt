-- `wholes::cell` meets its contract: the sum's bits and the test are `told` of `proofs/Sums.antt`, the two ends those of `proofs/Cells.antt`. Assumes nothing.
use mathlib.Core.Path.{◌≡◌, sym, ap, ◌∙◌, subst}
use Prim.Native.Nat.{ℕ, ◌-◌, ◌≤◌}
use lib.Dec.{T}
use lib.Ieee.{binary64, add, to_bits, of_bits, neg}
use Rattle.wholes.specs.Whole.{floor_int, cell_of}
use Rattle.wholes.proofs.Cells.{in_reach, reached-by, narrow, cell-within, cell-before, cell-beyond}
use Rattle.wholes.proofs.Sums.{Told, told, Answered, answer, big64}
use Rattle.wholes.proofs.cell.Goals as goal
use Rattle.wholes.proofs.cell.Goals.{After-excess-e, Then-x-2}

reached : (c : Then-x-2) → T (in_reach c.args.x)
unfolding of_bits neg
reached c = reached-by c.args.x c.if-x.true c.if-x-2.true

within : (c : Then-x-2) → floor_int c.args.x ≡ cell_of c.args.x
unfolding of_bits neg
within c = cell-within c.args.x c.if-x.true c.if-x-2.true

known : (c : Then-x-2) → Told c.args.x
known c = told c.args.x (reached c)

-- the floor, counted from -2 ^ 26, as the code has it
answered : (c : After-excess-e) → Answered c.args.x (to_bits binary64 (add binary64 c.args.x big64) - 4843621399169859584 - c.excess-e.result)
answered c =
    let x = c.args.x in
    let b = to_bits binary64 (add binary64 x big64) in
    answer x (told c.args.x (reached c.before)) (narrow x (reached c.before)) (b - 4843621399169859584 - c.excess-e.result)
    (ap (λ (k : ℕ). b - 4843621399169859584 - k) c.excess-e.ensures ∙ (told c.args.x (reached c.before)).counted)

pub float_to_bits-n : goal.float_to_bits-n
float_to_bits-n c = (known (goal.at.float_to_bits-n c).Then-x-2).number

pub overflow_sub-n : goal.overflow_sub-n
overflow_sub-n c = (known (goal.at.overflow_sub-n c).Then-x-2).least

pub overflow_sub-result : goal.overflow_sub-result
overflow_sub-result c = subst (λ (k : ℕ). k ≤ to_bits binary64 (add binary64 c.args.x big64) - 4843621399169859584) (sym c.excess-e.ensures) (known (goal.at.overflow_sub-result c).Then-x-2).excess

pub overflow_cast-result : goal.overflow_cast-result
overflow_cast-result c = (answered (goal.at.overflow_cast-result c).After-excess-e).cast

pub overflow_sub-result-then-x-2 : goal.overflow_sub-result-then-x-2
overflow_sub-result-then-x-2 c = (answered (goal.at.overflow_sub-result-then-x-2 c).After-excess-e).less

pub returns-then-x-2 : goal.returns-then-x-2
returns-then-x-2 c = (answered (goal.at.returns-then-x-2 c).After-excess-e).floor ∙ within (goal.at.returns-then-x-2 c).Then-x-2

pub returns-then-x : goal.returns-then-x
unfolding of_bits neg
returns-then-x c = cell-before c.args.x c.if-x.true c.if-x-2.false

pub returns : goal.returns
unfolding of_bits
returns c = cell-beyond c.args.x c.if-x.false
