-- `wholes::floor` meets its contract: near zero by the laws of `proofs/Floors.antt`, elsewhere by `far_floor`. Assumes nothing.
use mathlib.Core.Path.{sym, ap, subst, ◌∙◌}
use lib.Dec.{T}
use lib.Ieee.{Float, binary64, fits, of_bits, neg, sub, add}
use Rattle.wholes.proofs.Cells.{within, within_by}
use Rattle.wholes.proofs.Sums.{room, big64}
use Rattle.wholes.proofs.Floors.{near-floor, zero-floor, near-finite}
use Rattle.floats.proofs.Answers.{taken}
use Rattle.wholes.proofs.floor.Goals as goal
use Rattle.wholes.proofs.floor.Goals.{Start, Then-x-2}

-- what owning an `f64` tells: the format holds it
held : (c : Start) → T (fits binary64 c.args.x)
held c = subst T (sym c.well_formed.0.1) tt

near : (c : Then-x-2) → T (within room c.args.x)
unfolding of_bits neg
near c = within_by 50 c.args.x c.if-x.true c.if-x-2.true

pub returns-then-x-3 : goal.returns-then-x-3
unfolding of_bits
returns-then-x-3 c =
    let n = near (goal.at.returns-then-x-3 c).Then-x-2 in
    taken _ _ _ (near-finite c.args.x n) (zero-floor c.args.x n (held (goal.at.returns-then-x-3 c).Start) c.if-x-3.true)

pub returns-then-x-2 : goal.returns-then-x-2
unfolding of_bits
returns-then-x-2 c =
    let n = near (goal.at.returns-then-x-2 c).Then-x-2 in
    let x = c.args.x in
    let w = sub binary64 (add binary64 x big64) big64 in
    taken _ _ _ (near-finite x n) (ap (λ (e : Float). sub binary64 w e) c.excess-e.ensures ∙ near-floor x n c.if-x-3.false)
