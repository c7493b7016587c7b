-- `boxes::clipped` meets its contract. Assumes nothing.
use lib.Ieee.{of_bits, div, neg}
use Rattle.boxes.proofs.Clips.{clip-ahead, clip-behind, clip-still}
use Rattle.boxes.proofs.clipped.Goals as goal

pub returns-then-d : goal.returns-then-d
unfolding of_bits div
returns-then-d c =
    rw (c.lesser.ensures, c.past-then-d.ensures, c.past.ensures, c.either-gap.ensures) (clip-ahead _ _ _ _ _ _ _ c.if-d.true)

pub returns-then-d-2 : goal.returns-then-d-2
unfolding of_bits div neg
returns-then-d-2 c =
    rw (c.greater.ensures, c.past-then-d-2-2.ensures, c.past-then-d-2.ensures, c.either-gap-then-d-2.ensures) (clip-behind _ _ _ _ _ _ _ c.if-d.false c.if-d-2.true)

pub returns : goal.returns
returns c = clip-still _ _ _ _ c.if-d.false c.if-d-2.false
