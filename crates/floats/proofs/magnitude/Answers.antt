-- `floats::magnitude` meets its contract. Assumes nothing.
use mathlib.Core.Path.{sym, subst}
use lib.Dec.{T}
use lib.Ieee.{binary64, fits, of_bits}
use Rattle.floats.proofs.Sizes.{size_below, size-zero, size_above}
use Rattle.floats.proofs.magnitude.Goals as goal
use Rattle.floats.proofs.magnitude.Goals.{Start}

-- what owning an `f64` tells: the format holds it
held : (c : Start) → T (fits binary64 c.args.x)
held c = subst T (sym c.well_formed.0.1) tt

pub returns-then-x : goal.returns-then-x
unfolding of_bits
returns-then-x c = size_below c.args.x c.if-x.true

pub returns-then-x-2 : goal.returns-then-x-2
unfolding of_bits
returns-then-x-2 c = size-zero c.args.x (held (goal.at.returns-then-x-2 c).Start) c.if-x-2.true

pub returns-else-x-2 : goal.returns-else-x-2
unfolding of_bits
returns-else-x-2 c = size_above c.args.x c.if-x.false c.if-x-2.false
