-- `floats::is_finite` meets its contract: 1.0 / 0.0 is the infinity. Assumes nothing.
use mathlib.Core.Path.{◌∙◌}
use lib.Ieee.{of_bits, div, neg}
use Rattle.floats.proofs.Sizes.{finite-under, finite-over}
use Rattle.floats.proofs.is_finite.Goals as goal

pub returns-then-x-top : goal.returns-then-x-top
unfolding of_bits div neg
returns-then-x-top c = finite-under c.args.x c.if-x-top.true

pub returns-else-x-top : goal.returns-else-x-top
unfolding of_bits div neg
returns-else-x-top c = c.if-x-top.false ∙ finite-over c.args.x c.if-x-top.false
