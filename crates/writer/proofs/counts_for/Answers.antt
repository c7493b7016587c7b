-- `writer::counts_for` meets its contract. Assumes nothing.
use mathlib.Core.Path.{refl}
use Rattle.writer.proofs.Puts.{many-states, many-boxes, many-cells}
use Rattle.writer.proofs.counts_for.Goals as goal

pub returns-then-states-gt4096 : goal.returns-then-states-gt4096
returns-then-states-gt4096 c = (refl, many-states _ c.if-states-gt4096.true)

pub returns-then-boxes-gt16384 : goal.returns-then-boxes-gt16384
returns-then-boxes-gt16384 c = (refl, many-boxes _ c.if-boxes-gt16384.true)

pub returns-then-cells-gt15744 : goal.returns-then-cells-gt15744
returns-then-cells-gt15744 c = (refl, many-cells _ c.if-cells-gt15744.true)
