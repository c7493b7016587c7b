-- `flow::sides::liquid_flow` meets its contract. Assumes nothing.
use Rattle.window.specs.Views.{look_in}
use Rattle.flow.proofs.FourSides.{Sides}
use Rattle.flow.proofs.sides.liquid_flow.Given as goal

abbrev pub invariant-loop-side : goal.invariant-loop-side
invariant-loop-side l = Sides (look_in l.view) l.tables.records.now l.p l.state l.flow l.walled l.side-index
