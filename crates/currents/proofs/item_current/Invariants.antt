-- `currents::item_current` meets its contract. Assumes nothing.
use Rattle.ranges.proofs.Walking.{Walked}
use Rattle.ranges.proofs.Walks.{left}
use Rattle.window.specs.Views.{look_in}
use Rattle.currents.specs.Current.{current_turn}
use Rattle.currents.proofs.item_current.Given as goal

abbrev pub invariant-loop-t : goal.invariant-loop-t
invariant-loop-t l = Walked (current_turn (look_in l.view) l.tables.records.now l.foot l.state) l.r l.initial.s l.t l.s

abbrev pub decreases-loop-t : goal.decreases-loop-t
decreases-loop-t l = left l.r l.t
