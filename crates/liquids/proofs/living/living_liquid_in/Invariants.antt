-- `liquids::living::living_liquid_in` meets its contract. Assumes nothing.
use Rattle.ranges.proofs.Walking.{Walked}
use Rattle.ranges.proofs.Walks.{left}
use Rattle.window.specs.Views.{look_in}
use Rattle.liquids.specs.Living.{living_turn}
use Rattle.liquids.proofs.living.living_liquid_in.Given as goal

abbrev pub invariant-loop-t : goal.invariant-loop-t
invariant-loop-t l = Walked (living_turn (look_in l.view) l.tables.records.now l.feet) l.r l.initial.lava l.t l.lava

abbrev pub decreases-loop-t : goal.decreases-loop-t
decreases-loop-t l = left l.r l.t
