-- `groups::set_cell` meets its contract. Assumes nothing.
use mathlib.Core.Path.{◌∙◌}
use Rattle.groups.proofs.Places.{cell-refused, cell-after}
use Rattle.groups.proofs.set_cell.Goals as goal

pub returns-clause-value : goal.returns-clause-value
returns-clause-value c = rw c.place_in.ensures at c.set_placed.ensures.value ∙ cell-refused c.args.tables.records.now _ _ _

pub returns-clause-words_after : goal.returns-clause-words_after
returns-clause-words_after c = rw c.place_in.ensures at c.set_placed.ensures.words_after ∙ cell-after _ _ _ _ _
