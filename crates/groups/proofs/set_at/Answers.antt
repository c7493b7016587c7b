-- `groups::set_at` meets its contract. Assumes nothing.
use mathlib.Core.Path.{◌∙◌}
use Rattle.groups.proofs.Places.{counted-refused, counted-after}
use Rattle.groups.proofs.set_at.Goals as goal

pub returns-clause-value : goal.returns-clause-value
returns-clause-value c = c.set_placed.ensures.value ∙ counted-refused c.args.tables.records.now _ _ _

pub returns-clause-words_after : goal.returns-clause-words_after
returns-clause-words_after c = c.set_placed.ensures.words_after ∙ counted-after _ _ _ _ _
