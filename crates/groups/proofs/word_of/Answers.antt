-- `groups::word_of` meets its contract. Assumes nothing.
use mathlib.Core.Path.{◌∙◌}
use Rattle.window.proofs.Check.{sizes-small}
use Rattle.group_words.proofs.Cells.{word-near}
use Rattle.groups.proofs.Counts.{at-near}
use Rattle.groups.proofs.word_of.Goals as goal

pub returns : goal.returns
returns c =
    let s = c.args.view.window.sizes in
    let near = at-near s (sizes-small s c.requires.sizes_value) c.args.i c.requires.i_bound in
    (rw c.group_at.ensures at c.group_word.ensures) ∙ word-near _ _ _ _ near
