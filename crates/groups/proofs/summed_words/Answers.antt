-- `groups::summed_words` meets its contract. Assumes nothing.
use Rattle.groups.proofs.Counts.{all-groups, all_words}
use Rattle.window.proofs.Check.{sizes-small}
use mathlib.Core.Path.{sym, ◌∙◌}
use native.Mathlib.Omega.{arith}
use Rattle.groups.proofs.summed_words.Goals as goal

pub overflow_add-result : goal.overflow_add-result
overflow_add-result c =
    let k = sizes-small _ (sym c.sizes_fit.ensures ∙ c.if-sizes_fit.true) in
    rw (c.words_before.ensures, c.group_count.ensures) (omega (arith, all-groups _ k, all_words _ k))
