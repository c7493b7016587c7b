-- `groups::words_before` meets its contract. Assumes nothing.
use Rattle.groups.proofs.Counts.{all_words}
use Rattle.window.proofs.Check.{sizes-small, layer-count, cell-count, column-count}
use native.Mathlib.Omega.{arith}
use Rattle.groups.proofs.words_before.Goals as goal

pub overflow_mul-result : goal.overflow_mul-result
overflow_mul-result c = omega (arith, layer-count _ (sizes-small c.args.s c.requires))

pub overflow_mul-result-2 : goal.overflow_mul-result-2
overflow_mul-result-2 c = omega (arith, cell-count _ (sizes-small c.args.s c.requires))

pub overflow_mul-result-3 : goal.overflow_mul-result-3
overflow_mul-result-3 c = omega (arith, column-count _ (sizes-small c.args.s c.requires))

pub overflow_add-result : goal.overflow_add-result
overflow_add-result c = omega (arith, all_words _ (sizes-small c.args.s c.requires))
