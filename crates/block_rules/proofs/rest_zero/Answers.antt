-- `block_rules::rest_zero` meets its contract. Assumes nothing.
use Rattle.std.proofs.Common.{ℕ, ◌+◌, ◌||◌, ◌∙◌, refl, rules, tests}
use Rattle.std.proofs.lemmas.Iterator.{YieldsList-from_range}
use Rattle.std.proofs.lemmas.Iterator.Search.{all_from_yields_List}
use lib.Dec.{eqb, ltb}
use Rattle.block_checks.specs.Checks.{file_word}
use Rattle.block_rules.specs.Rules.{rest_zero}
use Rattle.block_rules.proofs.Ranges.{all-every}
use Rattle.block_rules.proofs.rest_zero.Goals as goal

pub returns : goal.returns
unfolding rest_zero
returns c =
    let test = λ (i : ℕ). ltb i c.args.used || eqb (file_word c.args.block.now (3 + i)) 0 in
    all_from_yields_List test _ _ _ c.all.ensures.ran (YieldsList-from_range 0 123 123 refl refl) (λ x b q k. search (rules, tests))
    ∙ all-every test 123
