-- `logs::rest_of_log_zero` meets its contract. Assumes nothing.
use Rattle.std.proofs.Common.{ℕ, ◌-◌, ◌*◌, ◌∙◌, refl, rules, tests}
use Rattle.std.proofs.lemmas.Iterator.{YieldsList-from_range}
use Rattle.std.proofs.lemmas.Iterator.Search.{all_from_yields_List}
use lib.Dec.{eqb}
use Rattle.block_rules.proofs.Ranges.{all-from}
use Rattle.blocks.specs.Blocks.{part_word}
use Rattle.logs.specs.Logs.{rest_of_log_zero}
use Rattle.logs.proofs.rest_of_log_zero.Goals as goal

pub returns : goal.returns
unfolding rest_of_log_zero
returns c =
    let test = λ (k : ℕ). eqb (part_word c.args.file.now c.args.p k) 0 in
    let at = c.args.e * 4 in
    let all = c.args.blocks * 120 in
    all_from_yields_List test _ _ _ c.all.ensures.ran (YieldsList-from_range at all (all - at) refl refl) (λ x b q k. search (rules, tests))
    ∙ all-from test (all - at) at
