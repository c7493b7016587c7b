-- `logs::all_fit` meets its contract. Assumes nothing.
use Rattle.std.proofs.Common.{◌∙◌, refl, arith, rules, tests}
use Rattle.std.proofs.lemmas.Iterator.{YieldsList-from_range}
use Rattle.std.proofs.lemmas.Iterator.Search.{all_from_yields_List}
use Rattle.block_rules.proofs.Ranges.{all-every}
use Rattle.blocks.specs.Blocks.{part_word}
use Rattle.logs.specs.Logs.{event_fits}
use Rattle.logs.proofs.all_fit.Goals as goal

pub returns : goal.returns
returns c =
    let test = event_fits (part_word c.args.file.now c.args.p) in
    all_from_yields_List test _ _ _ c.all.ensures.ran (YieldsList-from_range 0 c.args.n c.args.n refl (omega arith)) (λ x b q k. search (rules, tests))
    ∙ all-every test c.args.n
