-- `list_moves::are_boxes` meets its contract. Assumes nothing.
use Rattle.std.proofs.Common.{◌∙◌, rules, tests}
use Rattle.std.proofs.lemmas.Iterator.{YieldsList-from_slice}
use Rattle.std.proofs.lemmas.Iterator.Search.{all_from_yields_List}
use Rattle.boxes.specs.Limits.{is_box}
use Rattle.list_moves.proofs.Limits.{all-boxes}
use Rattle.list_moves.proofs.are_boxes.Goals as goal

pub returns : goal.returns
returns c =
    all_from_yields_List is_box _ _ _ c.all.ensures.ran (YieldsList-from_slice c.args.boxes.now c.iter.ensures.rest) (λ x b q k. search (rules, tests))
    ∙ all-boxes c.args.boxes.now
