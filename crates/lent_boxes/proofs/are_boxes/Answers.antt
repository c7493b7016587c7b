-- `lent_boxes::are_boxes` meets its contract. Assumes nothing.
use Rattle.std.proofs.Common.{◌∙◌, refl, arith, rules, tests}
use Rattle.std.proofs.lemmas.Iterator.{YieldsList-from_range}
use Rattle.std.proofs.lemmas.Iterator.Search.{all_from_yields_List}
use Rattle.boxes.specs.Limits.{is_box}
use Rattle.lent_boxes.specs.Boxes.{box_of, lent_count}
use Rattle.lent_boxes.proofs.Lent.{all-listed}
use Rattle.lent_boxes.proofs.are_boxes.Goals as goal

pub returns : goal.returns
returns c =
    let numbers = c.args.numbers.now in
    all_from_yields_List (λ k. is_box (box_of numbers k)) _ _ _ c.all.ensures.ran (YieldsList-from_range 0 (lent_count numbers) (lent_count numbers) refl (omega arith)) (λ x b q k. search (rules, tests))
    ∙ all-listed (box_of numbers) (lent_count numbers) 0
