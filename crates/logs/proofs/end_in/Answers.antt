-- `logs::end_in` meets its contract. Assumes nothing.
use Rattle.std.proofs.Common.{◌≡◌, ◌*◌, ◌∙◌, rules, tests}
use Rattle.std.proofs.lemmas.Iterator.{first_from_Range}
use Rattle.blocks.specs.Blocks.{part_word}
use Rattle.logs.proofs.Ends.{end-is}
use Rattle.logs.proofs.end_in.Goals as goal

pub returns : goal.returns
returns c =
    let word = part_word c.args.file.now c.args.p in
    let first = first_from_Range _ _ _ _ (λ i. word (i * 4) ≡ 0) (λ i. word (i * 4) ≡ 0 → ⊥) c.find.ensures.ran (λ x q k. search (rules, tests)) (λ x q k. (search (rules, tests), search (rules, tests))) in
    c.unwrap_or.ensures ∙ end-is word c.args.n c.find.result first
