-- `blocks::part_fits` meets its contract. Assumes nothing.
use Rattle.std.proofs.Common.{ℕ, ◌+◌, ◌∙◌, refl, ap, arith, rules, tests}
use Rattle.std.proofs.lemmas.Iterator.{YieldsList-from_range, serves_from_Range}
use Rattle.std.proofs.lemmas.Iterator.Search.{all_from_yields_List}
use Rattle.base.specs.Every.{every}
use Rattle.block_rules.proofs.Ranges.{all-every}
use Rattle.blocks.proofs.Parts.{blocks-most}
use Rattle.blocks.specs.Blocks.{part_fits, is_second, block_fits, block_of, used_in}
use Rattle.blocks.proofs.part_fits.Goals as goal

pub all-requires-clause-callable : goal.all-requires-clause-callable
all-requires-clause-callable c =
    let m = blocks-most c.args.p in
    let e = c.blocks_of.ensures in
    serves_from_Range (λ x q k. search rules) (λ x l h. search rules)

pub returns : goal.returns
unfolding part_fits is_second
returns c =
    let file = c.args.file.now in
    let p = c.args.p in
    let test = λ (j : ℕ). block_fits (is_second file) (block_of file (p.first + j)) (p.first + j) p.kind (used_in p j) in
    let e = c.has_new_mark-second.ensures in
    all_from_yields_List test _ _ _ c.all.ensures.ran (YieldsList-from_range 0 c.blocks_of.result c.blocks_of.result refl (omega arith)) (λ x b q k. search (rules, tests))
    ∙ all-every test c.blocks_of.result
    ∙ ap (λ (n : ℕ). every n test) c.blocks_of.ensures
