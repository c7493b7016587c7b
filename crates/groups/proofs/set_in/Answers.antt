-- `groups::set_in` meets its contract. Assumes nothing.
use mathlib.Core.Path.{◌∙◌}
use Rattle.group_words.proofs.Cells.{word-near}
use Rattle.groups.proofs.Places.{near-group}
use Rattle.groups.proofs.set_in.Goals as goal

pub group_place-requires : goal.group_place-requires
group_place-requires c =
    let near = near-group c.args.w.sizes c.args.t c.requires.sizes_value c.requires.t_value in
    record { s_value = c.requires.sizes_value; x_bound = near.x; y_bound = near.y; z_bound = near.z }

pub returns : goal.returns
returns c =
    let near = near-group c.args.w.sizes c.args.t c.requires.sizes_value c.requires.t_value in
    let word = c.group_word-word.ensures ∙ word-near _ _ _ _ near in
    rw (c.put-2.ensures, c.group_place.ensures, word, c.put.ensures, c.cell_place.ensures)
