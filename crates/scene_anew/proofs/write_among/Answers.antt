-- `scene_anew::write_among` meets its contract. Assumes nothing.
use Rattle.scene_anew.proofs.write_among.Goals as goal

pub returns : goal.returns
returns c = record { out_after = rw (c.numbers_in-numbers.ensures, c.words_in-words.ensures, c.body_age-age.ensures) at c.write_scene.ensures.out_after; value = rw (c.numbers_in-numbers.ensures, c.words_in-words.ensures, c.body_age-age.ensures) at c.write_scene.ensures.value }
