-- `scene::tick::step_among` meets its contract. Assumes nothing.
use Rattle.std.proofs.Common.{rules}
use Rattle.scene.proofs.tick.step_among.Goals as goal

pub returns : goal.returns
returns c =
    rw (c.rules_from-rules.ensures, c.body_from-body.ensures, c.motion_from-given.ensures, c.body_age-age.ensures, c.numbers_in-numbers.ensures, c.words_in-words.ensures) at c.step_body_sensed.ensures
