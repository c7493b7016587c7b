-- `collection::collides` meets its contract. Assumes nothing.
use Rattle.std.proofs.Common.{rules}
use mathlib.Core.Path.{◌≡◌, refl, ap, ◌∙◌}
use Rattle.base.specs.declared.Refusal.TheVariants.{TooManyBoxes}
use Rattle.base.specs.Refusals.{number_of}
use Rattle.base.proofs.Answers.{one_number, some_number}
use Rattle.collection.specs.Answers.{held_asked}
use Rattle.collection.proofs.Past.{all-come-to}
use Rattle.collection.proofs.Caps.{no_hit, is-hit, hit-refused}
use Rattle.collection.proofs.collides.Goals as goal

pub returns-in-Ok : goal.returns-in-Ok
returns-in-Ok c = no_hit _ _ _ _ _ _ (c.in-Ok.ensures ∙ ap held_asked (all-come-to 0 _ _ _ _ _ c.range_of.ensures)) refl

pub returns-in-Err-TooManyBoxes : goal.returns-in-Err-TooManyBoxes
returns-in-Err-TooManyBoxes c =
    let f = c.in-Err-TooManyBoxes.field-0-is in
    is-hit _ _ _ _ _ _ (c.in-Err-TooManyBoxes.ensures ∙ ap held_asked (all-come-to 0 _ _ _ _ _ c.range_of.ensures)) (some_number _) (ap number_of f)

pub returns-in-Err : goal.returns-in-Err
returns-in-Err c =
    hit-refused _ _ _ _ _ _ (c.in-Err.ensures ∙ ap held_asked (all-come-to 0 _ _ _ _ _ c.range_of.ensures)) (some_number c.in-Err.refusal)
    (λ q. let z : c.in-Err.refusal ≡ TooManyBoxes = one_number c.in-Err.refusal TooManyBoxes q in search rules)
