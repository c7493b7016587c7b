-- What is refused of a move over boxes in lent numbers; `places` are how many numbers there is room for in what is lent to be written to.
use Rattle.std.specs.Prelude.{not, List, ℕ, ltb, eqb, Float}
use Rattle.base.specs.Choose.{choose}
use Rattle.sweeps.specs.Lists.{cap_of}
use Rattle.movers.specs.Movers.{mover_refusal}
use Rattle.lent_boxes.specs.Boxes.{lent_count, lent_fit}

-- 3, then 4, also for any of the boxes; 11 for less room than ten numbers; 6 for more boxes than the cap in force; else 0
unfoldable pub list_refusal : ℕ → List Float → List Float → Float → ℕ → ℕ → ℕ
list_refusal cap boxes mover step grounded places =
    let early : ℕ = mover_refusal cap mover step grounded (lent_fit boxes) in
    choose (not (eqb early 0)) early
    (choose (ltb places 10) 11
    (choose (ltb (cap_of cap) (lent_count boxes)) 6
    0))
