-- `list_moves::move_over` meets its contract. Assumes nothing.
use mathlib.Core.Path.{◌∙◌}
use Rattle.sweeps.proofs.Shape.{moves}
use Rattle.sweeps.specs.Lists.{list_of}
use Rattle.list_moves.proofs.move_over.Goals as goal

pub returns : goal.returns
returns c =
    let s = c.swept_over in
    c.ended.ensures ∙ moves (list_of c.args.list) _ s.result s.ensures
