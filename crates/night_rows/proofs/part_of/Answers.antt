-- `night_rows::part_of` meets its contract. Assumes nothing.
use Rattle.night_rows.proofs.Parts.{part}
use Rattle.night_rows.proofs.part_of.Goals as goal

pub returns : goal.returns
returns g c = part c.args.all.now c.args.at c.args.count _ _ c.min-start.ensures c.min-length.ensures
