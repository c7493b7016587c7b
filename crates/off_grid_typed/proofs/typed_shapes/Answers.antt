-- `off_grid_typed::typed_shapes` meets its contract. Assumes nothing.
use Rattle.off_grid_typed.proofs.Past.{zero-past}
use Rattle.off_grid_typed.proofs.typed_shapes.Goals as goal

pub returns : goal.returns
returns c = record { value = c.yes.ensures; typed = record { numbers = zero-past c.args.shapes.now c.shared_slice_known-1.given } }
