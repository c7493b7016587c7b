-- `window_check::origin_fits` meets its contract. Assumes nothing.
use mir.Syntax.{w32}
use mir.ValLaws.{to_z-of_z}
use Rattle.window.specs.Window.{origin_fits}
use Rattle.window_check.proofs.origin_fits.Goals as goal

pub returns : goal.returns
unfolding origin_fits
returns c =
    let a = c.args in
    let g = c.struct_told-1.given in
    rw (
      c.coordinate_fits.ensures,
      c.coordinate_fits-2.ensures,
      c.coordinate_fits-3.ensures,
      to_z-of_z w32 a.o.x record { sfits = g.0.1 },
      to_z-of_z w32 a.o.y record { sfits = g.1.0.1 },
      to_z-of_z w32 a.o.z record { sfits = g.1.1.0.1 },
    )
