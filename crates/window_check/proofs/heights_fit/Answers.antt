-- `window_check::heights_fit` meets its contract. Assumes nothing.
use mir.Syntax.{w32}
use mir.ValLaws.{to_z-of_z}
use Rattle.window.specs.Window.{heights_fit}
use Rattle.window_check.proofs.heights_fit.Goals as goal

pub returns : goal.returns
unfolding heights_fit
returns c =
    let a = c.args in
    let g = c.struct_told-1.given in
    rw (
      c.coordinate_fits.ensures,
      c.coordinate_fits-2.ensures,
      to_z-of_z w32 a.w.lowest record { sfits = g.1.1.0.1 },
      to_z-of_z w32 a.w.highest record { sfits = g.1.1.1.0.1 },
    )
