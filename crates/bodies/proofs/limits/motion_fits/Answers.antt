-- `bodies::limits::motion_fits` meets its contract. Assumes nothing.
use Rattle.bodies.specs.Limits.{motion_fits}
use Rattle.bodies.proofs.limits.motion_fits.Goals as goal

pub returns : goal.returns
unfolding motion_fits
returns c = rw (← c.is_position.ensures, ← c.is_velocity.ensures)
