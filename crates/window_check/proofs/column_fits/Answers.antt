-- `window_check::column_fits` meets its contract. Assumes nothing.
use Rattle.window.specs.Window.{column_fits}
use mathlib.Core.Path.{refl}
use lib.ListN.{get_or-eq_default}
use Rattle.window_check.proofs.column_fits.Goals as goal

pub returns-then-i-words : goal.returns-then-i-words
unfolding column_fits
returns-then-i-words c = refl

pub returns : goal.returns
unfolding column_fits
returns c = rw (get_or-eq_default c.args.words.now 0 c.if-i-words.false)
