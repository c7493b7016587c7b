-- `window::View::look` meets its contract: no step leaves the cell where it is. Assumes nothing.
use mathlib.Core.Path.{◌≡◌, ap, ◌∙◌}
use lib.IntN.{pos, +ℤ_idr}
use Rattle.window.specs.declared.Pos.{Pos}
use Rattle.window.specs.Look.{stepped}
use Rattle.window.specs.Views.{look_in}
use Rattle.window.proofs.View.look.Goals as goal

still : (p : Pos) → stepped p (record { x = pos 0; y = pos 0; z = pos 0 }) ≡ p
still p = λ i. record { x = +ℤ_idr p.x i; y = +ℤ_idr p.y i; z = +ℤ_idr p.z i }

pub returns : goal.returns
returns c = c.look_by.ensures ∙ ap (look_in c.args.self) (still c.args.p)
