-- `off_grid_typed::typed_at` meets its contract. Assumes nothing.
use mathlib.Core.Path.{◌≡◌, refl, sym, ◌∙◌, subst}
use native.Mathlib.Omega.{arith}
use lib.Dec.{T}
use lib.ListN.{length, length-map}
use Rattle.boxes.specs.declared.Aabb.{Aabb}
use Rattle.sweeps.specs.Lists.{room, no_box}
use Rattle.tables.proofs.Lists.{get_d_any}
use Rattle.off_grid.specs.Demand.{box_f64}
use Rattle.off_grid_typed.proofs.typed_at.Goals as goal
use Rattle.off_grid_typed.proofs.typed_at.Goals.{Start}

-- the array has as many elements as the list has room
whole : (c : Start) → length c.args.list.boxes ≡ room
whole c = c.well_formed.0.1.1.0.1.0.1

pub returns-then-i-lt-ROOM : goal.returns-then-i-lt-ROOM
returns-then-i-lt-ROOM c =
    let l = whole (goal.at.returns-then-i-lt-ROOM c).Start in
    record { value = c.typed_box.ensures.value; typed = λ h. subst (λ (b : Aabb). T (box_f64 b)) (get_d_any c.args.list.boxes c.args.i _ no_box (omega (arith, l))) c.typed_box.ensures.typed }

pub returns : goal.returns
returns c = record { value = refl; typed = λ h. absurd (let z = c.if-i-lt-ROOM.false in omega arith) }
