-- The one look-up. The column decides first: outside the window it is refused, and never taken for unloaded; a column that is not loaded is so at
-- every height. In a loaded one the sky and the void are air, whatever the window holds there; then the window's height decides.
use Rattle.std.specs.Prelude.{Result, Option, Some, None, not, ◌&&◌, List, ℕ, eqb, ◌+ℤ◌, get_or}
use Rattle.base.specs.Choose.{choose}
use Rattle.base.specs.Ask.{Ask, refused, found}
use Rattle.base.specs.declared.Refusal.{Refusal}
use Rattle.base.specs.Refusals.{asked_as}
use Rattle.window.specs.declared.Pos.{Pos}
use Rattle.window.specs.declared.CellStep.{CellStep}
use Rattle.window.specs.declared.Window.{Window}
use Rattle.window.specs.Window.{column_inside, height_inside, is_void, index_of, column_index_of, column_lent}

-- what the Rust's `block_at` answers: None where the chunk is not loaded
pub data Block : Type 0 where
  none : Block
  some : ℕ → Block

-- a column for which the host lent no word is refused as one outside is; no window that passes its check has one
unfoldable pub look_at : List ℕ → Window → Pos → Ask Block
look_at words w p =
    choose (not (column_inside w p && column_lent words w p)) (refused 5)
    (choose (eqb (get_or words (column_index_of w p) 0) 0) (found none)
    (choose (is_void w p) (found (some w.air))
    (choose (not (height_inside w p)) (refused 5)
    (found (some (get_or words (index_of w p) 0))))))

-- what the program's answer says: a state, or nothing where the cell is not loaded
abbrev pub block_there : Option ℕ → Block
block_there None = none
block_there (Some s) = some s

abbrev pub block_asked : Result (Option ℕ) Refusal → Ask Block
block_asked = asked_as block_there

-- a step away
abbrev pub stepped : Pos → CellStep → Pos
stepped p d = record { x = p.x +ℤ d.x; y = p.y +ℤ d.y; z = p.z +ℤ d.z }
