-- The cells that lie between two coordinates, on one axis and on three.
use Rattle.std.specs.Prelude.{ℕ, ◌+◌, min, ltb, eqb, ℤ, pos, negsuc, ◌+ℤ◌, ◌-ℤ◌, Float}
use Rattle.std.specs.Int.Signed.{le_z}
use Rattle.base.specs.Choose.{choose}
use Rattle.wholes.specs.Whole.{cell_of}
use Rattle.window.specs.declared.Pos.{Pos}
use Rattle.ranges.specs.declared.Axis.{Axis}
use Rattle.ranges.specs.declared.Range.{Range}
use Rattle.ranges.specs.declared.At.{At}

-- How many cells there are from a to b, both ends included: none where b is below a. No two cells of coordinates are 2 ^ 32 apart, since
-- `cell_of` stays within 2 ^ 26.
abbrev pub or_zero : ℤ → ℕ
or_zero (pos n) = n
or_zero (negsuc n) = 0

unfoldable pub span_of : ℤ → ℤ → ℕ
span_of a b = min (or_zero (b -ℤ a +ℤ pos 1)) 4294967295

-- lo.floor() ..= hi.floor()
abbrev pub cells_between : Float → Float → Axis
cells_between lo hi = record { first = cell_of lo; count = span_of (cell_of lo) (cell_of hi) }

-- lo.floor() - 1 ..= hi.floor(): fences and walls reach half a block into the cell above them
abbrev pub layers_between : Float → Float → Axis
layers_between lo hi = record { first = cell_of lo -ℤ pos 1; count = span_of (cell_of lo -ℤ pos 1) (cell_of hi) }

-- So many cells on from the first. It stops at 2 ^ 26, where `cell_of` stops; no window holds that cell.
unfoldable pub on_from : ℤ → ℕ → ℤ
on_from a n = choose (le_z (a +ℤ pos n) (pos 67108864)) (a +ℤ pos n) (pos 67108864)

abbrev pub place_at : Range → ℕ → ℕ → ℕ → Pos
place_at r x y z = record { x = on_from r.x.first x; y = on_from r.y.first y; z = on_from r.z.first z }

abbrev pub place_of : Range → At → Pos
place_of r t = place_at r t.x t.y t.z

-- the cell after this one: z first, then x, then y
unfoldable pub next_of : Range → At → At
next_of r t =
    choose (ltb (t.z + 1) r.z.count) record { x = t.x; y = t.y; z = t.z + 1 }
    (choose (ltb (t.x + 1) r.x.count) record { x = t.x + 1; y = t.y; z = 0 }
    record { x = 0; y = choose (ltb t.y r.y.count) (t.y + 1) t.y; z = 0 })

-- the first cell, or past the last layer where there is none
unfoldable pub start_of : Range → At
start_of r =
    choose (eqb r.x.count 0) record { x = 0; y = r.y.count; z = 0 }
    (choose (eqb r.z.count 0) record { x = 0; y = r.y.count; z = 0 }
    record { x = 0; y = 0; z = 0 })

-- no cell at all where x or z has none
abbrev pub no_cells : Range
no_cells = let none : Axis = record { first = pos 0; count = 0 } in record { x = none; y = none; z = none }

unfoldable pub trimmed : Range → Range
trimmed r = choose (eqb r.x.count 0) no_cells (choose (eqb r.z.count 0) no_cells r)
