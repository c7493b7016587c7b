-- A cell, as a host hands it over.
use Rattle.std.specs.Prelude.{ℤ}
use Rattle.window.specs.declared.Pos.{Pos}

-- by its three numbers
abbrev pub cell_named : ℤ → ℤ → ℤ → Pos
cell_named x y z = record { x = x; y = y; z = z }
