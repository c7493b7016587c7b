-- What the program works with: how far a coordinate lies above the origin's, and the words at three such offsets.
-- `proofs/Offsets` shows that this comes to the look-up as defined in `Look`.
use Rattle.std.specs.Prelude.{Bool, ◌&&◌, List, ℕ, ◌+◌, ◌*◌, ltb, eqb, ℤ, pos, nat_abs, length, get_or}
use Rattle.std.specs.Int.Signed.{le_z, lt_z}
use Rattle.base.specs.Choose.{choose}
use Rattle.base.specs.Ask.{Ask, refused, found}
use Rattle.window.specs.declared.Sizes.{Sizes}
use Rattle.window.specs.Look.{Block, none, some}
use Rattle.window.specs.Window.{column_count}

-- an offset is one of so many from the origin on
abbrev pub is_ahead : ℤ → ℕ → Bool
is_ahead n size = le_z (pos 0) n && lt_z n (pos size)

-- by what the column's word says: `void` says whether the cell lies above or below the world
abbrev pub in_column : ℕ → ℕ → Bool → Ask Block → Ask Block
in_column v air void cell = choose (eqb v 0) (found none) (choose void (found (some air)) cell)

-- The words of the columns stand where a layer above the window's highest would. Each layer has so many words, and the column's is `at`.
unfoldable pub look_down : List ℕ → ℕ → ℕ → ℕ → ℕ → Bool → ℤ → Ask Block
look_down words layer at height air void y =
    choose (ltb layer 4294967296)
    (choose (ltb (height * layer + at) (length words))
    (in_column (get_or words (height * layer + at) 0) air void (choose (is_ahead y height) (found (some (get_or words (nat_abs y * layer + at) 0))) (refused 5)))
    (refused 5))
    (refused 5)

unfoldable pub look_within : List ℕ → Sizes → ℕ → Bool → ℤ → ℤ → ℤ → Ask Block
look_within words s air void x y z =
    choose (is_ahead x s.x) (choose (is_ahead z s.z) (look_down words (column_count s) (nat_abs z * s.x + nat_abs x) s.y air void y) (refused 5)) (refused 5)
