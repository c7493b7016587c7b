-- The window: which columns and cells it holds, where the word of each stands among the lent words, and when a window is turned away.
use Rattle.std.specs.Prelude.{Bool, ◌&&◌, ◌||◌, List, ℕ, ◌+◌, ◌*◌, leb, ltb, eqb, ℤ, pos, nat_abs, ◌+ℤ◌, ◌-ℤ◌, length, get_or}
use Rattle.std.specs.Int.Signed.{le_z, lt_z}
use Rattle.base.specs.Choose.{choose}
use Rattle.base.specs.Every.{every}
use Rattle.window.specs.declared.Pos.{Pos}
use Rattle.window.specs.declared.Sizes.{Sizes}
use Rattle.window.specs.declared.Window.{Window}

-- on one axis: origin ≤ coordinate < origin + size
abbrev pub within : ℤ → ℕ → ℤ → Bool
within origin size c = le_z origin c && lt_z c (origin +ℤ pos size)

-- the column of a cell lies in the window
abbrev pub column_inside : Window → Pos → Bool
column_inside w p = within w.origin.x w.sizes.x p.x && within w.origin.z w.sizes.z p.z

-- and so does its height
abbrev pub height_inside : Window → Pos → Bool
height_inside w p = within w.origin.y w.sizes.y p.y

-- above or below the world
unfoldable pub is_void : Window → Pos → Bool
is_void w p = lt_z p.y w.lowest || lt_z w.highest p.y

-- ---- places among the lent words: the cells first, then one word for each column

-- ((y × size z) + z) × size x + x
abbrev pub index_at : Sizes → ℕ → ℕ → ℕ → ℕ
index_at s x y z = (y * s.z + z) * s.x + x

abbrev pub cell_count : Sizes → ℕ
cell_count s = s.x * s.y * s.z

abbrev pub column_count : Sizes → ℕ
column_count s = s.x * s.z

-- the place of a cell inside the window, counted from the origin: there no difference is below zero
unfoldable pub index_of : Window → Pos → ℕ
index_of w p =
    index_at w.sizes (nat_abs (p.x -ℤ w.origin.x)) (nat_abs (p.y -ℤ w.origin.y)) (nat_abs (p.z -ℤ w.origin.z))

-- the place of a column's word: z × size x + x, behind the cells
unfoldable pub column_index_of : Window → Pos → ℕ
column_index_of w p =
    cell_count w.sizes + (nat_abs (p.z -ℤ w.origin.z) * w.sizes.x + nat_abs (p.x -ℤ w.origin.x))

-- whether it was lent. A look-up asks for no check before it, and sizes may be any u32: of 2^32 columns and more none has a word, so that every
-- place is a number of 64 bits. No window that passes its check has so many.
abbrev pub column_lent : List ℕ → Window → Pos → Bool
column_lent words w p = ltb (column_count w.sizes) 4294967296 && ltb (column_index_of w p) (length words)

-- ---- the check

-- sizes are 1 to 64 each
abbrev pub size_is_fit : ℕ → Bool
size_is_fit n = leb 1 n && leb n 64

unfoldable pub sizes_fit : Sizes → Bool
sizes_fit s = size_is_fit s.x && size_is_fit s.y && size_is_fit s.z

-- coordinates and heights are of size at most 2^25
unfoldable pub coordinate_fits : ℤ → Bool
coordinate_fits c = leb (nat_abs c) 33554432

unfoldable pub origin_fits : Pos → Bool
origin_fits o = coordinate_fits o.x && coordinate_fits o.y && coordinate_fits o.z

-- the lowest cell is not over the highest
unfoldable pub heights_fit : ℤ → ℤ → Bool
heights_fit lowest highest = coordinate_fits lowest && coordinate_fits highest && le_z lowest highest

-- a column's word is 1, loaded, or 0, not
unfoldable pub column_fits : List ℕ → ℕ → Bool
column_fits words i = leb (get_or words i 0) 1

-- so many words from the first on
unfoldable pub columns_fit : List ℕ → ℕ → ℕ → Bool
columns_fit words first count = every count (λ k. column_fits words (first + k))

-- a window over these words breaks no limit, and there are as many cells and columns as its sizes say
unfoldable pub window_fits : List ℕ → Window → Bool
window_fits words w =
    sizes_fit w.sizes
    && origin_fits w.origin
    && heights_fit w.lowest w.highest
    && eqb (length words) (cell_count w.sizes + column_count w.sizes)
    && columns_fit words (cell_count w.sizes) (column_count w.sizes)

-- 0, or the number of the refusal
unfoldable pub window_refusal : List ℕ → Window → ℕ
window_refusal words w = choose (window_fits words w) 0 2
