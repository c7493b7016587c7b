-- Module 4, face cover. Document 01: "Yes exactly when the rectangles at or past the face, clamped to 0..1, cover the unit square. No box covers
-- nothing."
-- It is said over whole numbers. Every finite f32 is a whole number of 2 ^ -149, so the unit square is `unit_cells` by `unit_cells` cells of that size, no edge
-- of a rectangle cuts through a cell, and the rectangles cover the square exactly when each cell lies in one of them.
use Rattle.std.specs.Prelude.{Bool, not, ◌&&◌, ◌||◌, List, ℕ, ◌+◌, ◌*◌, ◌/◌, ◌^◌, min, length, get_or, leb, ltb, Float}
use Rattle.std.specs.Float.{nan, inf, fin, binary32}
use Rattle.std.specs.Float.Ieee.{of_bits, is_nan, up, down, le}
use Rattle.base.specs.Choose.{choose}
use Rattle.base.specs.Every.{every, any}
use Rattle.cover.specs.declared.Side.{Side}
use Rattle.cover.specs.declared.Side.TheVariants.{North, East, South, West}

-- ---- the boxes of a shape, and the rectangle of a box on a face, as the Rust's `covers_face` has it

-- a shape is a list of boxes of six numbers, x0 y0 z0 x1 y1 z1
abbrev pub box_count : List Float → ℕ
box_count l = length l / 6

-- number c of box k
abbrev pub box_number : List Float → ℕ → ℕ → Float
box_number l k c = get_or l (k * 6 + c) nan

-- 0.0 and 1.0
abbrev pub zero32 : Float
zero32 = of_bits binary32 0

abbrev pub one32 : Float
one32 = of_bits binary32 0x3f800000

-- box k is at the face or past it: z0 <= 0.0, x1 >= 1.0, z1 >= 1.0, x0 <= 0.0
unfoldable pub on_face : List Float → Side → ℕ → Bool
on_face l North k = le (box_number l k 2) zero32
on_face l East k = le one32 (box_number l k 3)
on_face l South k = le one32 (box_number l k 5)
on_face l West k = le (box_number l k 0) zero32

-- u runs along the face: x on north and south, z on east and west. v is the height.
unfoldable pub u_place : Side → ℕ
u_place North = 0
u_place East = 2
u_place South = 0
u_place West = 2

abbrev pub u0 : List Float → Side → ℕ → Float
u0 l f k = box_number l k (u_place f)

abbrev pub u1 : List Float → Side → ℕ → Float
u1 l f k = box_number l k (u_place f + 3)

abbrev pub v0 : List Float → ℕ → Float
v0 l k = box_number l k 1

abbrev pub v1 : List Float → ℕ → Float
v1 l k = box_number l k 4

-- ---- cells

unfoldable pub unit_cells : ℕ
unit_cells = 2 ^ 149

-- How many cells lie before an edge: the edge clamped to 0..1, in units of 2 ^ -149. `fin s m e` is m * 2 ^ e, negative where s is true.
unfoldable pub cells_before : Float → ℕ
cells_before nan = 0
cells_before (inf s) = choose s 0 unit_cells
cells_before (fin s m e) = choose s 0 (min (m * up e * unit_cells / down e) unit_cells)

-- the rectangle of box k on the face has the cell that is number i along the face and number j up it
abbrev pub has_cell : List Float → Side → ℕ → ℕ → ℕ → Bool
has_cell l f i j k =
    on_face l f k
    && leb (cells_before (u0 l f k)) i
    && ltb i (cells_before (u1 l f k))
    && leb (cells_before (v0 l k)) j
    && ltb j (cells_before (v1 l k))

-- Box k is on the face, and an edge of its rectangle is a NaN. In the Rust that NaN is a cut, no rectangle reaches up to it, and so the face is not
-- covered, whatever the other boxes are.
abbrev pub has_nan : List Float → Side → ℕ → Bool
has_nan l f k = on_face l f k && (is_nan (u0 l f k) || is_nan (u1 l f k) || is_nan (v0 l k) || is_nan (v1 l k))

-- ---- the answers

-- each cell of the unit square lies in a rectangle
abbrev pub all_cells : List Float → Side → Bool
all_cells l f = every unit_cells (λ i. every unit_cells (λ j. any (box_count l) (has_cell l f i j)))

unfoldable pub covers_face : List Float → Side → Bool
covers_face l f = all_cells l f && not (any (box_count l) (has_nan l f))

-- word 19 of document 01: bit 0 north, 1 east, 2 south, 3 west
unfoldable pub full_faces : List Float → ℕ
full_faces l = choose (covers_face l North) 1 0 + choose (covers_face l East) 2 0 + choose (covers_face l South) 4 0 + choose (covers_face l West) 8 0
