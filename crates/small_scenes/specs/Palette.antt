-- The lent tables of the scenes: 0 air, 1 a cube, 2 a slab, 3 to 5 water of depth 0, 1 and 4, 6 to 21 an oak fence, 22 to 37 a nether brick fence,
-- 38 to 69 a wall. A fence or wall state is its base plus one bit for each joined side, north 1, east 2, south 4, west 8; a wall's post is 16.
-- Fences and walls have no box here, and so no full face. `tables-pass` of proofs/Tables.antt says that the tables pass their check.
use Rattle.std.specs.Prelude.{List, [], ◌∷◌, ◌++◌, ℕ, ◌+◌, ◌-◌, ◌/◌, ◌%◌, eqb, Float}
use Rattle.std.specs.Float.{binary32}
use Rattle.std.specs.Float.Ieee.{of_bits}
use Rattle.base.specs.Choose.{choose}
use Rattle.base.specs.Loop.{appended}
use Rattle.cover.specs.Cover.{zero32, one32}

-- ---- records, as document 01 lays out their 20 words

-- words 0 to 8: the flags, the liquid and its depth, what it connects as, its first box and box count
abbrev pub first_words : ℕ → ℕ → ℕ → ℕ → ℕ → ℕ → List ℕ
first_words flags liquid depth kind first count = flags ∷ 0 ∷ liquid ∷ depth ∷ kind ∷ 0 ∷ 0 ∷ first ∷ count ∷ []

-- words 9 to 19 of a record that connects as nothing: its full faces
abbrev pub unlinked : ℕ → List ℕ
unlinked faces = 0 ∷ 0 ∷ 0 ∷ 0 ∷ 0 ∷ 0 ∷ 0 ∷ 0 ∷ 0 ∷ 0 ∷ faces ∷ []

-- one box, that blocks motion
abbrev pub solid_row : ℕ → ℕ → List ℕ
solid_row first faces = first_words 3 0 0 0 first 1 ++ unlinked faces

abbrev pub water_row : ℕ → List ℕ
water_row depth = first_words 1 1 depth 0 0 0 ++ unlinked 0

-- i with a bit off, and on
unfoldable pub off : ℕ → ℕ → ℕ
off i bit = choose (eqb (i / bit % 2) 1) (i - bit) i

unfoldable pub on : ℕ → ℕ → ℕ
on i bit = choose (eqb (i / bit % 2) 1) i (i + bit)

-- words 9 to 16, north, east, south, west: off, on
abbrev pub sides : ℕ → ℕ → List ℕ
sides base i =
    (base + off i 1) ∷ (base + on i 1) ∷ (base + off i 2) ∷ (base + on i 2) ∷ (base + off i 4) ∷ (base + on i 4) ∷ (base + off i 8) ∷ (base + on i 8) ∷ []

-- a fence's posts are its own index
unfoldable pub fence : ℕ → ℕ → ℕ → List ℕ
fence base kind i = first_words 1 0 0 kind 0 0 ++ (sides base i ++ ((base + i) ∷ (base + i) ∷ 0 ∷ []))

unfoldable pub wall : ℕ → ℕ → List ℕ
wall base i = first_words 1 0 0 4 0 0 ++ (sides base i ++ ((base + off i 16) ∷ (base + on i 16) ∷ 0 ∷ []))

-- ---- the states

abbrev pub air : ℕ
air = 0

abbrev pub full_cube : ℕ
full_cube = 1

abbrev pub slab : ℕ
slab = 2

abbrev pub water0 : ℕ
water0 = 3

abbrev pub water1 : ℕ
water1 = 4

abbrev pub water4 : ℕ
water4 = 5

abbrev pub oak_fence : ℕ
oak_fence = 6

abbrev pub nether_brick_fence : ℕ
nether_brick_fence = 22

abbrev pub plain_wall : ℕ
plain_wall = 38

abbrev pub unregistered : ℕ
unregistered = 4294967295

-- ---- the tables

unfoldable pub records : List ℕ
records =
    (first_words 1 0 0 0 0 0 ++ unlinked 0)
    ++ (solid_row 0 15
    ++ (solid_row 1 0
    ++ (water_row 0
    ++ (water_row 1
    ++ (water_row 4
    ++ (appended (fence oak_fence 1) 16 0
    ++ (appended (fence nether_brick_fence 2) 16 0
    ++ appended (wall plain_wall) 32 0)))))))

-- 0.5
abbrev pub half32 : Float
half32 = of_bits binary32 0x3f000000

-- the cube, and the slab
unfoldable pub shapes : List Float
shapes =
    zero32 ∷ zero32 ∷ zero32 ∷ one32 ∷ one32 ∷ one32
    ∷ zero32 ∷ zero32 ∷ zero32 ∷ one32 ∷ half32 ∷ one32
    ∷ []
