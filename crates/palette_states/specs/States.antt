-- The states of the classroom palette (document 02, Eight): "0 air, 1 cube, 2 to 17 an oak fence, 18 to 33 a nether brick fence, 34 to 49 a pane,
-- 50 to 211 a wall."
use Rattle.std.specs.Prelude.{Bool, true, ℕ, ◌+◌, ◌-◌, ◌/◌, ◌%◌, ltb, eqb}
use Rattle.base.specs.Choose.{choose}
use Rattle.turns.specs.Turns.{first_wall, walls, digit_at}

-- the first state of each
abbrev pub air_state : ℕ
air_state = 0

abbrev pub cube_state : ℕ
cube_state = 1

abbrev pub oak_state : ℕ
oak_state = 2

abbrev pub brick_state : ℕ
brick_state = 18

abbrev pub pane_state : ℕ
pane_state = 34

abbrev pub wall_state : ℕ
wall_state = first_wall

abbrev pub states : ℕ
states = first_wall + walls

-- what a state connects as, word 4 of document 01: 0 nothing, 1 fence, 2 nether brick fence, 3 thin, 4 wall
unfoldable pub kind : ℕ → ℕ
kind s = choose (ltb s 2) 0 (choose (ltb s 18) 1 (choose (ltb s 34) 2 (choose (ltb s 50) 3 (choose (ltb s states) 4 0))))

-- its number among those of its kind: what it is above its base
unfoldable pub index : ℕ → ℕ
index s = choose (ltb s 2) 0 (choose (ltb s 18) (s - 2) (choose (ltb s 34) (s - 18) (choose (ltb s 50) (s - 34) (s - 50))))

-- ---- sides: 0 north, 1 east, 2 south, 3 west; 4 is the post of a wall

-- "A fence or pane state is its base plus one bit per side, north 1, east 2, south 4, west 8."
unfoldable pub bit : ℕ → ℕ
bit p = choose (eqb p 0) 1 (choose (eqb p 1) 2 (choose (eqb p 2) 4 8))

unfoldable pub bit_at : ℕ → ℕ → ℕ
bit_at i p = i / bit p % 2

-- a state's digit on a side: 0 where it is not joined there
unfoldable pub side_digit : ℕ → ℕ → ℕ
side_digit s p = choose (eqb (kind s) 0) 0 (choose (eqb (kind s) 4) (digit_at (index s) p) (bit_at (index s) p))

-- ---- posts

-- word 6: a wall's "equals the post digit"
unfoldable pub post_digit : ℕ → ℕ
post_digit s = choose (eqb (kind s) 4) (digit_at (index s) 4) 0

-- the cube, every fence and pane, and a wall "where its post digit is 1"
unfoldable pub has_post : ℕ → Bool
has_post s = choose (eqb (kind s) 0) (eqb s 1) (choose (eqb (kind s) 4) (eqb (digit_at (index s) 4) 1) true)
