-- The wall transitions of the classroom palette (document 02, Eight): ten to a wall, words 9 to 18 of its record. Link k is word 9 + k; it turns digit
-- k / 2 off where k is even, and on where k is odd.
use Rattle.std.specs.Prelude.{Bool, ◌≡◌, List, ℕ, ◌+◌, ◌-◌, ◌*◌, ◌/◌, ◌%◌, ◌<◌, ◌≤◌, ltb, eqb, get_or}
use Rattle.base.specs.Choose.{choose}

-- "50 to 211 a wall"
abbrev pub first_wall : ℕ
first_wall = 50

abbrev pub walls : ℕ
walls = 162

-- "A wall is 50 plus north + 3 east + 9 south + 27 west + 81 post, sides 0 none, 1 short, 2 tall.": digits 0 to 4, in this order
unfoldable pub weight : ℕ → ℕ
weight p = choose (eqb p 0) 1 (choose (eqb p 1) 3 (choose (eqb p 2) 9 (choose (eqb p 3) 27 81)))

unfoldable pub digit_at : ℕ → ℕ → ℕ
digit_at i p = i / weight p % 3

abbrev pub is_on : ℕ → Bool
is_on k = eqb (k % 2) 1

-- "on" turns 0 into 1 and keeps 1 and 2; off makes 0
unfoldable pub turned : Bool → ℕ → ℕ
turned on d = choose on (choose (eqb d 0) 1 d) 0

-- "only the named digit changes": digit p of what link k of wall i leads to
unfoldable pub turned_at : ℕ → ℕ → ℕ → ℕ
turned_at i k p = choose (eqb p (k / 2)) (turned (is_on k) (digit_at i p)) (digit_at i p)

-- the wall of these digits
unfoldable pub wall_link : ℕ → ℕ → ℕ
wall_link i k = first_wall + turned_at i k 0 + 3 * turned_at i k 1 + 9 * turned_at i k 2 + 27 * turned_at i k 3 + 81 * turned_at i k 4

-- 0 where there is no such wall or no such link
unfoldable pub wall_turn : ℕ → ℕ → ℕ
wall_turn i k = choose (ltb i walls) (choose (ltb k 10) (wall_link i k) 0) 0

-- number i of a table: 0 where there is none
unfoldable pub entry_at : List ℕ → ℕ → ℕ
entry_at table i = get_or table i 0

-- the rule: state x is a wall whose five digits are those of wall i, but for the named one
pub record Rule (i k x : ℕ) : Type 0 where
  pub least : first_wall ≤ x
  pub most : x < first_wall + walls
  pub digit : (p : ℕ) → p < 5 → digit_at (x - first_wall) p ≡ turned_at i k p
