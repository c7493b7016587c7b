-- The boxes of a state. Each number that document 02 names is a whole number of sixteenths, so boxes are said in sixteenths and are exact as f32.
-- "Boxes stand post first, then north, east, south, west": part 0 is the post, and part p the arm of side p - 1.
use Rattle.std.specs.Prelude.{ℕ, zero, suc, ◌+◌, ◌-◌, Bool, not, List, [], ◌∷◌, map, pos, ◌==◌, from_bits, nat_le, Float}
use Rattle.std.specs.Float.{binary32}
use Rattle.std.specs.Float.Ieee.{of_int, div}
use Rattle.base.specs.Choose.{choose}
use Rattle.base.specs.Loop.{appended}
use Rattle.palette_states.specs.States.{states, kind, side_digit, has_post}

-- ---- edges by kind, in sixteenths: the lower one, the upper one being as far from the other end of the cell

-- a pane's number, a wall's, or a fence's
unfoldable pub by_kind : ℕ → ℕ → ℕ → ℕ → ℕ
by_kind k pane wall fence = choose (k == 3) pane (choose (k == 4) wall fence)

-- "the cube fills its cell"; a fence's post is "over 0.375 to 0.625", a pane's over "0.4375 to 0.5625", a wall's "over 0.25 to 0.75"
unfoldable pub post_edge : ℕ → ℕ
post_edge k = choose (k == 0) 0 (by_kind k 7 4 6)

-- a fence's or pane's arm is "of that thickness"; a wall's is "over 0.3125 to 0.6875"
unfoldable pub arm_edge : ℕ → ℕ
arm_edge k = by_kind k 7 5 6

-- how far an arm reaches from the cell's edge: "from post to cell edge", and a wall's "from the middle to the edge"
unfoldable pub arm_length : ℕ → ℕ
arm_length k = by_kind k 7 8 6

-- a fence and a wall are "all 1.5 high", a pane "1 high"
unfoldable pub height : ℕ → ℕ
height k = choose (k == 0) 16 (choose (k == 3) 16 24)

-- ---- boxes, x0 y0 z0 x1 y1 z1, in sixteenths: north is towards z 0, east towards x 1

abbrev pub post_box : ℕ → ℕ → List ℕ
post_box a h = a ∷ 0 ∷ a ∷ (16 - a) ∷ h ∷ (16 - a) ∷ []

abbrev pub north_arm : ℕ → ℕ → ℕ → List ℕ
north_arm a n h = a ∷ 0 ∷ 0 ∷ (16 - a) ∷ h ∷ n ∷ []

abbrev pub east_arm : ℕ → ℕ → ℕ → List ℕ
east_arm a n h = (16 - n) ∷ 0 ∷ a ∷ 16 ∷ h ∷ (16 - a) ∷ []

abbrev pub south_arm : ℕ → ℕ → ℕ → List ℕ
south_arm a n h = a ∷ 0 ∷ (16 - n) ∷ (16 - a) ∷ h ∷ 16 ∷ []

abbrev pub west_arm : ℕ → ℕ → ℕ → List ℕ
west_arm a n h = 0 ∷ 0 ∷ a ∷ n ∷ h ∷ (16 - a) ∷ []

unfoldable pub box_of_part : ℕ → ℕ → List ℕ
box_of_part k part =
    choose (part == 0) (post_box (post_edge k) (height k))
    (choose (part == 1) (north_arm (arm_edge k) (arm_length k) (height k))
    (choose (part == 2) (east_arm (arm_edge k) (arm_length k) (height k))
    (choose (part == 3) (south_arm (arm_edge k) (arm_length k) (height k))
    (west_arm (arm_edge k) (arm_length k) (height k)))))

-- ---- the boxes of a state

-- n / 16
abbrev pub sixteenths : ℕ → Float
sixteenths n = div binary32 (of_int binary32 (pos n)) (from_bits binary32 0x41800000)

unfoldable pub has_part : ℕ → ℕ → Bool
has_part s part = choose (part == 0) (has_post s) (not (side_digit s (part - 1) == 0))

unfoldable pub part_numbers : ℕ → ℕ → List Float
part_numbers s part = choose (has_part s part) (map sixteenths (box_of_part (kind s) part)) []

unfoldable pub boxes_of_state : ℕ → List Float
boxes_of_state s = appended (part_numbers s) 5 0

-- ---- their number, word 8, and the number of those before, word 7

unfoldable pub one : ℕ → ℕ → ℕ
one s part = choose (has_part s part) 1 0

unfoldable pub box_count_of : ℕ → ℕ
box_count_of s = one s 0 + one s 1 + one s 2 + one s 3 + one s 4

unfoldable pub first_box : ℕ → ℕ
first_box zero = 0
first_box (suc s) = first_box s + box_count_of s

-- 0 where there is no such state
unfoldable pub first_box_of : ℕ → ℕ
first_box_of s = choose (nat_le states s) 0 (first_box s)

-- ---- the table: the boxes of each state behind those of the one before, 658 in all

abbrev pub shape_numbers : ℕ
shape_numbers = 3948

unfoldable pub palette_shapes : List Float
palette_shapes = appended boxes_of_state states 0
