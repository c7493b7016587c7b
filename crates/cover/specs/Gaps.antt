-- How the program looks for a gap. A gap has a lowest leftmost point: its u is 0 or the right edge of a rectangle, and its
-- v is 0 or the upper edge of a rectangle over that u. So these points are all that need to be tried.
-- No contract of a public function cites this file; `covers-search` of proofs/Covered.antt shows that it answers what
-- `covers_face` says.
use Rattle.std.specs.Prelude.{Bool, not, ◌&&◌, ◌||◌, List, ℕ, Float}
use Rattle.std.specs.Float.Ieee.{lt}
use Rattle.base.specs.Every.{any}
use Rattle.cover.specs.declared.Side.{Side}
use Rattle.cover.specs.Cover.{box_count, zero32, one32, on_face, u0, u1, v0, v1, has_nan}

-- u is within the width of the rectangle of box k: its left edge counted in, its right edge not
unfoldable pub spans_line : List Float → Side → Float → ℕ → Bool
spans_line l f u k = on_face l f k && not (lt u (u0 l f k)) && lt u (u1 l f k)

-- the same, and v is within its height
unfoldable pub has_point : List Float → Side → Float → Float → ℕ → Bool
has_point l f u v k = spans_line l f u k && not (lt v (v0 l k)) && lt v (v1 l k)

-- an edge strictly inside the unit square
unfoldable pub is_inner : Float → Bool
is_inner e = lt zero32 e && lt e one32

-- no rectangle has the point
unfoldable pub has_gap_at : List Float → Side → Float → Float → Bool
has_gap_at l f u v = not (any (box_count l) (has_point l f u v))

-- the test of a gap at box k's edge, where that is inside and the box counts
unfoldable pub gap_past : (ℕ → Bool) → (ℕ → Float) → (Float → Bool) → ℕ → Bool
gap_past counts edge gap k = is_inner (edge k) && counts k && gap (edge k)

-- the test of a gap at 0 or at one of the edges
unfoldable pub any_gap : (ℕ → Bool) → (ℕ → Float) → (Float → Bool) → ℕ → Bool
any_gap counts edge gap n = gap zero32 || any n (gap_past counts edge gap)

-- on the upright line at u
unfoldable pub gap_on_line : List Float → Side → Float → Bool
gap_on_line l f u = any_gap (spans_line l f u) (v1 l) (has_gap_at l f u) (box_count l)

unfoldable pub gap_on_face : List Float → Side → Bool
gap_on_face l f = any_gap (on_face l f) (u1 l f) (gap_on_line l f) (box_count l)

-- what the program answers
unfoldable pub covers_by_search : List Float → Side → Bool
covers_by_search l f = not (any (box_count l) (has_nan l f)) && not (gap_on_face l f)
