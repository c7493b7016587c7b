-- Word 19 of small shapes: the cube covers each face, a slab none, and two boxes that meet in the middle what one of them does not.
-- Assumes nothing.
use mathlib.Core.Bool.{Bool, true, ◌&&◌}
use mathlib.Core.Path.{◌≡◌}
use mathlib.Core.List.{List, [], ◌∷◌}
use Prim.Native.Nat.{ℕ, zero, suc, ◌+◌}
use lib.ListN.{get_or}
use lib.Dec.{T}
use lib.Ieee.{Float, nan, binary32, of_bits, fits, is_nan, lt, eq, le}
use lib.Ieee.Fits.{and_l, and_r}
use Rattle.base.specs.Choose.{choose}
use Rattle.base.specs.Every.{any}
use Rattle.cover.specs.declared.Side.TheVariants.{North, East, South, West}
use Rattle.cover.specs.Cover.{zero32, one32, on_face, u_place, full_faces}
use Rattle.cover.specs.Gaps.{spans_line, has_point, is_inner, has_gap_at, gap_past, any_gap, gap_on_line, gap_on_face, covers_by_search}
use Rattle.cover.proofs.Covered.{covers-search}

-- ---- a list of f32s, tested
unfoldable pub all_fit : List Float → Bool
all_fit [] = true
all_fit (x ∷ l) = fits binary32 x && all_fit l

pub fit_at : (l : List Float) → T (all_fit l) → (i : ℕ) → T (fits binary32 (get_or l i nan))
unfolding all_fit fits
fit_at [] t i = tt
fit_at (x ∷ l) t zero = and_l (fits binary32 x) (all_fit l) t
fit_at (x ∷ l) t (suc i) = fit_at l (and_r (fits binary32 x) (all_fit l) t) i

-- ---- the word by the search, which computes
abbrev searched : List Float → ℕ
searched l = choose (covers_by_search l North) 1 0 + choose (covers_by_search l East) 2 0 + choose (covers_by_search l South) 4 0 + choose (covers_by_search l West) 8 0

pub full-search : (l : List Float) → T (all_fit l) → full_faces l ≡ searched l
unfolding full_faces
full-search l t = rw (covers-search l North (fit_at l t), covers-search l East (fit_at l t), covers-search l South (fit_at l t), covers-search l West (fit_at l t))

-- ---- the shapes
abbrev half : Float
half = of_bits binary32 0x3f000000

-- from the corner (x, 0, 0) to (x', y', 1)
abbrev up_to : Float → Float → Float → List Float → List Float
up_to x x' y' l = x ∷ zero32 ∷ zero32 ∷ x' ∷ y' ∷ one32 ∷ l

pub record Small : Type 0 where
  pub cube : full_faces (up_to zero32 one32 one32 []) ≡ 15
  pub slab : full_faces (up_to zero32 one32 half []) ≡ 0
  pub western-half : full_faces (up_to zero32 half one32 []) ≡ 8
  pub both_halves : full_faces (up_to zero32 half one32 (up_to half one32 one32 [])) ≡ 15
  pub no-box : full_faces [] ≡ 0

pub small : Small
unfolding all_fit fits gap_on_face gap_on_line any_gap has_gap_at gap_past any has_point spans_line is_inner on_face u_place covers_by_search choose lt eq le is_nan of_bits
small = record {
  cube = full-search (up_to zero32 one32 one32 []) tt;
  slab = full-search (up_to zero32 one32 half []) tt;
  western-half = full-search (up_to zero32 half one32 []) tt;
  both_halves = full-search (up_to zero32 half one32 (up_to half one32 one32 [])) tt;
  no-box = full-search [] tt;
}
