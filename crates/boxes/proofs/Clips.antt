-- Clipping with all tests of a box made side by side, and an infinite gap where one says that the way is free. Assumes nothing.
use mathlib.Core.Path.{◌≡◌, refl}
use mathlib.Core.Bool.{Bool, true, false, ◌&&◌, ◌||◌, false≢true}
use Prim.Native.Nat.{ℕ, ◌*◌}
use lib.Ieee.{Float, nan, inf, fin, below, lt, up, down}
use borrow.Author.Tests.{ltb-true, le-ltb}
use native.Mathlib.Nat.{le_of_lt}
use Rattle.base.specs.Choose.{choose}
use Rattle.floats.specs.Numbers.{zero64, least_of, greatest_of}
use Rattle.boxes.specs.declared.Sides.{Sides}
use Rattle.boxes.specs.Sides.{apart_on, stop_on, clip_on}

-- ---- order
below_one_way : (s t : Bool) (a b : ℕ) → below s a t b ≡ true → below t b s a ≡ false
below_one_way false false a b h = le-ltb b a (le_of_lt (ltb-true a b h))
below_one_way false true a b h = absurd (false≢true h)
below_one_way true false a b h = refl
below_one_way true true a b h = le-ltb a b (le_of_lt (ltb-true b a h))

one_way : (x y : Float) → lt x y ≡ true → lt y x ≡ false
unfolding lt
one_way nan y h = absurd (false≢true h)
one_way (inf s) nan h = absurd (false≢true h)
one_way (inf false) (inf t) h = absurd (false≢true h)
one_way (inf true) (inf false) h = refl
one_way (inf true) (inf true) h = absurd (false≢true h)
one_way (inf false) (fin t n d) h = absurd (false≢true h)
one_way (inf true) (fin t n d) h = refl
one_way (fin s m e) nan h = absurd (false≢true h)
one_way (fin s m e) (inf false) h = refl
one_way (fin s m e) (inf true) h = absurd (false≢true h)
one_way (fin s m e) (fin t n d) h = below_one_way s t (m * up e * down d) (n * up d * down e) h

-- nothing is above the infinity, nor below the other
none_above : (d : Float) → lt (inf false) d ≡ false
unfolding lt
none_above nan = refl
none_above (inf t) = refl
none_above (fin t n e) = refl

none_below : (d : Float) → lt d (inf true) ≡ false
unfolding lt
none_below nan = refl
none_below (inf false) = refl
none_below (inf true) = refl
none_below (fin t n e) = refl

-- ---- one test after the other is both at once
pub either_way : {A : Type 0} (a b : Bool) (x y : A) → choose a x (choose b x y) ≡ choose (a || b) x y
unfolding choose
either_way true b x y = refl
either_way false b x y = refl

-- ---- p and q say that the mover passes by, l and m that the box is ahead or behind, and g and h how far it is
module _ (d g h : Float) where
  pub clip-ahead : (p q l m : Bool) → lt zero64 d ≡ true
      → least_of d (choose p (inf false) (choose q (inf false) (choose l g (inf false))))
      ≡ choose (p || q) d (choose (lt zero64 d && l) (least_of d g) (choose (lt d zero64 && m) (greatest_of d h) d))
  unfolding choose
  clip-ahead true q l m e = rw (none_above d)
  clip-ahead false true l m e = rw (none_above d)
  clip-ahead false false true m e = rw e
  clip-ahead false false false m e = rw (e, one_way zero64 d e, none_above d)

  pub clip-behind : (p q l m : Bool) → lt zero64 d ≡ false → lt d zero64 ≡ true
      → greatest_of d (choose p (inf true) (choose q (inf true) (choose m h (inf true))))
      ≡ choose (p || q) d (choose (lt zero64 d && l) (least_of d g) (choose (lt d zero64 && m) (greatest_of d h) d))
  unfolding choose
  clip-behind true q l m n e = rw (none_below d)
  clip-behind false true l m n e = rw (none_below d)
  clip-behind false false l true n e = rw (n, e)
  clip-behind false false l false n e = rw (n, e, none_below d)

-- a way that is neither up nor down, a zero or a NaN, stays as it is
pub clip-still : (first second along : Sides) (d : Float) → lt zero64 d ≡ false → lt d zero64 ≡ false → d ≡ clip_on first second along d
unfolding choose
clip-still first second along d n e = go (apart_on first || apart_on second)
  where
    go : (p : Bool) → d ≡ choose p d (stop_on along d)
    go true = refl
    go false = rw (n, e)
