-- Of two numbers, one at or below the other, neither is a NaN: an f32 of them casts to f64. Assumes nothing.
use Rattle.std.proofs.Common.{◌≡◌, true, not, ◌&&◌, T}
use mathlib.Core.Bool.{false≢true}
use lib.Ieee.{Float, nan, inf, fin, binary32, binary64, fits, is_nan, le}
use lib.Ieee.Fits.{and_i, fits_widens}

lower : (x y : Float) → le x y ≡ true → T (not (is_nan x))
unfolding le is_nan
lower nan y h = absurd (false≢true h)
lower (inf s) y h = tt
lower (fin s m e) y h = tt

upper : (x y : Float) → le x y ≡ true → T (not (is_nan y))
unfolding le is_nan
upper nan nan h = absurd (false≢true h)
upper (inf s) nan h = absurd (false≢true h)
upper (fin s m e) nan h = absurd (false≢true h)
upper x (inf s) h = tt
upper x (fin s m e) h = tt

pub lower-casts : (x y : Float) → T (fits binary32 x) → le x y ≡ true → T (fits binary64 x && not (is_nan x))
lower-casts x y f h = and_i (fits binary64 x) (not (is_nan x)) (fits_widens x f) (lower x y h)

pub upper-casts : (x y : Float) → T (fits binary32 y) → le x y ≡ true → T (fits binary64 y && not (is_nan y))
upper-casts x y f h = and_i (fits binary64 y) (not (is_nan y)) (fits_widens y f) (upper x y h)
