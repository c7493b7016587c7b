-- The f32 of a pattern: what a test of the pattern says of a NaN. Assumes nothing.
use Rattle.std.proofs.Common.{◌≡◌, ℕ, ◌%◌, ◌<◌, ◌≤◌, true, false, not, T, sym, refl, ap, ◌∙◌, subst, le-ltb, lt-ltb}
use mathlib.Core.Bool.{false≢true}
use lib.Ieee.{Float, nan, inf, fin, binary32, of_bits, is_nan, nan_bits, div}
use lib.Ieee.Bits.{nan_bits_is, nan_bits_above}

pub no-nan-bits : (n : ℕ) → n % 0x80000000 ≤ 0x7f800000 → T (not (nan_bits binary32 n))
no-nan-bits n h = subst T (sym (ap not (nan_bits_above binary32 n ∙ le-ltb 0x7f800000 (n % 0x80000000) h))) tt

is-nan : (x : Float) → is_nan x ≡ true → x ≡ nan
unfolding is_nan
is-nan nan h = refl
is-nan (inf s) h = absurd (false≢true h)
is-nan (fin s m e) h = absurd (false≢true h)

zero_by_zero : div binary32 (of_bits binary32 0) (of_bits binary32 0) ≡ nan
unfolding div of_bits
zero_by_zero = refl

-- 0.0 / 0.0 is the NaN
pub nan-bits : (n : ℕ) → 0x7f800000 < n % 0x80000000 → div binary32 (of_bits binary32 0) (of_bits binary32 0) ≡ of_bits binary32 n
nan-bits n h =
    zero_by_zero
    ∙ sym (is-nan (of_bits binary32 n) (sym (nan_bits_is binary32 n) ∙ nan_bits_above binary32 n ∙ lt-ltb 0x7f800000 (n % 0x80000000) h))
