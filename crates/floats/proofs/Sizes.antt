-- The ways out of `magnitude` and `is_finite`, on plain values. Assumes nothing.
use mathlib.Core.Path.{◌≡◌, refl, sym, ap}
use Prim.Native.Nat.{ℕ, zero, suc, ◌*◌, ◌<◌}
use mathlib.Core.Bool.{true, false, true≢false, false≢true}
use lib.IntN.{ℤ}
use lib.Dec.{T}
use lib.Ieee.{Float, nan, inf, fin, binary64, up, down, neg, eq, lt, fits}
use lib.Ieee.Fits.{up_pos, down_pos}
use native.Mathlib.Nat.{zero-lt-suc, mul-pos}
use native.Mathlib.Omega.{arith}
use Rattle.floats.specs.Numbers.{is_finite, size_of}
use Rattle.base.proofs.Values.{zero_exp}
use Rattle.floats.proofs.Zeros.{zero_f, is_zero, not-zero, below-zero, not-below-zero}

pub size_below : (x : Float) → lt x zero_f ≡ true → neg x ≡ size_of x
unfolding neg size_of lt
size_below nan h = refl
size_below (inf true) h = refl
size_below (inf false) h = absurd (false≢true h)
size_below (fin true m e) h = refl
size_below (fin false m e) h = absurd (false≢true (below-zero (fin false m e) false (m * up e) (down e) (refl, refl) h))

pub size-zero : (x : Float) → T (fits binary64 x) → eq x zero_f ≡ true → zero_f ≡ size_of x
unfolding size_of eq
size-zero nan t h = absurd (false≢true h)
size-zero (inf s) t h = absurd (false≢true h)
size-zero (fin s zero e) t h = ap (λ (z : ℤ). fin false zero z) (sym (zero_exp binary64 s e t))
size-zero (fin s (suc m) e) t h = absurd (some (suc m * up e) (mul-pos (zero-lt-suc m) (up_pos e)) (is_zero (fin s (suc m) e) s (suc m * up e) (down e) (refl, refl) h))
  where
    some : (a : ℕ) → 0 < a → a ≡ 0 → ⊥
    some a h z = omega arith

pub size_above : (x : Float) → lt x zero_f ≡ false → eq x zero_f ≡ false → x ≡ size_of x
unfolding size_of lt
size_above nan h k = refl
size_above (inf true) h k = absurd (true≢false h)
size_above (inf false) h k = refl
size_above (fin false m e) h k = refl
size_above (fin true m e) h k =
    absurd (true≢false (not-below-zero (fin true m e) true (m * up e) (down e) (refl, refl) h (not-zero (fin true m e) true (m * up e) (down e) (down_pos e) (refl, refl) k)))

pub finite-under : (x : Float) → lt x (inf false) ≡ true → lt (inf true) x ≡ is_finite x
unfolding lt
finite-under nan h = refl
finite-under (inf true) h = refl
finite-under (inf false) h = absurd (false≢true h)
finite-under (fin s m e) h = refl

pub finite-over : (x : Float) → lt x (inf false) ≡ false → false ≡ is_finite x
unfolding lt
finite-over nan h = refl
finite-over (inf true) h = refl
finite-over (inf false) h = refl
finite-over (fin s m e) h = absurd (true≢false h)
