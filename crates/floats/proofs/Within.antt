-- A number is within a limit where it lies between the limit's negation and the limit, and one of the two is finite. Assumes nothing.
use mathlib.Core.Bool.{Bool, true, false, not, ◌&&◌, ◌||◌}
use mathlib.Core.Path.{◌≡◌, refl, sym, ap, ◌∙◌}
use Prim.Native.Nat.{ℕ, ◌+◌, ◌*◌, ◌≤◌}
use native.Mathlib.Omega.{arith}
use lib.Dec.{ltb, eqb}
use lib.Ieee.{Float, nan, inf, fin, up, down, below, level, lt, le, eq, neg}
use borrow.Author.Tests.{ltb-false, eqb-true, eqb-false, eq-eqb, ne_eqb}
use Rattle.base.specs.Choose.{choose}
use Rattle.floats.specs.Numbers.{is_finite, size_of, is_within_limit}

eqb_comm : (a b : ℕ) → eqb a b ≡ eqb b a
eqb_comm a b = go (eqb b a) refl
  where
    go : (t : Bool) → eqb b a ≡ t → eqb a b ≡ t
    go true e = eq-eqb a b (sym (eqb-true b a e))
    go false e = ne_eqb a b (λ (h : a ≡ b). eqb-false b a e (sym h))

-- a number below zero, or zero, is at or below one above it
opposite : (a b : ℕ) → ltb 0 (a + b) || (eqb a b && eqb a 0) ≡ true
opposite a b = go (ltb 0 (a + b)) refl
  where
    go : (t : Bool) → ltb 0 (a + b) ≡ t → t || (eqb a b && eqb a 0) ≡ true
    go true e = refl
    go false e = let h : a + b ≤ 0 = ltb-false 0 (a + b) e in let p : a ≡ b = omega arith in let q : a ≡ 0 = omega arith in rw (eq-eqb a b p, eq-eqb a 0 q)

-- what is level with zero is at or above it
zero-above : (a b : ℕ) → (ltb b a || eqb b a && true) && (eqb a b && eqb a 0) ≡ eqb a b && eqb a 0
zero-above a b = go (eqb a b) refl
  where
    absorb : (p q : Bool) → (p || true) && q ≡ q
    absorb true q = refl
    absorb false q = refl

    none : (p : Bool) → p && false ≡ false
    none true = refl
    none false = refl

    go : (t : Bool) → eqb a b ≡ t → (ltb b a || eqb b a && true) && (t && eqb a 0) ≡ t && eqb a 0
    go true e = rw (eqb_comm b a, e) (absorb (ltb b a) (eqb a 0))
    go false e = none (ltb b a || eqb b a && true)

-- of two numbers below zero, the same
zero-below : (a b : ℕ) → (eqb b a && eqb b 0) && (ltb b a || eqb a b && true) ≡ eqb a b && eqb a 0
zero-below a b = go (eqb a b) refl
  where
    absorb : (u v : Bool) → u ≡ v → (p : Bool) → u && (p || true) ≡ v
    absorb true v q true = q
    absorb true v q false = q
    absorb false v q p = q

    go : (t : Bool) → eqb a b ≡ t → (eqb b a && eqb b 0) && (ltb b a || t && true) ≡ t && eqb a 0
    go true e = rw (eqb_comm b a, e) (absorb (eqb b 0) (eqb a 0) (ap (λ (n : ℕ). eqb n 0) (sym (eqb-true a b e))) (ltb b a))
    go false e = rw (eqb_comm b a, e)

and_one : (a : Bool) → a && true ≡ a
and_one true = refl
and_one false = refl

-- by the sizes a and b of the number and of the limit
between : (s t : Bool) (a b : ℕ) → (below (not t) b s a || level (not t) b s a) && (below s a t b || level s a t b) ≡ below false a t b || level false a t b
between false false a b = rw (opposite b a)
between true false a b = rw (opposite a b, eqb_comm b a) (and_one (ltb a b || eqb a b && true))
between false true a b = zero-above a b
between true true a b = zero-below a b

pub within_by : (x limit : Float) → (le (neg limit) x && le x limit) && (lt limit (inf false) || is_finite x) ≡ is_within_limit x limit
unfolding choose size_of le lt eq neg
within_by nan nan = refl
within_by nan (inf t) = refl
within_by nan (fin t n g) = refl
within_by (inf false) nan = refl
within_by (inf true) nan = refl
within_by (inf false) (inf false) = refl
within_by (inf false) (inf true) = refl
within_by (inf true) (inf false) = refl
within_by (inf true) (inf true) = refl
within_by (inf false) (fin t n g) = refl
within_by (inf true) (fin t n g) = refl
within_by (fin s m e) nan = refl
within_by (fin s m e) (inf false) = refl
within_by (fin s m e) (inf true) = refl
within_by (fin s m e) (fin t n g) = and_one _ ∙ between s t (m * up e * down g) (n * up g * down e)
