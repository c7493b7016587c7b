-- What the tests at the head of `sqrt` say of x. Assumes nothing.
use mathlib.Core.Path.{◌≡◌, refl, sym, ap, subst, ◌∙◌}
use Prim.Native.Nat.{ℕ, zero, suc, ◌*◌, ◌<◌}
use native.Mathlib.Omega.{arith}
use mathlib.Core.Bool.{Bool, true, false, ◌||◌, beq}
use lib.IntN.{ℤ, pos}
use lib.Dec.{T, eqb, ltb→lt, lt→ltb, eqb→eq}
use lib.Ieee.{Float, nan, inf, fin, up, down, eq, lt, level}
use lib.Ieee.Fits.{up_pos, and_l}
use Rattle.roots.specs.Root.{has_root, root_of}

abbrev pub none : Float
none = fin false 0 (pos 0)

no : false ≡ true → ⊥
no h = subst T (sym h) tt

no' : true ≡ false → ⊥
no' h = subst T h tt

yes : {b : Bool} → b ≡ true → T b
yes h = subst T (sym h) tt

no-level : (m : ℕ) (e : ℤ) (s : Bool) → level s (suc m * up e * 1) false (0 * 1 * down e) ≡ true → ⊥
no-level m e s h = at (up e) (down e) (up_pos e) (eqb→eq (suc m * up e * 1) (0 * 1 * down e) (and_l (eqb (suc m * up e * 1) (0 * 1 * down e)) (beq s false || eqb (suc m * up e * 1) 0) (yes h)))
  where
    at : (u d : ℕ) → 0 < u → suc m * u * 1 ≡ 0 * 1 * d → ⊥
    at u d p q = omega arith

-- a zero is its own root
pub at_zero : (x : Float) → eq x none ≡ true → (has_root x ≡ true) × (x ≡ root_of x)
unfolding eq has_root root_of
at_zero nan h = absurd (no h)
at_zero (inf s) h = absurd (no h)
at_zero (fin s zero e) h = (refl, refl)
at_zero (fin true (suc m) e) h = absurd (no-level m e true h)
at_zero (fin false (suc m) e) h = absurd (no-level m e false h)

-- above zero and below the infinity
pub above : (x : Float) → lt none x ≡ true → lt x (inf false) ≡ true → (m : ℕ) × (e : ℤ) × (x ≡ fin false (suc m) e)
unfolding lt
above nan h k = absurd (no h)
above (inf true) h k = absurd (no h)
above (inf false) h k = absurd (no k)
above (fin true m e) h k = absurd (no h)
above (fin false zero e) h k = absurd (at (up e) (down e) (ltb→lt (0 * 1 * down e) (0 * up e * 1) (yes h)))
  where
    at : (u d : ℕ) → 0 * 1 * d < 0 * u * 1 → ⊥
    at u d q = omega arith
above (fin false (suc m) e) h k = (m, e, refl)

-- the infinity
pub at-infinity : (x : Float) → lt none x ≡ true → lt x (inf false) ≡ false → has_root x ≡ false
unfolding lt has_root
at-infinity nan h k = absurd (no h)
at-infinity (inf s) h k = refl
at-infinity (fin s m e) h k = absurd (no' k)

zeros-level : (s : Bool) (a b : ℕ) → a ≡ 0 → b ≡ 0 → level s a false b ≡ true
zeros-level s a b p q = ap (λ (y : ℕ). level s y false b) p ∙ ap (λ (y : ℕ). level s 0 false y) q ∙ at s
  where
    at : (s : Bool) → level s 0 false 0 ≡ true
    at true = refl
    at false = refl

-- neither a zero nor above zero: a NaN, or below zero
pub below-zero : (x : Float) → eq x none ≡ false → lt none x ≡ false → has_root x ≡ false
unfolding eq lt has_root
below-zero nan h k = refl
below-zero (inf s) h k = refl
below-zero (fin s zero e) h k = absurd (no' (sym (zeros-level s (0 * up e * 1) (0 * 1 * down e) (at (up e)) (at' (down e))) ∙ h))
  where
    at : (u : ℕ) → 0 * u * 1 ≡ 0
    at u = omega arith

    at' : (d : ℕ) → 0 * 1 * d ≡ 0
    at' d = omega arith
below-zero (fin true (suc m) e) h k = refl
below-zero (fin false (suc m) e) h k = absurd (subst T k (lt→ltb (0 * 1 * down e) (suc m * up e * 1) (at (up e) (down e) (up_pos e))))
  where
    at : (u d : ℕ) → 0 < u → 0 * 1 * d < suc m * u * 1
    at u d p = omega arith
