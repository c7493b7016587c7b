-- Signed numbers: what `span` and `on` work out in i64 fits, and is what their definitions say. Assumes nothing.
use mathlib.Core.Path.{◌≡◌, refl, ap, ◌∙◌}
use mathlib.Core.Bool.{Bool, true, false, cond, true≢false}
use Prim.Native.Nat.{ℕ, suc, ◌+◌, ◌-◌, ◌<◌, ◌^◌, min}
use native.Mathlib.Omega.{arith}
use lib.Dec.{T, ltb, lit<}
use lib.IntN.{ℤ, pos, negsuc, neg_ℤ, nat_abs, ◌+ℤ◌, ◌-ℤ◌}
use lib.Ieee.{Float}
use lib.Signed.{mag, lt_z, le_z, non_neg}
use mir.Syntax.{w32, w64}
use mir.Val.{SFits, Fits, to_z, of_z}
use mir.ValLaws.{to_z-of_z, to_z_pos}
use borrow.Author.Tests.{ltb-true, ltb-false, leb-true}
use Rattle.wholes.specs.Whole.{cell_of}
use Rattle.wholes.proofs.Cells.{cell-reach}
use Rattle.window.proofs.Signs.{mag-add, mag-neg, widens32, wide, wide_is}
use Rattle.ranges.specs.declared.Axis.{Axis}
use Rattle.ranges.specs.Ranges.{or_zero, span_of}

-- ---- b - a + 1
pub spanned : (a b : ℤ) → SFits w32 a → SFits w32 b → to_z w64 (of_z w64 (to_z w64 (of_z w64 (wide w32 b -ℤ wide w32 a)) +ℤ pos 1)) ≡ b -ℤ a +ℤ pos 1
spanned a b f g =
    let m : mag (b -ℤ a) < 2 ^ 31 + (2 ^ 31 + 1) = mag-add b (neg_ℤ a) (2 ^ 31) (2 ^ 31 + 1) g.sfits (mag-neg a (2 ^ 31) f.sfits) in
    let n : mag (b -ℤ a +ℤ pos 1) < 2 ^ 31 + (2 ^ 31 + 1) + 2 = mag-add (b -ℤ a) (pos 1) (2 ^ 31 + (2 ^ 31 + 1)) 2 m (lit< tt) in
    rw (wide_is w32 a f (widens32 f), wide_is w32 b g (widens32 g), to_z-of_z w64 (b -ℤ a) record { sfits = omega arith })
    (to_z-of_z w64 (b -ℤ a +ℤ pos 1) record { sfits = omega arith })

-- the three answers of `span`, for z = b - a + 1
pub none_left : (z : ℤ) → lt_z z (pos 0) ≡ true → 0 ≡ min (or_zero z) 4294967295
none_left (pos k) h = absurd (let l = ltb-true k 0 h in omega arith)
none_left (negsuc k) h = refl

pub counts : (z : ℤ) → lt_z z (pos 0) ≡ false → lt_z z (pos 4294967295) ≡ true → T (non_neg z) × Fits w32 (nat_abs z)
counts (pos k) h l = let g = ltb-true k 4294967295 l in (tt, record { fits = omega arith })
counts (negsuc k) h l = absurd (true≢false h)

pub counted : (z : ℤ) → lt_z z (pos 0) ≡ false → lt_z z (pos 4294967295) ≡ true → nat_abs z ≡ min (or_zero z) 4294967295
counted (pos k) h l = let g = ltb-true k 4294967295 l in omega arith
counted (negsuc k) h l = absurd (true≢false h)

pub counted-most : (z : ℤ) → lt_z z (pos 4294967295) ≡ false → 4294967295 ≡ min (or_zero z) 4294967295
counted-most (pos k) l = let g = ltb-false k 4294967295 l in omega arith
counted-most (negsuc k) l = absurd (true≢false l)

-- ---- a + n
pub summed : (a : ℤ) (n : ℕ) → SFits w32 a → Fits w32 n → to_z w64 (of_z w64 (wide w32 a +ℤ to_z w64 n)) ≡ a +ℤ pos n
summed a n f g =
    let l : n < 2 ^ 32 = g.fits in
    let m : mag (a +ℤ pos n) < 2 ^ 31 + 2 ^ 32 = mag-add a (pos n) (2 ^ 31) (2 ^ 32) f.sfits l in
    rw (wide_is w32 a f (widens32 f), to_z_pos w64 n (omega arith))
    (to_z-of_z w64 (a +ℤ pos n) record { sfits = omega arith })

-- a sum below the reach fits an i32: it is not above 2 ^ 26, and not below a
pub sum_fits : (a : ℤ) (n : ℕ) → SFits w32 a → le_z (a +ℤ pos n) (pos 67108864) ≡ true → SFits w32 (a +ℤ pos n)
sum_fits (pos a) n f h = let l = leb-true (a + n) 67108864 h in record { sfits = omega arith }
sum_fits (negsuc a) n f h = go (ltb n (suc a)) refl h
  where
    go : (t : Bool) → ltb n (suc a) ≡ t → le_z (cond t (negsuc (suc a - suc n)) (pos (n - suc a))) (pos 67108864) ≡ true → SFits w32 (cond t (negsuc (suc a - suc n)) (pos (n - suc a)))
    go true e h = let s = f.sfits in record { sfits = omega arith }
    go false e h = let l = leb-true (n - suc a) 67108864 h in record { sfits = omega arith }

-- ---- cells of coordinates, as an i32 holds them
cell-fits : (x : Float) → SFits w32 (cell_of x)
cell-fits x = let h = cell-reach x in record { sfits = omega arith }

pub cell-read : (x : Float) (r : ℤ) → r ≡ cell_of x → to_z w32 (of_z w32 r) ≡ cell_of x
cell-read x r e = rw (e, to_z-of_z w32 (cell_of x) (cell-fits x))

below-fits : (x : Float) → SFits w32 (cell_of x -ℤ pos 1)
below-fits x = let h = mag-add (cell_of x) (negsuc 0) 67108865 1 (reached x) (lit< tt) in record { sfits = omega arith }
  where
    reached : (x : Float) → mag (cell_of x) < 67108865
    reached x = let h = cell-reach x in omega arith

pub below-sum : (x : Float) (r : ℤ) → r ≡ cell_of x → SFits w32 (to_z w32 (of_z w32 r) -ℤ pos 1)
below-sum x r e = rw (cell-read x r e) (below-fits x)

pub below-read : (x : Float) (r : ℤ) → r ≡ cell_of x → to_z w32 (of_z w32 (to_z w32 (of_z w32 r) -ℤ pos 1)) ≡ cell_of x -ℤ pos 1
below-read x r e = rw (cell-read x r e, to_z-of_z w32 (cell_of x -ℤ pos 1) (below-fits x))

-- ---- an axis from what the calls answered
pub axis : (f g : ℤ) (n : ℕ) (a b p q : ℤ) → f ≡ g → n ≡ span_of a b → a ≡ p → b ≡ q → ◌≡◌ {A = Axis} record { first = f; count = n } record { first = g; count = span_of p q }
axis f g n a b p q e s u v = λ i. record { first = e i; count = (s ∙ ap (λ (z : ℤ). span_of z b) u ∙ ap (λ (z : ℤ). span_of p z) v) i }
