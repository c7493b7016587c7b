-- Cells: two of them compared, and how many lie up to a ceiling, as an i64 holds that. Assumes nothing.
use mathlib.Core.Path.{◌≡◌, refl, sym, ap}
use mathlib.Core.Bool.{Bool, true, false, ◌&&◌, true≢false}
use Prim.Native.Nat.{◌+◌, ◌≤◌, ◌<◌, ◌^◌}
use native.Mathlib.Omega.{arith}
use lib.Dec.{T, lit<}
use lib.IntN.{ℤ, pos, negsuc, neg_ℤ, nat_abs, ◌-ℤ◌}
use lib.Ieee.{Float}
use lib.Signed.{mag, lt_z, non_neg}
use mir.Syntax.{w32, w64}
use mir.Val.{SFits, Fits, to_z, of_z}
use mir.ValLaws.{to_z-of_z}
use borrow.Author.Tests.{eq-eqb, eqb-true}
use Rattle.wholes.specs.Whole.{cell_of}
use Rattle.wholes.proofs.Cells.{cell-reach}
use Rattle.window.proofs.Signs.{mag-add, mag-neg, widens32, wide, wide_is}
use Rattle.window.specs.declared.Pos.{Pos}
use Rattle.currents.specs.Current.{same_number, same_pos}
use Rattle.std.proofs.Common.{int_eq, Decides}
use Rattle.std.proofs.lemmas.Bool.Decides.{same_from_decides, Decides-int_eq}
use Rattle.base.specs.Choose.{choose}

-- ---- two cells are the same where each of their numbers is
same_decides : (a b : ℤ) → Decides (same_number a b) (a ≡ b)
same_decides (pos a) (pos b) = (λ e. ap pos (eqb-true a b e), λ w. eq-eqb a b cc)
same_decides (pos a) (negsuc b) = (λ e. absurd (true≢false (sym e)), λ w. cc)
same_decides (negsuc a) (pos b) = (λ e. absurd (true≢false (sym e)), λ w. cc)
same_decides (negsuc a) (negsuc b) = (λ e. ap negsuc (eqb-true a b e), λ w. eq-eqb a b cc)

same_int : (a b : ℤ) → same_number a b ≡ int_eq a b
same_int a b = same_from_decides _ _ (same_decides a b) (Decides-int_eq a b)

pub same_cell : (p q : Pos) → same_pos p q ≡ (int_eq p.x q.x && (int_eq p.y q.y && int_eq p.z q.z))
unfolding same_pos choose
same_cell p q = rw (same_int p.x q.x, same_int p.y q.y, same_int p.z q.z) (go (int_eq p.x q.x) (int_eq p.y q.y) (int_eq p.z q.z))
  where
    go : (a b c : Bool) → choose a (choose b c false) false ≡ (a && (b && c))
    go true true c = refl
    go true false c = refl
    go false b c = refl

-- ---- a number read out of a struct is the number
pub read : (z : ℤ) → mag z < 2 ^ 31 → to_z w32 (of_z w32 z) ≡ z
read z f = to_z-of_z w32 z record { sfits = f }

-- ---- 0 - t - f, for cells t and f
pub record Counted (t f : ℤ) : Type 0 where
  pub value : to_z w64 (of_z w64 (to_z w64 (of_z w64 (pos 0 -ℤ wide w32 t)) -ℤ wide w32 f)) ≡ pos 0 -ℤ t -ℤ f
  pub small : mag (pos 0 -ℤ t -ℤ f) < 2 ^ 31

pub counted : (t f : ℤ) → mag t ≤ 67108864 → mag f ≤ 67108864 → Counted t f
counted t f ht hf =
    let m : mag (pos 0 -ℤ t) < 1 + (67108865 + 1) = mag-add (pos 0) (neg_ℤ t) 1 (67108865 + 1) (lit< tt) (mag-neg t 67108865 (omega arith)) in
    let n : mag (pos 0 -ℤ t -ℤ f) < 1 + (67108865 + 1) + (67108865 + 1) = mag-add (pos 0 -ℤ t) (neg_ℤ f) (1 + (67108865 + 1)) (67108865 + 1) m (mag-neg f 67108865 (omega arith)) in
    let t32 : SFits w32 t = record { sfits = omega arith } in
    let f32 : SFits w32 f = record { sfits = omega arith } in
    let c : SFits w64 (pos 0 -ℤ t) = record { sfits = omega arith } in
    let d : SFits w64 (pos 0 -ℤ t -ℤ f) = record { sfits = omega arith } in
    record {
      value = rw (wide_is w32 t t32 (widens32 t32), wide_is w32 f f32 (widens32 f32), to_z-of_z w64 (pos 0 -ℤ t) c, to_z-of_z w64 (pos 0 -ℤ t -ℤ f) d);
      small = omega arith;
    }

pub some_fits : (z : ℤ) → lt_z z (pos 0) ≡ false → mag z < 2 ^ 31 → T (non_neg z) × Fits w32 (nat_abs z)
some_fits (pos k) h m = (tt, record { fits = omega arith })
some_fits (negsuc k) h m = absurd (true≢false h)

pub reached : (x : Float) (r : ℤ) → r ≡ cell_of x → mag r ≤ 67108864
reached x r e = rw e (cell-reach x)
