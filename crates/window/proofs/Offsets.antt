-- The program's offsets come to the look-up as it is defined. Assumes nothing.
use mathlib.Core.Path.{◌≡◌, refl, sym, ◌∙◌, subst}
use mathlib.Core.Bool.{Bool, true, false, not, ◌&&◌, false≢true}
use mathlib.Core.List.{List}
use Prim.Native.Nat.{ℕ, ◌+◌, ◌*◌, ◌≤◌, ◌<◌, ◌^◌}
use native.Mathlib.Nat.{mul_comm, mul_assoc, mul-le-mul}
use native.Mathlib.Omega.{arith}
use lib.Arith.{digits_lt}
use lib.Dec.{T, leb, ltb, eqb}
use lib.IntN.{ℤ, pos, negsuc, nat_abs, ◌+ℤ◌, ◌-ℤ◌, +ℤ_idl, +ℤ_comm, -ℤ-+ℤ_cancel}
use lib.ListN.{length, get_or}
use lib.Signed.{lt_z, le_z, non_neg}
use mir.Syntax.{w64}
use mir.Val.{Fits}
use borrow.Author.Tests.{ltb-true}
use Rattle.base.proofs.Every.{both}
use Rattle.base.specs.Choose.{choose}
use Rattle.base.specs.Ask.{refused, found}
use Rattle.window.specs.declared.Pos.{Pos}
use Rattle.window.specs.declared.Sizes.{Sizes}
use Rattle.window.specs.declared.Window.{Window}
use Rattle.window.specs.Window.{within, is_void, index_at, cell_count, column_count, index_of, column_index_of}
use Rattle.window.specs.Look.{none, some, look_at}
use Rattle.window.specs.Offsets.{is_ahead, in_column, look_down, look_within}
use Rattle.window.proofs.Order.{lt-moved, le-moved}

-- on one axis, by the difference to the origin
pub within_by : (o : ℤ) (n : ℕ) (c : ℤ) → within o n c ≡ is_ahead (c -ℤ o) n
within_by o n c = λ i. low i && high i
  where
    low : le_z o c ≡ le_z (pos 0) (c -ℤ o)
    low = (λ i. le_z (sym (+ℤ_idl o) i) (sym (-ℤ-+ℤ_cancel c o) i)) ∙ le-moved o (pos 0) (c -ℤ o)

    high : lt_z c (o +ℤ pos n) ≡ lt_z (c -ℤ o) (pos n)
    high = (λ i. lt_z (sym (-ℤ-+ℤ_cancel c o) i) (+ℤ_comm o (pos n) i)) ∙ lt-moved o (c -ℤ o) (pos n)

-- ---- on one axis: the difference to the origin is not below zero and below the size, and tells the coordinate
pub record Ahead (d : ℤ) (n : ℕ) : Type 0 where
  pub size : ℕ
  pub is : d ≡ pos size
  pub small : size < n

pub ahead_of : (d : ℤ) (n : ℕ) → is_ahead d n ≡ true → Ahead d n
ahead_of (pos k) n e = record { size = k; is = refl; small = ltb-true k n (both (leb 0 k) (ltb k n) e).two }
ahead_of (negsuc k) n e = absurd (false≢true e)

pub ahead-below : (d : ℤ) (n : ℕ) → is_ahead d n ≡ true → nat_abs d < n
ahead-below d n e = let a = ahead_of d n e in subst (λ (d : ℤ). nat_abs d < n) (sym a.is) a.small

pub ahead-casts : (d : ℤ) (n : ℕ) → is_ahead d n ≡ true → n < 2 ^ 32 → T (non_neg d) × Fits w64 (nat_abs d)
ahead-casts (pos k) n e h = let b = ahead-below (pos k) n e in (tt, record { fits = omega arith })
ahead-casts (negsuc k) n e h = absurd (false≢true e)

pub ahead : (o : ℤ) (n : ℕ) (c : ℤ) → within o n c ≡ true → Ahead (c -ℤ o) n
ahead o n c e = ahead_of (c -ℤ o) n (sym (within_by o n c) ∙ e)

pub below-size : (o : ℤ) (n : ℕ) (c : ℤ) → within o n c ≡ true → nat_abs (c -ℤ o) < n
below-size o n c e = ahead-below (c -ℤ o) n (sym (within_by o n c) ∙ e)

-- ---- places: a place is a number of three digits
pub place-below : (s : Sizes) (x y z : ℕ) → x < s.x → y < s.y → z < s.z → index_at s x y z < cell_count s
place-below s x y z hx hy hz =
    subst (λ (n : ℕ). index_at s x y z < n) (mul_comm (s.y * s.z) s.x ∙ sym (mul_assoc s.x s.y s.z)) (digits_lt (digits_lt hy hz) hx)

-- the words of lower layers stand before those of higher ones
pub place-under : (layer up at y : ℕ) → y < up → y * layer + at ≤ up * layer + at
place-under layer up at y h = let q : y * layer ≤ up * layer = mul-le-mul (omega arith) (omega arith) in omega arith

-- the same places by layers; the words of the columns stand where a layer above the highest would
pub cell-place : (s : Sizes) (x y z : ℕ) → y * column_count s + (z * s.x + x) ≡ index_at s x y z
cell-place s x y z = omega arith

pub column-place : (s : Sizes) (x z : ℕ) → s.y * column_count s + (z * s.x + x) ≡ cell_count s + (z * s.x + x)
column-place s x z = omega arith

-- ---- the look-up, where a, b and c say whether a cell is within on each axis, and t whether its column may have a word; that stands at k, and the
-- cell's at j
looked-in : (words : List ℕ) (a b c t void : Bool) (air i k m j : ℕ) → i ≡ k → m ≡ j
    → choose a (choose c (choose t (choose (ltb i (length words)) (in_column (get_or words i 0) air void (choose b (found (some (get_or words m 0))) (refused 5))) (refused 5)) (refused 5)) (refused 5)) (refused 5)
    ≡ choose (not ((a && c) && (t && ltb k (length words)))) (refused 5)
    (choose (eqb (get_or words k 0) 0) (found none) (choose void (found (some air)) (choose (not b) (refused 5) (found (some (get_or words j 0))))))
unfolding choose
looked-in words false b c t void air i k m j e f = refl
looked-in words true b false t void air i k m j e f = refl
looked-in words true b true false void air i k m j e f = refl
looked-in words true b true true void air i k m j e f = rw (e, f) (column (ltb k (length words)) (eqb (get_or words k 0) 0) void b)
  where
    column : (t u v b : Bool)
        → choose t (choose u (found none) (choose v (found (some air)) (choose b (found (some (get_or words j 0))) (refused 5)))) (refused 5)
        ≡ choose (not t) (refused 5) (choose u (found none) (choose v (found (some air)) (choose (not b) (refused 5) (found (some (get_or words j 0))))))
    column false u v b = refl
    column true true v b = refl
    column true false true b = refl
    column true false false false = refl
    column true false false true = refl

-- the cell at the offsets of p is the look-up at p
pub looked : (words : List ℕ) (w : Window) (p : Pos)
    → look_within words w.sizes w.air (is_void w p) (p.x -ℤ w.origin.x) (p.y -ℤ w.origin.y) (p.z -ℤ w.origin.z) ≡ look_at words w p
unfolding look_within look_down look_at index_of column_index_of
looked words w p =
    let o = w.origin in
    let s = w.sizes in
    rw (within_by o.x s.x p.x, within_by o.y s.y p.y, within_by o.z s.z p.z)
    (looked-in words _ _ _ _ (is_void w p) w.air _ _ _ _ (column-place s _ _) (cell-place s _ _ _))
