-- `cells_before` is the exact value of an f32, clamped to 0..1, in units of 2 ^ -149, so a comparison of two f32s there is one of whole numbers.
-- Assumes nothing.
use mathlib.Core.Bool.{Bool, true, false, false≢true}
use mathlib.Core.Path.{◌≡◌, refl, sym, ap, ◌∙◌, subst}
use Prim.Native.Nat.{ℕ, zero, suc, ◌*◌, ◌/◌, ◌^◌, ◌<◌, ◌≤◌, min}
use native.Mathlib.Nat.{not-suc-le-zero, lt_irrefl, le_of_mul-le-mul_right, mul-le-mul_right, mul_comm, one-mul, mul-one, zero-mul, mul_assoc, mul-div_cancel}
use native.Mathlib.Omega.{arith}
use lib.IntN.{ℤ, pos}
use lib.Dec.{T, ltb}
use lib.Pow.{pow_pos}
use lib.Ieee.{Float, nan, inf, fin, binary32, of_bits, up, down, lt, fits}
use lib.Ieee.Exact.{HasValue}
use lib.Ieee.Fits.{down_pos}
use borrow.Author.Tests.{lt-ltb, le-ltb, ltb-true, ltb-false}
use Rattle.base.proofs.Values.{fitting, zero_exp, divides, lt-common}
use Rattle.base.specs.Choose.{choose}
use Rattle.base.proofs.Every.{both}
use Rattle.cover.specs.Cover.{unit_cells, cells_before, zero32, one32}
use Rattle.cover.specs.Gaps.{is_inner}

pub unit-pos : 0 < unit_cells
unfolding unit_cells
unit-pos = pow_pos 149

-- the unit is a whole number of 1 / down e
record Split (e : ℤ) : Type 0 where
  times : ℕ
  whole : times * down e ≡ unit_cells

split-deep : (e : ℤ) → down e ≤ 2 ^ 149 → Split e
unfolding unit_cells
split-deep e h = let d = divides e 149 h in record { times = 2 ^ d.rest; whole = d.whole }

split : (s : Bool) (m : ℕ) (e : ℤ) → T (fits binary32 (fin s m e)) → Split e
split s zero e t = subst Split (sym (zero_exp binary32 s e t)) (split-deep (pos 0) (pow_pos 149))
split s (suc m) e t = split-deep e (fitting binary32 s m e t).deep

exact : (a q d w : ℕ) → 0 < d → q * d ≡ w → a * w ≡ a * w / d * d
exact a q d w h e =
    let z : a * w ≡ a * q * d = ap (λ (x : ℕ). a * x) (sym e) ∙ sym (mul_assoc a q d) in
    z ∙ ap (λ (x : ℕ). x * d) (sym (mul-div_cancel (a * q) h) ∙ ap (λ (x : ℕ). x / d) (sym z))

value : (s : Bool) (m : ℕ) (e : ℤ) → T (fits binary32 (fin s m e)) → HasValue (fin s m e) s (m * up e * unit_cells / down e) unit_cells
value s m e t = let p = split s m e t in (refl, exact (m * up e) p.times (down e) unit_cells (down_pos e) p.whole)

-- ---- a point of 0 up to but not 1, at i
pub record Point (u : Float) (i : ℕ) : Type 0 where
  pub val : HasValue u false i unit_cells
  pub small : i < unit_cells

ltb-min : (a b w : ℕ) → a < w → ltb a b ≡ ltb a (min b w)
ltb-min a b w h = go (ltb a b) refl
  where
    go : (t : Bool) → ltb a b ≡ t → t ≡ ltb a (min b w)
    go true e = let z : a < b = ltb-true a b e in sym (lt-ltb a (min b w) (omega arith))
    go false e = let z : b ≤ a = ltb-false a b e in sym (le-ltb a (min b w) (omega arith))

never : (a : ℕ) → false ≡ ltb a 0
never a = sym (le-ltb a 0 (omega arith))

pub lt-cells : (u x : Float) (i : ℕ) → Point u i → T (fits binary32 x) → lt u x ≡ ltb i (cells_before x)
unfolding lt cells_before choose
lt-cells nan x i p t = absurd p.val
lt-cells (inf s) x i p t = absurd p.val
lt-cells (fin s m e) nan i p t = never i
lt-cells (fin s m e) (inf true) i p t = never i
lt-cells (fin s m e) (inf false) i p t = sym (lt-ltb i unit_cells p.small)
lt-cells (fin s m e) (fin true n d) i p t =
    lt-common (fin s m e) (fin true n d) false i true (n * up d * unit_cells / down d) unit_cells unit-pos p.val (value true n d t) ∙ never i
lt-cells (fin s m e) (fin false n d) i p t =
    lt-common (fin s m e) (fin false n d) false i false (n * up d * unit_cells / down d) unit_cells unit-pos p.val (value false n d t)
    ∙ ltb-min i (n * up d * unit_cells / down d) unit_cells p.small

lt-true : (u x : Float) (i : ℕ) → Point u i → T (fits binary32 x) → lt u x ≡ true → i < cells_before x
lt-true u x i p t h = ltb-true i (cells_before x) (sym (lt-cells u x i p t) ∙ h)

true-lt : (u x : Float) (i : ℕ) → Point u i → T (fits binary32 x) → i < cells_before x → lt u x ≡ true
true-lt u x i p t h = lt-cells u x i p t ∙ lt-ltb i (cells_before x) h

-- 0 is a point
zero_val : HasValue zero32 false 0 unit_cells
unfolding of_bits
zero_val = (refl, zero-mul unit_cells)

pub at_zero : Point zero32 0
at_zero = record { val = zero_val; small = unit-pos }

one-val : (w : ℕ) → HasValue one32 false w w
unfolding of_bits
one-val w = (refl, one-mul w ∙ sym (mul-one w))

inner-zero : (e : Float) → is_inner e ≡ true → lt zero32 e ≡ true
unfolding is_inner
inner-zero e h = (both (lt zero32 e) (lt e one32) h).one

inner-one : (e : Float) → is_inner e ≡ true → lt e one32 ≡ true
unfolding is_inner
inner-one e h = (both (lt zero32 e) (lt e one32) h).two

least-min : (a w : ℕ) → a < w → min a w ≡ a
least-min a w h = omega arith

past : lt (inf false) one32 ≡ true → ⊥
unfolding lt of_bits
past h = false≢true h

point-of : (e : Float) → T (fits binary32 e) → 0 < cells_before e → lt e one32 ≡ true → Point e (cells_before e)
unfolding cells_before choose
point-of nan t p q = absurd (not-suc-le-zero p)
point-of (inf true) t p q = absurd (not-suc-le-zero p)
point-of (inf false) t p q = absurd (past q)
point-of (fin true m d) t p q = absurd (not-suc-le-zero p)
point-of (fin false m d) t p q =
    let a : ℕ = m * up d * unit_cells / down d in
    let v = value false m d t in
    let l : a < unit_cells = ltb-true a unit_cells (sym (lt-common (fin false m d) one32 false a false unit_cells unit_cells unit-pos v (one-val unit_cells)) ∙ q) in
    subst (λ (z : ℕ). Point (fin false m d) z) (sym (least-min a unit_cells l)) record { val = v; small = l }

below-min : (a w : ℕ) → min a w < w → a < w
below-min a w h = omega arith

below_one : (e : Float) → T (fits binary32 e) → 0 < cells_before e → cells_before e < unit_cells → lt e one32 ≡ true
unfolding cells_before choose
below_one nan t p q = absurd (not-suc-le-zero p)
below_one (inf true) t p q = absurd (not-suc-le-zero p)
below_one (inf false) t p q = absurd (lt_irrefl unit_cells q)
below_one (fin true m d) t p q = absurd (not-suc-le-zero p)
below_one (fin false m d) t p q =
    let a : ℕ = m * up d * unit_cells / down d in
    lt-common (fin false m d) one32 false a false unit_cells unit_cells unit-pos (value false m d t) (one-val unit_cells) ∙ lt-ltb a unit_cells (below-min a unit_cells q)

-- an edge strictly inside is a point
pub inner-point : (e : Float) → T (fits binary32 e) → is_inner e ≡ true → Point e (cells_before e)
inner-point e t h = point-of e t (lt-true zero32 e 0 at_zero t (inner-zero e h)) (inner-one e h)

-- and the other way
pub point-inner : (e : Float) → T (fits binary32 e) → 0 < cells_before e → cells_before e < unit_cells → is_inner e ≡ true
unfolding is_inner
point-inner e t p q = rw (true-lt zero32 e 0 at_zero t p) (below_one e t p q)

-- ---- of an f32 from 0 to 1 `cells_before` is the exact value in units of 2 ^ -149: no edge cuts through a cell
within : (a w : ℕ) → a ≤ w → min a w ≡ a
within a w h = omega arith

pub cells-exact : (m : ℕ) (e : ℤ) → T (fits binary32 (fin false m e)) → m * up e ≤ down e → HasValue (fin false m e) false (cells_before (fin false m e)) unit_cells
unfolding cells_before choose
cells-exact m e t h =
    let v = value false m e t in
    let a : ℕ = m * up e * unit_cells / down e in
    subst (λ (z : ℕ). HasValue (fin false m e) false z unit_cells) (sym (within a unit_cells (no_more (m * up e) (down e) unit_cells a (down_pos e) h v.1))) v
  where
    no_more : (x d w a : ℕ) → 0 < d → x ≤ d → x * w ≡ a * d → a ≤ w
    no_more x d w a p h e = le_of_mul-le-mul_right (subst (λ (z : ℕ). z ≤ w * d) e (subst (λ (z : ℕ). x * w ≤ z) (mul_comm d w) (mul-le-mul_right w h))) p
