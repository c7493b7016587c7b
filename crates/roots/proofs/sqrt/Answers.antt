-- `roots::sqrt` meets its contract: the tests at its head by `Ends.antt`, what the bits come to by `Near.antt`, and that this is `root_of` by `Roots.antt`. Assumes nothing.
use mathlib.Core.Path.{◌≡◌, refl, sym, subst}
use Prim.Native.Nat.{ℕ, suc, ◌*◌, ◌^◌, ◌<◌}
use mathlib.Core.Bool.{true, false, not}
use lib.IntN.{ℤ}
use lib.Dec.{T}
use lib.Ieee.{Float, fin, inf, binary64, fits, eq, lt, of_bits, to_bits, nan_bits, is_nan}
use lib.Ieee.Bits.{of_bits-fits}
use Rattle.roots.specs.Root.{has_root, root_of}
use Rattle.roots.specs.Steps.{RootBits, units_of}
use Rattle.floats.proofs.Answers.{taken, turned-away}
use Rattle.roots.proofs.Ends.{none, at_zero, above, at-infinity, below-zero}
use Rattle.roots.proofs.Shift.{nearest-low, nearest-high, bits-le}
use Rattle.floats.proofs.Value.{written, no_nan}
use Rattle.roots.proofs.Pattern.{pattern}
use Rattle.roots.proofs.Near.{root_is}
use Rattle.roots.proofs.Roots.{root-nearest, root-unique}
use Rattle.roots.proofs.sqrt.Goals as goal
use Rattle.roots.proofs.sqrt.Goals.{Start, Then-x-infinity, else-x-via-then-x+else-x-infinity, else-x-via-else-x}

held : (c : Start) → T (fits binary64 c.args.x)
held c = subst T (sym c.well_formed.0.1) tt

-- the two constants
zero_is : of_bits binary64 0 ≡ none
unfolding of_bits
zero_is = refl

infinity-is : of_bits binary64 (2047 * 2 ^ 52) ≡ inf false
unfolding of_bits
infinity-is = refl

-- x is a number above zero
number : (c : Then-x-infinity) → (m : ℕ) × (e : ℤ) × (c.args.x ≡ fin false (suc m) e)
number c =
    let x = c.args.x in
    above x (subst (λ (z : Float). lt z x ≡ true) zero_is c.if-x.true) (subst (λ (z : Float). lt x z ≡ true) infinity-is c.if-x-infinity.true)

in-range : (x : Float) (m : ℕ) (e : ℤ) → x ≡ fin false (suc m) e → T (fits binary64 x) → (0 < to_bits binary64 x) × (to_bits binary64 x < 2047 * 2 ^ 52)
in-range x m e p h =
    let w = pattern m e (subst (λ (z : Float). T (fits binary64 z)) p h) in
    subst (λ (z : Float). (0 < to_bits binary64 z) × (to_bits binary64 z < 2047 * 2 ^ 52)) (sym p) (w.positive, w.finite)

-- the bits that were worked out are those of the root
is-root : (m : ℕ) (e : ℤ) (r : ℕ) → T (fits binary64 (fin false (suc m) e)) → RootBits (units_of (to_bits binary64 (fin false (suc m) e))) r → of_bits binary64 r ≡ root_of (fin false (suc m) e)
is-root m e r h b =
    let x = fin false (suc m) e in
    let s = b.is in
    let val = written r b.k b.q b.bits (nearest-low b.m b.q s.low s.root) (nearest-high b.m b.q s.high s.root) s.small in
    root-unique x (of_bits binary64 r) (root_of x)
    (root_is m e (units_of (to_bits binary64 x)) (pattern m e h).value b.m b.q b.k s (of_bits binary64 r) (of_bits-fits binary64 r) val) (root-nearest m e h)

answer : (x : Float) (m : ℕ) (e : ℤ) (r : ℕ) → x ≡ fin false (suc m) e → T (fits binary64 x) → RootBits (units_of (to_bits binary64 x)) r → (has_root x ≡ true) × (of_bits binary64 r ≡ root_of x)
unfolding has_root
answer x m e r p h b =
    subst (λ (z : Float). (has_root z ≡ true) × (of_bits binary64 r ≡ root_of z)) (sym p)
    (refl, is-root m e r (subst (λ (z : Float). T (fits binary64 z)) p h) (subst (λ (z : Float). RootBits (units_of (to_bits binary64 z)) r) p b))

pub float_from_bits-infinity : goal.float_from_bits-infinity
unfolding nan_bits
float_from_bits-infinity c = tt

pub float_to_bits-b : goal.float_to_bits-b
unfolding is_nan
float_to_bits-b c = subst (λ (z : Float). T (not (is_nan z))) (sym (number (goal.at.float_to_bits-b c).Then-x-infinity).2) tt

pub root_bits-r-requires : goal.root_bits-r-requires
root_bits-r-requires c = in-range c.args.x (number (goal.at.root_bits-r-requires c).Then-x-infinity).0 (number (goal.at.root_bits-r-requires c).Then-x-infinity).1 (number (goal.at.root_bits-r-requires c).Then-x-infinity).2 (held (goal.at.root_bits-r-requires c).Start)

pub float_from_bits-result : goal.float_from_bits-result
float_from_bits-result c = no_nan c.root_bits-r.result (bits-le _ _ c.root_bits-r.ensures)

pub returns-then-x-infinity : goal.returns-then-x-infinity
returns-then-x-infinity c =
    let a = answer c.args.x (number (goal.at.returns-then-x-infinity c).Then-x-infinity).0 (number (goal.at.returns-then-x-infinity c).Then-x-infinity).1 c.root_bits-r.result (number (goal.at.returns-then-x-infinity c).Then-x-infinity).2 (held (goal.at.returns-then-x-infinity c).Start) c.root_bits-r.ensures in
    taken _ _ _ a.0 a.1

pub returns-then-x-2 : goal.returns-then-x-2
returns-then-x-2 c =
    let x = c.args.x in
    let z = at_zero x (subst (λ (z : Float). eq x z ≡ true) zero_is c.if-x-2.true) in
    taken _ _ _ z.0 z.1

pub returns-else-x-2 : goal.returns-else-x-2
returns-else-x-2 c =
    let x = c.args.x in
    elim c.else-x.branch [
      | else-x-via-then-x+else-x-infinity w ↦ turned-away _ _ (at-infinity x (subst (λ (z : Float). lt z x ≡ true) zero_is w.if-x.true) (subst (λ (z : Float). lt x z ≡ false) infinity-is w.if-x-infinity.false))
      | else-x-via-else-x w ↦ turned-away _ _ (below-zero x (subst (λ (z : Float). eq x z ≡ false) zero_is c.if-x-2.false) (subst (λ (z : Float). lt z x ≡ false) zero_is w.if-x.false))
    ]
