-- A record that fits does so after every move, whatever its numbers: a sum stays finite, not negative and at most 2 ^ 30. Assumes nothing.
use mathlib.Core.Bool.{Bool, true, false, not, ◌&&◌, cond}
use mathlib.Core.Path.{◌≡◌, refl}
use Prim.Native.Nat.{ℕ, zero, suc, ◌+◌, ◌-◌, ◌*◌, ◌/◌, ◌%◌, ◌^◌, ◌≤◌, ◌<◌, compare}
use native.Mathlib.Nat.{zero-lt-suc, zero-mul}
use native.Mathlib.Omega.{arith}
use lib.IntN.{ℤ, pos}
use lib.Dec.{T, ltb, eqb, ltb→lt, nltb→le, eqb→eq}
use lib.Ieee.{Float, nan, inf, fin, Format, binary64, prec, emax, low, up, down, of_bits, size, nearest, odd, units, round, sum, add, neg, lt, le, eq}
use lib.Ieee.Fits.{down_pos, and_i, and_l, and_r}
use lib.Ieee.Order.{le_of_values}
use Rattle.base.specs.Choose.{choose}
use Rattle.floats.specs.Numbers.{zero64, size_of, least_of}
use Rattle.boxes.specs.Limits.{two_to}
use Rattle.tables.specs.declared.LiquidKind.{LiquidKind}
use Rattle.fall_rule.specs.declared.Fall.{Fall}
use Rattle.flow.specs.Liquid.{is_water}
use Rattle.fall_rule.specs.Rule.{moved, went_down, drop_of, deeper, landing, fall_of, fall_by, fall_after, fresh, is_fallen, fall_fits}

-- no NaN, and with the sign clear
abbrev clear : Float → Bool
clear nan = false
clear (inf s) = not s
clear (fin s m e) = not s

-- ---- a number of a clear sign fits once it is capped

zero-fits : T (is_fallen zero64)
unfolding is_fallen choose size_of le lt eq of_bits
zero-fits = tt

cap-fits : T (is_fallen (two_to 30))
unfolding is_fallen choose size_of le lt eq of_bits
cap-fits = tt

below-cap : (m : ℕ) (e : ℤ) → m * up e * 1 ≤ 2 ^ 30 * down e → T (is_fallen (fin false m e))
unfolding is_fallen choose size_of of_bits
below-cap m e h =
    and_i (le (fin false m e) (two_to 30)) (le zero64 (fin false m e))
    (le_of_values (fin false m e) (two_to 30) (m * up e) (down e) (2 ^ 30) 1 (down_pos e) (zero-lt-suc 0) (refl, refl) (refl, refl) h)
    (le_of_values (fin false 0 (pos 0)) (fin false m e) 0 1 (m * up e) (down e) (zero-lt-suc 0) (down_pos e) (refl, refl) (refl, refl) (omega arith))

capped_fits : (x : Float) → T (clear x) → T (is_fallen (least_of x (two_to 30)))
unfolding choose lt
capped_fits nan c = absurd c
capped_fits (inf true) c = absurd c
capped_fits (inf false) c = cap-fits
capped_fits (fin true m e) c = absurd c
capped_fits (fin false m e) c = go (ltb (1 * 2 ^ 30 * down e) (m * up e * 1)) (nltb→le (1 * 2 ^ 30 * down e) (m * up e * 1))
  where
    go : (b : Bool) → (T (not b) → m * up e * 1 ≤ 1 * 2 ^ 30 * down e) → T (is_fallen (choose b (two_to 30) (fin false m e)))
    go true h = cap-fits
    go false h = below-cap m e (h tt)

-- ---- a drop, and a sum with it, have a clear sign

odd-clear : (d q k l : ℕ) → T (clear (odd d false q k l))
unfolding odd
odd-clear d zero k l = tt
odd-clear d (suc q) k l = tt

units-clear : (f : Format) (q k : ℕ) → T (clear (units f false q k))
unfolding units
units-clear f q k = go (ltb (q * 2 ^ k) (2 ^ (low f + suc (emax f))))
  where
    go : (b : Bool) → T (clear (cond b (odd (suc (prec f)) false q k (low f)) (inf false)))
    go true = odd-clear (suc (prec f)) q k (low f)
    go false = tt

round-clear : (f : Format) (num den : ℕ) → T (clear (round f false num den))
unfolding round
round-clear f num den =
    let n = num * 2 ^ low f in
    let k = size (n / den) - prec f in
    let u = den * 2 ^ k in
    units-clear f (nearest (n / u) (compare (n % u * 2) u)) k

none_below : (a n : ℕ) → n ≡ 0 → T (ltb a n) → ⊥
none_below a n z t = let h : a < n = ltb→lt a n t in omega arith

drop-clear : (m : Float) → T (went_down m) → T (clear (drop_of m))
unfolding neg lt of_bits
drop-clear nan t = absurd t
drop-clear (inf true) t = tt
drop-clear (inf false) t = absurd t
drop-clear (fin true m e) t = tt
drop-clear (fin false m e) t = absurd (none_below (m * up e * 1) (0 * down e) (zero-mul (down e)) t)

-- a sum that fits and has its sign set is -0
nothing : (m : ℕ) (e : ℤ) → T (is_fallen (fin true m e)) → m * up e ≡ 0
unfolding is_fallen choose size_of le lt eq of_bits
nothing m e t =
    let a : ℕ = 0 * down e in
    let b : ℕ = m * up e * 1 in
    let z : a ≡ b = eqb→eq a b (and_l (eqb a b) (eqb a 0) (and_r (le (fin false m e) (two_to 30)) (eqb a b && eqb a 0) t)) in
    omega (arith, zero-mul (down e))

sum-clear : (f : Format) (a b c : ℕ) → a ≡ 0 → T (clear (sum f true a false b c))
unfolding sum
sum-clear f a b c z = go (ltb a b) (ltb b a) (none_below b a z)
  where
    go : (p q : Bool) → (T q → ⊥) → T (clear (cond p (round f false (b - a) c) (round f q (a - b) c)))
    go true q h = round-clear f (b - a) c
    go false true h = absurd (h tt)
    go false false h = round-clear f (a - b) c

add-clear : (s d : Float) → T (is_fallen s) → T (clear d) → T (clear (add binary64 s d))
unfolding add
add-clear nan d t c = unfold is_fallen choose in absurd t
add-clear (inf s) d t c = unfold is_fallen choose in absurd t
add-clear (fin s m e) nan t c = absurd c
add-clear (fin s m e) (inf r) t c = c
add-clear (fin s m e) (fin true n k) t c = absurd c
add-clear (fin false m e) (fin false n k) t c = unfold sum in round-clear binary64 (m * up e * down k + n * up k * down e) (down e * down k)
add-clear (fin true m e) (fin false n k) t c =
    sum-clear binary64 (m * up e * down k) (n * up k * down e) (down e * down k) (rw (nothing m e t, zero-mul))

deeper-fits : (s m : Float) → T (is_fallen s) → T (went_down m) → T (is_fallen (deeper s (drop_of m)))
deeper-fits s m t d = capped_fits (add binary64 s (drop_of m)) (add-clear s (drop_of m) t (drop-clear m d))

-- ---- the record

pub fresh-fits : T (fall_fits fresh)
unfolding fall_fits
fresh-fits = and_i (is_fallen zero64) (is_fallen zero64) zero-fits zero-fits

of-both : (sum landed : Float) → T (is_fallen sum) → T (is_fallen landed) → T (fall_fits (fall_of sum landed))
unfolding fall_fits
of-both sum landed s l = and_i (is_fallen sum) (is_fallen landed) s l

pub fits_after : (fall : Fall) (old new : Float) (grounded : Bool) (liquid : LiquidKind) → T (fall_fits fall)
    → T (fall_fits (fall_after fall old new grounded liquid))
unfolding fall_fits fall_by landing choose
fits_after fall old new grounded liquid t = go (is_water liquid) grounded (went_down move) (deeper-fits fall.sum move s)
  where
    move : Float
    move = moved old new

    s : T (is_fallen fall.sum)
    s = and_l (is_fallen fall.sum) (is_fallen fall.landed) t

    l : T (is_fallen fall.landed)
    l = and_r (is_fallen fall.sum) (is_fallen fall.landed) t

    go : (w g d : Bool) → (T d → T (is_fallen (deeper fall.sum (drop_of move))))
        → T
        (fall_fits
        (choose w (fall_of zero64 fall.landed)
        (choose g (fall_of zero64 (choose d (deeper fall.sum (drop_of move)) fall.sum))
        (choose d (fall_of (deeper fall.sum (drop_of move)) fall.landed)
        (fall_of zero64 fall.landed)))))
    go true g d h = of-both zero64 fall.landed zero-fits l
    go false true true h = of-both zero64 (deeper fall.sum (drop_of move)) zero-fits (h tt)
    go false true false h = of-both zero64 fall.sum zero-fits s
    go false false true h = of-both (deeper fall.sum (drop_of move)) fall.landed (h tt) l
    go false false false h = of-both zero64 fall.landed zero-fits l
