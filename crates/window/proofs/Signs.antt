-- Signed numbers: the sums and differences that the look-up works out fit an i64. Assumes nothing.
use mathlib.Core.Path.{◌≡◌}
use mathlib.Core.Bool.{Bool, true, false, cond}
use Prim.Native.Nat.{ℕ, zero, suc, ◌+◌, ◌-◌, ◌≤◌, ◌<◌, ◌^◌}
use native.Mathlib.Omega.{arith}
use lib.Dec.{ltb}
use lib.IntN.{ℤ, pos, negsuc, neg_ℤ, sub_ℕ, ◌+ℤ◌, ◌-ℤ◌}
use lib.Signed.{mag}
use mir.Syntax.{Width, w8, w32, w64}
use mir.Val.{SFits, to_z, of_z}
use mir.ValLaws.{to_z-of_z}

either : (t : Bool) (u v k : ℕ) → u < k → v < k → mag (cond t (negsuc u) (pos v)) < k
either true u v k hu hv = hu
either false u v k hu hv = hv

mag-subℕ : (a b k : ℕ) → a < k → b ≤ k → mag (sub_ℕ a b) < k
mag-subℕ a b k ha hb = either (ltb a b) (b - suc a) (a - b) k (omega arith) (omega arith)

pub mag-add : (x y : ℤ) (j k : ℕ) → mag x < j → mag y < k → mag (x +ℤ y) < j + k
mag-add (pos a) (pos b) j k hx hy = omega arith
mag-add (pos a) (negsuc b) j k hx hy = mag-subℕ a (suc b) (j + k) (omega arith) (omega arith)
mag-add (negsuc a) (pos b) j k hx hy = mag-subℕ b (suc a) (j + k) (omega arith) (omega arith)
mag-add (negsuc a) (negsuc b) j k hx hy = omega arith

pub mag-neg : (y : ℤ) (k : ℕ) → mag y < k → mag (neg_ℤ y) < k + 1
mag-neg (pos zero) k h = omega arith
mag-neg (pos (suc b)) k h = omega arith
mag-neg (negsuc b) k h = omega arith

-- a number of fewer bits
pub widens32 : {z : ℤ} → SFits w32 z → SFits w64 z
widens32 f = let h = f.sfits in record { sfits = omega arith }

widens8 : {z : ℤ} → SFits w8 z → SFits w64 z
widens8 f = let h = f.sfits in record { sfits = omega arith }

-- a signed number of w bits as an i64 holds it
abbrev pub wide : Width → ℤ → ℤ
wide w z = to_z w64 (of_z w64 (to_z w (of_z w z)))

pub wide_is : (w : Width) (z : ℤ) → SFits w z → SFits w64 z → wide w z ≡ z
wide_is w z f g = rw (to_z-of_z w z f, to_z-of_z w64 z g)

pub cast32 : (z : ℤ) → SFits w32 z → SFits w64 (to_z w32 (of_z w32 z))
cast32 z f = rw (to_z-of_z w32 z f) (widens32 f)

pub cast8 : (z : ℤ) → SFits w8 z → SFits w64 (to_z w8 (of_z w8 z))
cast8 z f = rw (to_z-of_z w8 z f) (widens8 f)

-- what `offset` works out in i64: each part fits, and the whole is x + d - o
pub record Worked (x d o : ℤ) : Type 0 where
  pub sum : SFits w64 (wide w32 x +ℤ wide w8 d)
  pub difference : SFits w64 (to_z w64 (of_z w64 (wide w32 x +ℤ wide w8 d)) -ℤ wide w32 o)
  pub value : to_z w64 (of_z w64 (to_z w64 (of_z w64 (wide w32 x +ℤ wide w8 d)) -ℤ wide w32 o)) ≡ x +ℤ d -ℤ o
  pub whole : SFits w64 (x +ℤ d -ℤ o)

pub worked : (x d o : ℤ) → SFits w32 x → SFits w8 d → SFits w32 o → Worked x d o
worked x d o f g h =
    let n : mag (x +ℤ d) < 2 ^ 31 + 2 ^ 7 = mag-add x d (2 ^ 31) (2 ^ 7) f.sfits g.sfits in
    let m : mag (x +ℤ d -ℤ o) < 2 ^ 31 + 2 ^ 7 + (2 ^ 31 + 1) =
    mag-add (x +ℤ d) (neg_ℤ o) (2 ^ 31 + 2 ^ 7) (2 ^ 31 + 1) n (mag-neg o (2 ^ 31) h.sfits) in
    let sums : SFits w64 (x +ℤ d) = record { sfits = omega arith } in
    let whole : SFits w64 (x +ℤ d -ℤ o) = record { sfits = omega arith } in
    let wx = wide_is w32 x f (widens32 f) in
    let wd = wide_is w8 d g (widens8 g) in
    let wo = wide_is w32 o h (widens32 h) in
    let s = to_z-of_z w64 (x +ℤ d) sums in
    record {
      sum = rw (wx, wd) sums;
      difference = rw (wx, wd, s, wo) whole;
      value = rw (wx, wd, s, wo, to_z-of_z w64 (x +ℤ d -ℤ o) whole);
      whole = whole;
    }

-- a sum of the two in i64
pub record Summed (y d : ℤ) : Type 0 where
  pub sum : SFits w64 (wide w32 y +ℤ wide w8 d)
  pub value : to_z w64 (of_z w64 (wide w32 y +ℤ wide w8 d)) ≡ y +ℤ d

pub summed : (y d : ℤ) → SFits w32 y → SFits w8 d → Summed y d
summed y d f g =
    let n : mag (y +ℤ d) < 2 ^ 31 + 2 ^ 7 = mag-add y d (2 ^ 31) (2 ^ 7) f.sfits g.sfits in
    let whole : SFits w64 (y +ℤ d) = record { sfits = omega arith } in
    let wy = wide_is w32 y f (widens32 f) in
    let wd = wide_is w8 d g (widens8 g) in
    record { sum = rw (wy, wd) whole; value = rw (wy, wd, to_z-of_z w64 (y +ℤ d) whole) }
