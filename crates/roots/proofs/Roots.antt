-- The square root that `root_of` computes is the nearest (`root-nearest`), there is no other (`root-unique`), and no tie (`no_tie`). Assumes nothing.
use mathlib.Core.Path.{◌≡◌, refl, sym, ap, subst, ◌∙◌}
use mathlib.Core.Logic.{◌⊎◌, inl, inr}
use Prim.Native.Nat.{ℕ, zero, suc, ◌+◌, ◌-◌, ◌*◌, ◌/◌, ◌%◌, ◌^◌, ◌≤◌, ◌<◌}
use native.Mathlib.Nat.{mul-one, mul_assoc, pow-succ', le_of_eq, le_of_lt, lt_of_lt_of_le, lt_irrefl, eq-or-lt_of_le, lt_of_not-le, mul-le-mul_left}
use native.Mathlib.Decide.{dec_le}
use native.Mathlib.Omega.{arith}
use mathlib.Core.Bool.{Bool, true, false, not}
use lib.IntN.{ℤ, pos, negsuc}
use lib.Dec.{T, leb, ltb, leb→le, nleb→lt, ltb→lt, nltb→le, lit<, lit≤}
use lib.Pow.{pow-add, pow_pos, pow_mono, pow-lt, shl_lt}
use lib.Ieee.{Float, nan, inf, fin, binary64, up, down, round, fits}
use lib.Ieee.Fits.{down_pos, round-fits}
use lib.Ieee.Exact.{HasValue, round_exact}
use lib.Ieee.Positive.{num, den}
use Rattle.base.specs.Choose.{choose}
use Rattle.base.proofs.Values.{value-unique, fitting, Fitting}
use Rattle.roots.specs.Root.{Root, root_from, nearest_from, nearest_root, root_raised, squares_exp, root_of}
use Rattle.roots.specs.Steps.{Nearest, Scaled}
use Rattle.roots.proofs.Shift.{nearest-high}
use Rattle.roots.proofs.Near.{root_is}
use Rattle.roots.proofs.Unique.{unique}

-- ---- the whole root, bit by bit
record WholeRoot (n s : ℕ) : Type 0 where
  low : s * s ≤ n
  high : n < (s + 1) * (s + 1)

by_bits : (k n r : ℕ) → r * r ≤ n → n < (r + 2 ^ k) * (r + 2 ^ k) → WholeRoot n (root_from k n r)
unfolding root_from choose
by_bits zero n r lo hi = record { low = lo; high = hi }
by_bits (suc k) n r lo hi =
    go (leb ((r + 2 ^ k) * (r + 2 ^ k)) n) (leb→le ((r + 2 ^ k) * (r + 2 ^ k)) n) (nleb→lt ((r + 2 ^ k) * (r + 2 ^ k)) n)
    (λ h. by_bits k n (r + 2 ^ k) h (subst (λ (x : ℕ). n < x * x) (twice r (2 ^ k) (2 ^ suc k) (pow-succ' 2 k)) hi))
    (λ h. by_bits k n r lo h)
  where
    twice : (r p q : ℕ) → q ≡ 2 * p → r + q ≡ r + p + p
    twice r p q e = omega arith

    go : (t : Bool) → (T t → (r + 2 ^ k) * (r + 2 ^ k) ≤ n) → (T (not t) → n < (r + 2 ^ k) * (r + 2 ^ k))
        → ((r + 2 ^ k) * (r + 2 ^ k) ≤ n → WholeRoot n (root_from k n (r + 2 ^ k))) → (n < (r + 2 ^ k) * (r + 2 ^ k) → WholeRoot n (root_from k n r))
        → WholeRoot n (root_from k n (choose t (r + 2 ^ k) r))
    go true y z f g = f (y tt)
    go false y z f g = g (z tt)

-- ---- the nearest whole number
near-root : (n r : ℕ) → 0 < n → WholeRoot n r → Nearest n (nearest_from r n)
unfolding nearest_from choose
near-root n r p w = go (leb n (r * r + r)) (leb→le n (r * r + r)) (nleb→lt n (r * r + r))
  where
    some : (r : ℕ) → r * r ≤ n → n ≤ r * r + r → r * r < n + r
    some zero l h = omega arith
    some (suc r) l h = omega arith

    go : (t : Bool) → (T t → n ≤ r * r + r) → (T (not t) → r * r + r < n) → Nearest n (choose t r (r + 1))
    go true y z = record { above = y tt; below = some r w.low (y tt) }
    go false y z = record { above = let h = w.high in omega arith; below = let h = z tt in omega arith }

-- n has 105 or 106 digits
nearest-is : (n : ℕ) → 2 ^ 104 ≤ n → n < 2 ^ 106 → Nearest n (nearest_root n)
nearest-is n lo hi = near-root n (root_from 53 n 0) (lt_of_lt_of_le (lit< tt) lo) (by_bits 53 n 0 (omega arith) (lt_of_lt_of_le hi (lit≤ tt)))

-- ---- raised by fours: v is the nearest root of U units, rounded from q * 2 ^ k of them
record Raised (U : ℕ) (v : Float) : Type 0 where
  M : ℕ
  q : ℕ
  k : ℕ
  is : Scaled U M q k
  value : v ≡ round binary64 false (q * 2 ^ k) (2 ^ 1074)

raised-now : (U n k : ℕ) → U * 2 ^ 1074 ≡ n * (2 ^ k * 2 ^ k) → 2 ^ 104 ≤ n → n < 2 ^ 106 → k < 2000 → Raised U (round binary64 false (nearest_root n * 2 ^ k) (2 ^ 1074))
raised-now U n k e lo hi s = record { M = n; q = nearest_root n; k = k; is = record { same = e; root = nearest-is n lo hi; low = lo; high = hi; small = s }; value = refl }

-- a four less in the power is a four more in n
four : (n k : ℕ) → 0 < k → n * (2 ^ k * 2 ^ k) ≡ 4 * n * (2 ^ (k - 1) * 2 ^ (k - 1))
four n zero h = elim h [ ]
four n (suc k) h = ap (λ (x : ℕ). n * (x * x)) (pow-succ' 2 k) ∙ at n (2 ^ k) ∙ ap (λ (x : ℕ). 4 * n * (2 ^ x * 2 ^ x)) (one k)
  where
    at : (n p : ℕ) → n * (2 * p * (2 * p)) ≡ 4 * n * (p * p)
    at n p = omega arith

    one : (k : ℕ) → k ≡ suc k - 1
    one k = omega arith

raised : (U f n k : ℕ) → U * 2 ^ 1074 ≡ n * (2 ^ k * 2 ^ k) → 2 ^ 104 ≤ n * 4 ^ f → n < 2 ^ 106 → f ≤ k → k < 2000 → Raised U (root_raised f n k)
unfolding root_raised choose
raised U zero n k e lo hi g s = raised-now U n k e (subst (λ (x : ℕ). 2 ^ 104 ≤ x) (mul-one n) lo) hi s
raised U (suc f) n k e lo hi g s =
    go (ltb n (2 ^ 104)) (ltb→lt n (2 ^ 104)) (nltb→le n (2 ^ 104))
    (λ h.
    raised U f (4 * n) (k - 1) (e ∙ four n k (omega arith))
    (subst (λ (x : ℕ). 2 ^ 104 ≤ x) (ap (λ (x : ℕ). n * x) (pow-succ' 4 f) ∙ again n (4 ^ f)) lo)
    (lt_of_lt_of_le (small n (2 ^ 104) h) (lit≤ tt)) (omega arith) (omega arith))
  where
    again : (n p : ℕ) → n * (4 * p) ≡ 4 * n * p
    again n p = omega arith

    small : (n D : ℕ) → n < D → 4 * n < 4 * D
    small n D l = omega arith

    go : (t : Bool) → (T t → n < 2 ^ 104) → (T (not t) → 2 ^ 104 ≤ n) → (n < 2 ^ 104 → Raised U (root_raised f (4 * n) (k - 1)))
        → Raised U (choose t (root_raised f (4 * n) (k - 1)) (round binary64 false (nearest_root n * 2 ^ k) (2 ^ 1074)))
    go true y z r = r (y tt)
    go false y z r = raised-now U n k e (z tt) hi s

-- ---- x in units: U of them, and n * 4 ^ k squares
record InUnits (m : ℕ) (e : ℤ) : Type 0 where
  U : ℕ
  units : suc m * up e * 2 ^ 1074 ≡ U * down e
  squares : U * 2 ^ 1074 ≡ suc m * 2 ^ squares_exp e
  least : 1074 ≤ squares_exp e
  most : squares_exp e < 4000

in-units : (m : ℕ) (e : ℤ) → Fitting binary64 (suc m) e → InUnits m e
in-units m (pos k) F = record {
  U = suc m * 2 ^ (k + 1074);
  units = mul_assoc (suc m) (2 ^ k) (2 ^ 1074) ∙ ap (λ (x : ℕ). suc m * x) (sym (pow-add 2 k 1074)) ∙ sym (mul-one (suc m * 2 ^ (k + 1074)));
  squares = mul_assoc (suc m) (2 ^ (k + 1074)) (2 ^ 1074) ∙ ap (λ (x : ℕ). suc m * x) (sym (pow-add 2 (k + 1074) 1074) ∙ ap (λ (x : ℕ). 2 ^ x) (at k));
  least = omega arith;
  most = let s : k < 1024 = below k (bound (suc m) (2 ^ k) (suc m * 2 ^ k) (2 ^ 1024) (omega arith) (le_of_eq refl) (subst (λ (x : ℕ). suc m * 2 ^ k < x) (mul-one (2 ^ 1024)) F.high)) in omega arith;
}
  where
    at : (k : ℕ) → k + 1074 + 1074 ≡ 2148 + k
    at k = omega arith

    bound : (m p x D : ℕ) → 0 < m → m * p ≤ x → x < D → p < D
    bound zero p x D h l g = elim h [ ]
    bound (suc m) p x D h l g = omega arith

    below : (k : ℕ) → 2 ^ k < 2 ^ 1024 → k < 1024
    below k h = lt_of_not-le (λ (g : 1024 ≤ k). lt_irrefl (2 ^ k) (lt_of_lt_of_le h (pow_mono g)))
in-units m (negsuc k) F = record {
  U = suc m * 2 ^ (1073 - k);
  units = ap (λ (x : ℕ). x * 2 ^ 1074) (mul-one (suc m)) ∙ ap (λ (x : ℕ). suc m * x) (ap (λ (x : ℕ). 2 ^ x) (split k deep) ∙ pow-add 2 (1073 - k) (suc k)) ∙ sym (mul_assoc (suc m) (2 ^ (1073 - k)) (2 ^ suc k));
  squares = mul_assoc (suc m) (2 ^ (1073 - k)) (2 ^ 1074) ∙ ap (λ (x : ℕ). suc m * x) (sym (pow-add 2 (1073 - k) 1074) ∙ ap (λ (x : ℕ). 2 ^ x) (at k deep));
  least = let d = deep in omega arith;
  most = omega arith;
}
  where
    deep : k < 1074
    deep = lt_of_not-le (λ (g : 1074 ≤ k). lt_irrefl (2 ^ 1074) (lt_of_lt_of_le (pow-lt (up_one k g)) F.deep))
      where
        up_one : (k : ℕ) → 1074 ≤ k → 1074 < suc k
        up_one k g = omega arith

    split : (k : ℕ) → k < 1074 → 1074 ≡ 1073 - k + suc k
    split k h = omega arith

    at : (k : ℕ) → k < 1074 → 1073 - k + 1074 ≡ 2147 - k
    at k h = omega arith

-- the exponent halved
halved : (m j : ℕ) → suc m * 2 ^ j ≡ suc m * 2 ^ (j % 2) * (2 ^ (j / 2) * 2 ^ (j / 2))
halved m j =
    ap (λ (x : ℕ). suc m * 2 ^ x) (at j)
    ∙ ap (λ (x : ℕ). suc m * x) (pow-add 2 (j % 2) (j / 2 + j / 2) ∙ ap (λ (x : ℕ). 2 ^ (j % 2) * x) (pow-add 2 (j / 2) (j / 2)))
    ∙ sym (mul_assoc (suc m) (2 ^ (j % 2)) (2 ^ (j / 2) * 2 ^ (j / 2)))
  where
    at : (j : ℕ) → j ≡ j % 2 + (j / 2 + j / 2)
    at j = omega arith

one-or-two : (j : ℕ) → (0 < 2 ^ (j % 2)) × (2 ^ (j % 2) ≤ 2)
one-or-two j = (pow_pos (j % 2), pow_mono (at j))
  where
    at : (j : ℕ) → j % 2 ≤ 1
    at j = omega arith

root-raised : (m : ℕ) (e : ℤ) (F : Fitting binary64 (suc m) e) → Raised (in-units m e F).U (root_of (fin false (suc m) e))
unfolding root_of
root-raised m e F =
    let u = in-units m e F in
    let j = squares_exp e in
    let t = one-or-two j in
    raised u.U 52 (suc m * 2 ^ (j % 2)) (j / 2) (u.squares ∙ halved m j)
    (enough (suc m) (2 ^ (j % 2)) (4 ^ 52) (omega arith) t.0)
    (below (suc m) (2 ^ (j % 2)) (2 ^ 53) (2 ^ 106) F.small t.1 (lit≤ tt))
    (let l = u.least in omega arith) (let l = u.most in omega arith)
  where
    enough : (m p D : ℕ) → 0 < m → 0 < p → D ≤ m * p * D
    enough zero p D h l = elim h [ ]
    enough (suc m) zero D h l = elim l [ ]
    enough (suc m) (suc p) D h l = omega arith

    -- D stands for 2 ^ 53, and E for 2 ^ 106
    below : (m p D E : ℕ) → m < D → p ≤ 2 → 2 * D ≤ E → m * p < E
    below m p D E h l g = let x : m * p ≤ m * 2 = mul-le-mul_left m l in omega arith

-- ---- the rounded value is exact
exactly : (U M q k : ℕ) → Scaled U M q k → HasValue (round binary64 false (q * 2 ^ k) (2 ^ 1074)) false (q * 2 ^ k) (2 ^ 1074)
exactly U M q k B = go (eq-or-lt_of_le (nearest-high M q B.high B.root))
  where
    under : (q k : ℕ) → q < 2 ^ 53 → k ≤ 2000 → q * 2 ^ k < 2 ^ (1074 + 1024)
    under q k h s = let l : 53 + k ≤ 1074 + 1024 = omega arith in lt_of_lt_of_le (shl_lt 53 k h) (pow_mono l)

    double : (p : ℕ) → 2 ^ 53 * p ≡ 2 ^ 52 * (2 * p)
    double p = omega arith

    go : (q ≡ 2 ^ 53) ⊎ (q < 2 ^ 53) → HasValue (round binary64 false (q * 2 ^ k) (2 ^ 1074)) false (q * 2 ^ k) (2 ^ 1074)
    go (inl z) =
        round_exact binary64 false (q * 2 ^ k) (2 ^ 1074) (2 ^ 52) (suc k) (pow_pos 1074) (lit< tt) (under (2 ^ 52) (suc k) (lit< tt) B.small)
        (ap (λ (x : ℕ). x * 2 ^ k * 2 ^ 1074) z ∙ ap (λ (x : ℕ). x * 2 ^ 1074) (double (2 ^ k) ∙ ap (λ (x : ℕ). 2 ^ 52 * x) (sym (pow-succ' 2 k))))
    go (inr l) = round_exact binary64 false (q * 2 ^ k) (2 ^ 1074) q k (pow_pos 1074) l (under q k l (le_of_lt B.small)) refl

root-fits : (m : ℕ) (e : ℤ) → T (fits binary64 (fin false (suc m) e)) → T (fits binary64 (root_of (fin false (suc m) e)))
root-fits m e t =
    let r = root-raised m e (fitting binary64 false m e t) in
    subst (λ (v : Float). T (fits binary64 v)) (sym r.value) (round-fits binary64 false (r.q * 2 ^ r.k) (2 ^ 1074))

pub root-nearest : (m : ℕ) (e : ℤ) → T (fits binary64 (fin false (suc m) e)) → Root (fin false (suc m) e) (root_of (fin false (suc m) e))
root-nearest m e t =
    let F = fitting binary64 false m e t in
    let u = in-units m e F in
    let r = root-raised m e F in
    root_is m e u.U u.units r.M r.q r.k r.is (root_of (fin false (suc m) e)) (root-fits m e t)
    (subst (λ (v : Float). HasValue v false (r.q * 2 ^ r.k) (2 ^ 1074)) (sym r.value) (exactly u.U r.M r.q r.k r.is))

-- ---- one answer
pub root-unique : (x r s : Float) → Root x r → Root x s → r ≡ s
root-unique x nan s R S = absurd R.is
root-unique x (inf b) s R S = absurd R.is
root-unique x (fin true n d) s R S = absurd R.is
root-unique x (fin false n d) nan R S = absurd S.is
root-unique x (fin false n d) (inf b) R S = absurd S.is
root-unique x (fin false n d) (fin true k c) R S = absurd S.is
root-unique x (fin false n d) (fin false k c) R S =
    value-unique binary64 (fin false n d) (fin false k c) false (n * up d) (down d) (down_pos d) R.held S.held (refl, refl) (refl, same)
  where
    between : (a b : ℕ) → (a < b → ⊥) → (b < a → ⊥) → b ≡ a
    between a b h l = omega arith

    same : k * up c * down d ≡ n * up d * down c
    same = between (n * up d * down c) (k * up c * down d) (unique x n k d c R S) (unique x k n c d S R)

-- the half-way point of the root and another f64 is never the exact root
pub no_tie : (x r : Float) (n : ℕ) (d : ℤ) → Root x r → T (fits binary64 (fin false n d)) → (n * up d * den r ≡ num r * down d → ⊥)
    → (n * up d * den r + num r * down d) * (n * up d * den r + num r * down d) * den x ≡ 4 * num x * ((down d * den r) * (down d * den r)) → ⊥
no_tie x r n d R f other tie = go (sides (n * up d * den r) (num r * down d) other)
  where
    sides : (a b : ℕ) → (a ≡ b → ⊥) → (a < b) ⊎ (b < a)
    sides a b h = either (dec_le a b) (dec_le b a)
      where
        either : Dec (a ≤ b) → Dec (b ≤ a) → (a < b) ⊎ (b < a)
        either (no f) _ = inr (omega arith)
        either (yes p) (no g) = inl (omega arith)
        either (yes p) (yes q) = absurd (h (omega arith))

    less-not : (a b : ℕ) → a < b → a ≡ b → ⊥
    less-not a b l e = omega arith

    more-not : (a b : ℕ) → b < a → a ≡ b → ⊥
    more-not a b l e = omega arith

    go : (n * up d * den r < num r * down d) ⊎ (num r * down d < n * up d * den r) → ⊥
    go (inl l) = less-not _ _ (R.less n d f l) tie
    go (inr l) = more-not _ _ (R.more n d f l) tie

-- ---- worked examples

-- the roots of the largest f64, of the smallest, of the largest subnormal, of the smallest normal, and of 2
root-of-largest : root_of (fin false 9007199254740991 (pos 971)) ≡ fin false 9007199254740991 (pos 459)
unfolding root_of root_raised root_from nearest_from choose round
root-of-largest = refl

root-of-smallest : root_of (fin false 1 (negsuc 1073)) ≡ fin false 1 (negsuc 536)
unfolding root_of root_raised root_from nearest_from choose round
root-of-smallest = refl

root-of-largest-subnormal : root_of (fin false 4503599627370495 (negsuc 1073)) ≡ fin false 9007199254740991 (negsuc 563)
unfolding root_of root_raised root_from nearest_from choose round
root-of-largest-subnormal = refl

root-of-smallest-normal : root_of (fin false 1 (negsuc 1021)) ≡ fin false 1 (negsuc 510)
unfolding root_of root_raised root_from nearest_from choose round
root-of-smallest-normal = refl

root-of-two : root_of (fin false 1 (pos 1)) ≡ fin false 6369051672525773 (negsuc 51)
unfolding root_of root_raised root_from nearest_from choose round
root-of-two = refl
