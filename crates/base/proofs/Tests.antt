-- Tests, as truth values: when two are the same, and what the test of a pair or a denial says. Assumes nothing.
use mathlib.Core.Path.{◌≡◌, refl, ap, ◌∙◌, subst}
use mathlib.Core.Logic.{◌⊎◌, inl, inr}
use mathlib.Core.Bool.{Bool, true, false, not, ◌&&◌, ◌||◌}
use Prim.Native.Nat.{ℕ, zero, suc, ◌≤◌, ◌<◌}
use native.Mathlib.Nat.{le_of_lt, le_antisymm, le_of_eq, not-le_of_lt}
use native.Mathlib.Omega.{arith}
use lib.Dec.{T, ltb, leb, eqb, leb→le, le→leb, nleb→lt, ltb→lt, lt→ltb, nltb→le, eqb→eq}
use lib.Ieee.Fits.{eq→eqb}
use Rattle.base.specs.Every.{every}

pub T_true : (b : Bool) → T b → b ≡ true
T_true true t = refl
T_true false t = absurd t

pub bool_iff : (a b : Bool) → (T a → T b) → (T b → T a) → a ≡ b
bool_iff true true f g = refl
bool_iff true false f g = absurd (f tt)
bool_iff false true f g = absurd (g tt)
bool_iff false false f g = refl

pub ltb_iff : (a b c d : ℕ) → (a < b → c < d) → (c < d → a < b) → ltb a b ≡ ltb c d
ltb_iff a b c d f g = bool_iff (ltb a b) (ltb c d) (λ (t : T (ltb a b)). lt→ltb c d (f (ltb→lt a b t))) (λ (t : T (ltb c d)). lt→ltb a b (g (ltb→lt c d t)))

pub leb-iff : (a b c d : ℕ) → (a ≤ b → c ≤ d) → (c ≤ d → a ≤ b) → leb a b ≡ leb c d
leb-iff a b c d f g = bool_iff (leb a b) (leb c d) (λ (t : T (leb a b)). le→leb c d (f (leb→le a b t))) (λ (t : T (leb c d)). le→leb a b (g (leb→le c d t)))

pub eqb-iff : (a b c d : ℕ) → (a ≡ b → c ≡ d) → (c ≡ d → a ≡ b) → eqb a b ≡ eqb c d
eqb-iff a b c d f g = bool_iff (eqb a b) (eqb c d) (λ (t : T (eqb a b)). eq→eqb (f (eqb→eq a b t))) (λ (t : T (eqb c d)). eq→eqb (g (eqb→eq c d t)))

pub ltb_no : (a b : ℕ) → b ≤ a → ltb a b ≡ false
ltb_no a b h = bool_iff (ltb a b) false (λ (t : T (ltb a b)). not-le_of_lt (ltb→lt a b t) h) (λ (t : ⊥). absurd t)

pub leb-split : (a b : ℕ) → ltb a b || eqb a b ≡ leb a b
leb-split a b = go (ltb a b) (ltb→lt a b) (nltb→le a b)
  where
    go : (t : Bool) → (T t → a < b) → (T (not t) → b ≤ a) → t || eqb a b ≡ leb a b
    go true h j = bool_iff true (leb a b) (λ (u : Unit {0}). le→leb a b (le_of_lt (h tt))) (λ (u : T (leb a b)). tt)
    go false h j =
        bool_iff (eqb a b) (leb a b) (λ (u : T (eqb a b)). le→leb a b (le_of_eq (eqb→eq a b u)))
        (λ (u : T (leb a b)). eq→eqb (le_antisymm (leb→le a b u) (j tt)))

pub leb-not : (a b : ℕ) → leb a b ≡ not (ltb b a)
leb-not a b = go (leb a b) (ltb b a) (leb→le a b) (nleb→lt a b) (ltb→lt b a) (nltb→le b a)
  where
    go : (p q : Bool) → (T p → a ≤ b) → (T (not p) → b < a) → (T q → b < a) → (T (not q) → a ≤ b) → p ≡ not q
    go true true f g h j = absurd (let z = f tt in let w = h tt in omega arith)
    go true false f g h j = refl
    go false true f g h j = refl
    go false false f g h j = absurd (let z = g tt in let w = j tt in omega arith)

-- ---- both, either, not
pub and_is : (a b c d : Bool) → a ≡ c → b ≡ d → a && b ≡ c && d
and_is a b c d p q = ap (λ (u : Bool). u && b) p ∙ ap (λ (u : Bool). c && u) q

pub or_is : (a b c d : Bool) → a ≡ c → b ≡ d → a || b ≡ c || d
or_is a b c d p q = ap (λ (u : Bool). u || b) p ∙ ap (λ (u : Bool). c || u) q

pub neither : (x y : Bool) → not x || not y ≡ not (x && y)
neither true y = refl
neither false y = refl

pub or_l : (a b : Bool) → T a → T (a || b)
or_l true b t = tt
or_l false b t = absurd t

pub or_r : (a b : Bool) → T b → T (a || b)
or_r true b t = tt
or_r false b t = t

pub or_split : (a b : Bool) → T (a || b) → T a ⊎ T b
or_split true b t = inl tt
or_split false b t = inr t

pub no-not : (b : Bool) → not b ≡ false → T b
no-not true e = tt
no-not false e = absurd (subst T e tt)

-- ---- of every number below n
pub every-same : (p q : ℕ → Bool) → ((i : ℕ) → p i ≡ q i) → (n : ℕ) → every n p ≡ every n q
unfolding every
every-same p q h zero = refl
every-same p q h (suc n) = rw (every-same p q h n, h n)
