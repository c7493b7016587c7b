-- The rule of a table of wall transitions: one test over the whole table, which is computed, and one law that turns it into the rule at each entry.
-- Assumes nothing.
use mathlib.Core.Bool.{Bool, true, ◌&&◌}
use mathlib.Core.Path.{◌≡◌, sym, ◌∙◌, subst}
use mathlib.Core.List.{List, [], ◌∷◌}
use Prim.Native.Nat.{ℕ, zero, suc, ◌+◌, ◌-◌, ◌*◌, ◌/◌, ◌%◌, ◌<◌}
use native.Mathlib.Nat.{add-zero, zero-add, add-suc, suc-add, le_of_suc-le-suc, not-suc-le-zero}
use native.Mathlib.Omega.{arith}
use lib.Dec.{eqb, leb, ltb}
use lib.ListN.{length, get_or}
use borrow.Author.Tests.{eqb-true, leb-true, ltb-true, lt-ltb}
use Rattle.base.specs.Choose.{choose}
use Rattle.base.specs.Every.{every}
use Rattle.base.proofs.Every.{both, every-at}
use Rattle.turns.specs.Turns.{first_wall, walls, entry_at, digit_at, turned_at, wall_link, wall_turn, Rule}

-- ---- a test of each entry of a list and its place, counted from i
unfoldable pub tested : (ℕ → ℕ → Bool) → ℕ → List ℕ → Bool
tested f i [] = true
tested f i (x ∷ xs) = f i x && tested f (suc i) xs

from : (f : ℕ → ℕ → Bool) (xs : List ℕ) (i : ℕ) → tested f i xs ≡ true → (k : ℕ) → k < length xs → f (i + k) (get_or xs k 0) ≡ true
unfolding tested
from f [] i t k h = absurd (not-suc-le-zero h)
from f (x ∷ xs) i t zero h = subst (λ (m : ℕ). f m x ≡ true) (sym (add-zero i)) (both (f i x) (tested f (suc i) xs) t).one
from f (x ∷ xs) i t (suc k) h =
    subst (λ (m : ℕ). f m (get_or xs k 0) ≡ true) (suc-add i k ∙ sym (add-suc i k))
    (from f xs (suc i) (both (f i x) (tested f (suc i) xs) t).two k (le_of_suc-le-suc h))

at : (f : ℕ → ℕ → Bool) (xs : List ℕ) → tested f 0 xs ≡ true → (k : ℕ) → k < length xs → f k (get_or xs k 0) ≡ true
at f xs t k h = subst (λ (m : ℕ). f m (get_or xs k 0) ≡ true) (zero-add k) (from f xs 0 t k h)

-- ---- the number x at place n: a wall, its digits those of the rule, and so the number that the definition has
unfoldable pub right : ℕ → ℕ → Bool
right n x =
    leb first_wall x
    && ltb x (first_wall + walls)
    && every 5 (λ p. eqb (digit_at (x - first_wall) p) (turned_at (n / 10) (n % 10) p))
    && eqb x (wall_link (n / 10) (n % 10))

pub record Held (i k x : ℕ) : Type 0 where
  pub rule : Rule i k x
  pub whole : x ≡ wall_link i k

said : (n x : ℕ) → right n x ≡ true → Held (n / 10) (n % 10) x
unfolding right
said n x h =
    let digits : ℕ → Bool = λ p. eqb (digit_at (x - first_wall) p) (turned_at (n / 10) (n % 10) p) in
    let abcd = both (leb first_wall x && ltb x (first_wall + walls) && every 5 digits) (eqb x (wall_link (n / 10) (n % 10))) h in
    let abc = both (leb first_wall x && ltb x (first_wall + walls)) (every 5 digits) abcd.one in
    let ab = both (leb first_wall x) (ltb x (first_wall + walls)) abc.one in
    record {
      rule = record {
        least = leb-true first_wall x ab.one;
        most = ltb-true x (first_wall + walls) ab.two;
        digit = λ p l. eqb-true _ _ (every-at 5 digits abc.two p l);
      };
      whole = eqb-true x (wall_link (n / 10) (n % 10)) abcd.two;
    }

-- what is read of any table of 1,620 that passes the test: the rule at link k of wall i
pub read : (i k x : ℕ) (table : List ℕ) → x ≡ entry_at table (i * 10 + k) → length table ≡ 1620 → tested right 0 table ≡ true → i < 162 → k < 10 → (x ≡ wall_turn i k) × (i < 162 → k < 10 → Rule i k x)
unfolding entry_at wall_turn choose
read i k x table e n t h g =
    let p : (i * 10 + k) / 10 ≡ i = omega arith in
    let q : (i * 10 + k) % 10 ≡ k = omega arith in
    let b : i * 10 + k < length table = rw n (omega arith) in
    let r : Held ((i * 10 + k) / 10) ((i * 10 + k) % 10) (get_or table (i * 10 + k) 0) = said (i * 10 + k) (get_or table (i * 10 + k) 0) (at right table t (i * 10 + k) b) in
    let l : Held i k x = rw e (rw (p, q) at r) in
    (rw (lt-ltb i 162 h, lt-ltb k 10 g) l.whole, λ _ _. l.rule)
