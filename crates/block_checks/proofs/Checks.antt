-- A block's mark, and the sums that wrap. Assumes nothing.
use Rattle.std.proofs.Common.{◌≡◌, ℕ, zero, suc, ◌+◌, ◌%◌, Bool, true, false, List, [], ◌∷◌, take, refl, sym, ◌∙◌, arith}
use native.Mathlib.Nat.{mod-add-mod, add-mod-mod}
use lib.Dec.{eqb}
use Rattle.std.specs.List.{starts_with, fold, range_with_len}
use Rattle.std.specs.Cmp.Lexicographic.{pointwise}
use Rattle.base.proofs.Tests.{eqb-iff}
use Rattle.base.specs.Choose.{choose}
use Rattle.suffixes.specs.Bytes.{equal}
use Rattle.block_checks.specs.Checks.{old_mark, new_mark, marked, sum_of}

-- ---- a block starts with a mark
same : (a b : List ℕ) → pointwise eqb b a ≡ equal a b
unfolding equal
same [] [] = refl
same [] (y ∷ b) = refl
same (x ∷ a) [] = refl
same (x ∷ a) (y ∷ b) = rw (eqb-iff y x x y sym sym, same a b)

pub starts_new : (block : List ℕ) → starts_with eqb block new_mark ≡ marked true block
unfolding marked choose
starts_new block = same (take 4 block) new_mark

pub starts_old : (block : List ℕ) → starts_with eqb block old_mark ≡ marked false block
unfolding marked choose
starts_old block = same (take 4 block) old_mark

-- ---- one term more in a sum that wraps, wrapped itself or not

pub sum-turn : (f : ℕ → ℕ) (k s a : ℕ) → s ≡ sum_of f k % 4294967296 → a % 4294967296 ≡ f k % 4294967296 → (s + a) % 4294967296 ≡ sum_of f (k + 1) % 4294967296
unfolding sum_of
sum-turn f k s a e q =
    let n : k + 1 ≡ suc k = omega arith in
    rw (n, e) (mod-add-mod (sum_of f k) 4294967296 a ∙ sym (add-mod-mod (sum_of f k) a 4294967296) ∙ rw q (add-mod-mod (sum_of f k) (f k) 4294967296))

-- the sum that a fold comes to, from turn i on
pub folded : (f g : ℕ → ℕ) → ((k : ℕ) → g k % 4294967296 ≡ f k % 4294967296) → (n i s : ℕ) → s ≡ sum_of f i % 4294967296 → fold (λ s k. (s + g k) % 4294967296) s (range_with_len i n) ≡ sum_of f (i + n) % 4294967296
folded f g h zero i s e = let z : i + 0 ≡ i = omega arith in rw z e
folded f g h (suc n) i s e = let z : i + suc n ≡ i + 1 + n = omega arith in rw z (folded f g h n (i + 1) ((s + g i) % 4294967296) (sum-turn f i s (g i) e (h i)))
