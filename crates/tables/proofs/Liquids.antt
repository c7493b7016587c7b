-- The liquid's kind and its number are the same fact: word 2 of a record that the check accepts is the number of its kind. Assumes nothing.
use Rattle.std.proofs.Common.{◌≡◌, ℕ, zero, suc, ◌≤◌, refl, le_of_suc-le-suc, not-suc-le-zero}
use Rattle.base.specs.Choose.{choose}
use Rattle.tables.specs.Tables.{kind_number, kind_of}

pub kind-number : (n : ℕ) → n ≤ 2 → kind_number (kind_of n) ≡ n
unfolding kind_of choose
kind-number zero h = refl
kind-number (suc zero) h = refl
kind-number (suc (suc zero)) h = refl
kind-number (suc (suc (suc n))) h = absurd (not-suc-le-zero (le_of_suc-le-suc (le_of_suc-le-suc h)))
