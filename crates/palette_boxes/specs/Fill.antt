-- What a table is filled into: a lent buffer that is too short is 11, and then nothing is written; what lies beyond the table keeps its values.
use Rattle.std.specs.Prelude.{ℕ, List, ◌++◌, length, drop, nat_lt}
use Rattle.base.specs.Choose.{choose}

abbrev pub fill_refusal : {A : Type 0} → ℕ → List A → ℕ
fill_refusal n out = choose (nat_lt (length out) n) 11 0

abbrev pub filled : {A : Type 0} → ℕ → List A → List A → List A
filled n out table = choose (nat_lt (length out) n) out (table ++ drop n out)
