-- Finite numbers, their order and size, and what module 1 answers. `Float` is lib.Ieee's: `fin s m e` is m * 2 ^ e, negative where s is true.
use Rattle.std.specs.Prelude.{Bool, true, false, ℕ, Result, Ok, Err, Float}
use Rattle.std.specs.Float.{nan, inf, fin, binary64}
use Rattle.std.specs.Float.Ieee.{of_bits, lt, le}
use Rattle.base.specs.Choose.{choose}
use Rattle.base.specs.declared.Refusal.{Refusal}
use Rattle.base.specs.Refusals.{number_of}

-- +0 and 1
abbrev pub zero64 : Float
zero64 = of_bits binary64 0

abbrev pub one64 : Float
one64 = of_bits binary64 4607182418800017408

-- neither a NaN nor an infinity
abbrev pub is_finite : Float → Bool
is_finite nan = false
is_finite (inf s) = false
is_finite (fin s m e) = true

-- x with the sign clear
unfoldable pub size_of : Float → Float
size_of nan = nan
size_of (inf s) = inf false
size_of (fin s m e) = fin false m e

-- finite, and of size at most the limit
abbrev pub is_within_limit : Float → Float → Bool
is_within_limit x limit = choose (is_finite x) (le (size_of x) limit) false

-- of two equal numbers the first
abbrev pub least_of : Float → Float → Float
least_of a b = choose (lt b a) b a

abbrev pub greatest_of : Float → Float → Float
greatest_of a b = choose (lt a b) b a

abbrev pub are_finite : Float → Float → Bool
are_finite a b = choose (is_finite a) (is_finite b) false

-- what module 1 answers: refusal 0 and the value, or a refusal's number and +0
pub record Answer : Type 0 where
  pub refusal : ℕ
  pub value : Float

abbrev pub answered : Result Float Refusal → Answer
answered (Ok v) = record { refusal = 0; value = v }
answered (Err e) = record { refusal = number_of e; value = zero64 }

-- v where the arguments are taken; otherwise the refusal 4 and +0
abbrev pub answer_where : Bool → Float → Answer
answer_where taken v = choose taken record { refusal = 0; value = v } record { refusal = 4; value = zero64 }
