-- A list whose elements are f32s is one of f32s whatever is taken for an element that is not there. Assumes nothing.
use mathlib.Core.List.{List, [], ◌∷◌}
use Prim.Native.Nat.{ℕ, zero, suc}
use lib.Dec.{T}
use lib.ListN.{get_or}
use lib.Ieee.{Float, nan, binary32, fits, of_bits}
use Rattle.floats.specs.Numbers.{zero64}

pub zero-past : (l : List Float) → ((i : ℕ) → T (fits binary32 (get_or l i nan))) → (i : ℕ) → T (fits binary32 (get_or l i zero64))
unfolding fits of_bits
zero-past [] h i = tt
zero-past (x ∷ l) h zero = h 0
zero-past (x ∷ l) h (suc i) = zero-past l (λ k. h (suc k)) i
