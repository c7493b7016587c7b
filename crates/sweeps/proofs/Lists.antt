-- The capped list: no box, and a loop along it. Assumes nothing.
use mathlib.Core.Path.{◌≡◌, refl}
use mathlib.Core.List.{List, [], ◌∷◌}
use Prim.Native.Nat.{ℕ, ◌+◌, ◌≤◌, ◌<◌, min}
use native.Mathlib.Numerals.{add-one}
use native.Mathlib.Omega.{arith}
use lib.ListN.{length, get_or, take, drop, length-take, drop_of_length-le}
use lib.Seq.{drop-cons, get_or-take}
use Rattle.boxes.specs.declared.Aabb.{Aabb}
use Rattle.sweeps.specs.Lists.{list_of, empty_list, Held, held}

pub empty : (k : ℕ) → ◌≡◌ {A = Held} record { refusal = k; count = empty_list.count; boxes = list_of empty_list } (held k [])
unfolding empty_list
empty k = refl

-- a loop along a list with so much room: the box at i and those after it, and the end; n is how many boxes count
module _ (bs : List Aabb) (count most : ℕ) (whole : length bs ≡ most) (n i : ℕ) (counts : n ≡ min count most) where
  pub at-box : (z : Aabb) → i < n → drop i (take count bs) ≡ get_or bs i z ∷ drop (i + 1) (take count bs)
  at-box z h =
      let m : length (take count bs) ≡ min count (length bs) = length-take count bs in
      let k : i < length (take count bs) = omega arith in
      let j : i < count = omega arith in
      rw (add-one, drop-cons (take count bs) i z, get_or-take count bs i z j)

  pub past-boxes : n ≤ i → drop i (take count bs) ≡ []
  past-boxes h =
      let m : length (take count bs) ≡ min count (length bs) = length-take count bs in
      let k : length (take count bs) ≤ i = omega arith in
      drop_of_length-le (take count bs) k
