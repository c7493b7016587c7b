-- Lent bytes are lists of numbers: when one equals, ends in, or has within it a fixed text.
use Rattle.std.specs.Prelude.{Bool, true, false, ◌&&◌, ◌||◌, List, [], ◌∷◌, ℕ, ◌-◌, eqb, length, take, drop}
use Prim.Native.Char.{code}
use Prim.Native.String.{String, [] as end, ◌∷◌ as ◌then◌}

-- the bytes of an ASCII text
abbrev pub bytes : String → List ℕ
bytes end = []
bytes (c then s) = code c ∷ bytes s

unfoldable pub equal : List ℕ → List ℕ → Bool
equal [] [] = true
equal [] (b ∷ t) = false
equal (a ∷ s) [] = false
equal (a ∷ s) (b ∷ t) = eqb a b && equal s t

-- the last bytes, as many as the suffix has, are the suffix; no identifier ends in one that is longer
unfoldable pub ends_with : List ℕ → List ℕ → Bool
ends_with id suffix = equal (drop (length id - length suffix) id) suffix

unfoldable pub starts_with : List ℕ → List ℕ → Bool
starts_with id prefix = equal (take (length prefix) id) prefix

-- the part starts at some byte of the identifier
unfoldable pub has_within : List ℕ → List ℕ → Bool
has_within [] part = starts_with [] part
has_within (b ∷ id) part = starts_with (b ∷ id) part || has_within id part
