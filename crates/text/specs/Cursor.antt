-- A text written into a lent buffer at a cursor.
use Rattle.std.specs.Prelude.{List, ◌≡◌, ℕ, ◌+◌, min, max, length}
use Rattle.base.specs.Loop.{stored}

-- the cursor behind n bytes more: it never passes the end of a buffer of this size
abbrev pub behind : ℕ → ℕ → ℕ → ℕ
behind size at n = max at (min (at + n) size)

-- the text stands in l from `at` on, as far as there is room, all else is kept, and r is the cursor behind it
pub record Put (l : List ℕ) (at : ℕ) (text : List ℕ) (after : List ℕ) (r : ℕ) : Type 0 where
  pub buffer : after ≡ stored l at text
  pub cursor : r ≡ behind (length l) at (length text)
