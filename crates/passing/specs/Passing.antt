-- Which layers of a range a collection passes over: those that lie in the window with all their columns, of which every group from that of the first
-- cell to that of the last is marked 0 by the summary behind the window's words. A word that was not lent marks nothing.
use Rattle.std.specs.Prelude.{◌≡◌, Bool, true, false, ◌&&◌, List, ℕ, ◌+◌, ◌*◌, ◌-◌, ◌/◌, ◌%◌, ◌≤◌, ◌<◌, min, ltb, eqb, length, get_or, Option, None, Some}
use Rattle.base.specs.Choose.{choose}
use Rattle.base.specs.Every.{every}
use Rattle.window.specs.declared.Sizes.{Sizes}
use Rattle.window.specs.declared.Window.{Window}
use Rattle.ranges.specs.declared.Range.{Range}
use Rattle.ranges.specs.Ranges.{place_at}
use Rattle.groups.specs.declared.Place.{Place}
use Rattle.groups.specs.Places.{Laid, layout_of, place_in}
use Rattle.passing.specs.declared.Reach.{Reach}
use Rattle.passing.specs.declared.Stretch.{Stretch}

-- how far the first and the last column of a range lie from the origin
abbrev pub first_column : Window → Range → Place
first_column w r = place_in w (place_at r 0 0 0)

abbrev pub last_column : Window → Range → Place
last_column w r = place_in w (place_at r (r.x.count - 1) 0 (r.z.count - 1))

-- both lie in the window, and so does every column between them
abbrev pub spans : Sizes → Place → Place → Bool
spans s a b = ltb a.x s.x && ltb b.x s.x && ltb a.z s.z && ltb b.z s.z

-- the groups of a range's columns: the first on x and z, and how many from there on; where the words of groups stand, and how many groups a row and a
-- layer of them has. `on` is no where a column of the range lies outside the window.
pub record Reached : Type 0 where
  pub on : Bool
  pub before : ℕ
  pub row : ℕ
  pub layer : ℕ
  pub x : ℕ
  pub z : ℕ
  pub across : ℕ
  pub deep : ℕ

-- the groups from that of the first to that of the last
abbrev pub reach_between : Laid → Place → Place → Reached
reach_between l a b =
    record {
      on = true;
      before = l.before;
      row = l.across;
      layer = l.deep;
      x = a.x / 4;
      z = a.z / 4;
      across = b.x / 4 + 1 - a.x / 4;
      deep = b.z / 4 + 1 - a.z / 4;
    }

abbrev pub nowhere : Reached
nowhere = record { on = false; before = 0; row = 0; layer = 0; x = 0; z = 0; across = 0; deep = 0 }

-- what the program's answer says
abbrev pub reach_seen : Option Reach → Reached
reach_seen None = nowhere
reach_seen (Some k) =
    record { on = true; before = k.before; row = k.row; layer = k.layer; x = k.x; z = k.z; across = k.across; deep = k.deep }

unfoldable pub reach_of : Window → Range → Reached
reach_of w r =
    choose ((layout_of w.sizes).fits && spans w.sizes (first_column w r) (last_column w r))
    (reach_between (layout_of w.sizes) (first_column w r) (last_column w r))
    nowhere

-- none where no word is lent behind those of cells and columns
unfoldable pub reach_in : List ℕ → Window → Range → Reached
reach_in words w r = choose (ltb (layout_of w.sizes).before (length words)) (reach_of w r) nowhere

-- so many words from a place on are 0, and so many such rows
unfoldable pub row_marked : List ℕ → ℕ → ℕ → Bool
row_marked words at n = every n (λ i. eqb (get_or words (at + i) 1) 0)

unfoldable pub all_marked : List ℕ → Reached → ℕ → Bool
all_marked words k y = every k.deep (λ j. row_marked words (k.before + k.x + (y / 4 * k.layer + k.z + j) * k.row) k.across)

-- how far above the origin a layer of the range lies, and the window's height where it lies outside
abbrev pub height_of : Window → Range → ℕ → ℕ
height_of w r y = (place_in w (place_at r 0 y 0)).y

unfoldable pub passes_by : List ℕ → Window → Range → Reached → ℕ → Bool
passes_by words w r k y = k.on && ltb (height_of w r y) w.sizes.y && all_marked words k (height_of w r y)

abbrev pub passes : List ℕ → Window → Range → ℕ → Bool
passes words w r y = passes_by words w r (reach_in words w r) y

-- the lines of a layer that a collection comes to
abbrev pub lines_by : List ℕ → Window → Range → Reached → ℕ → ℕ
lines_by words w r k y = choose (passes_by words w r k y) 0 r.x.count

-- the first layer after y whose groups may be others: after those of the same four, or of the window; 0, which is none after y, where y lies outside
-- the window's heights; and 2^32, beyond every layer, where no layer is passed over
abbrev pub stretch_end : Window → Range → Reached → ℕ → ℕ
stretch_end w r k y =
    choose k.on
    (choose (ltb (height_of w r y) w.sizes.y) (y + min (4 - height_of w r y % 4) (w.sizes.y - height_of w r y)) 0)
    4294967296

-- what is known of layer y and those after it: what was known before, where that goes so far, and else what the groups of layer y say
unfoldable pub stretch_at : List ℕ → Window → Range → Reached → ℕ → Stretch → Stretch
stretch_at words w r k y last = choose (ltb y last.until) last record { until = stretch_end w r k y; lines = lines_by words w r k y }

-- a stretch tells the lines of each layer from y on up to its end
pub record Tells (words : List ℕ) (w : Window) (r : Range) (k : Reached) (s : Stretch) (y : ℕ) : Type 0 where
  pub tells : (z : ℕ) → y ≤ z → z < s.until → s.lines ≡ lines_by words w r k z
