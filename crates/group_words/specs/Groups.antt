-- The groups of a window: 4 by 4 by 4 cells each, counted from the origin; those of the far edges are cut by it. A group's word is 0 when every
-- cell of it in the window, as looked up, is a registered state that connects as nothing and has no boxes, else 1.
use Rattle.std.specs.Prelude.{Bool, false, ◌&&◌, List, ℕ, ◌+◌, ◌*◌, ◌-◌, ◌/◌, ◌%◌, min, eqb, ltb, pos, nat_abs, ◌+ℤ◌, ◌-ℤ◌}
use Rattle.base.specs.Choose.{choose}
use Rattle.base.specs.Every.{every}
use Rattle.base.specs.Ask.{Ask, refused, found}
use Rattle.tables.specs.Tables.{word_at, is_registered}
use Rattle.window.specs.declared.Pos.{Pos}
use Rattle.window.specs.declared.Sizes.{Sizes}
use Rattle.window.specs.declared.Window.{Window}
use Rattle.window.specs.Look.{Block, none, some, look_at}
use Rattle.group_words.specs.declared.Group.{Group}

-- ---- which groups there are

-- along an axis
abbrev pub groups_on : ℕ → ℕ
groups_on size = (size + 3) / 4

abbrev pub group_count : Sizes → ℕ
group_count s = groups_on s.x * groups_on s.y * groups_on s.z

-- in the cells' order: ((y × groups on z) + z) × groups on x + x
abbrev pub group_index : Sizes → Group → ℕ
group_index s g = (g.y * groups_on s.z + g.z) * groups_on s.x + g.x

-- the group that is number i of them
abbrev pub group_at : Sizes → ℕ → Group
group_at s i =
    record {
      x = i % groups_on s.x;
      y = i / groups_on s.x / groups_on s.z;
      z = i / groups_on s.x % groups_on s.z;
    }

-- the group of a cell inside the window: there no difference is below zero
abbrev pub group_of : Window → Pos → Group
group_of w p =
    record {
      x = nat_abs (p.x -ℤ w.origin.x) / 4;
      y = nat_abs (p.y -ℤ w.origin.y) / 4;
      z = nat_abs (p.z -ℤ w.origin.z) / 4;
    }

-- ---- its cells

-- how many of its four cells along an axis lie in the window
abbrev pub cut : ℕ → ℕ → ℕ
cut size g = min 4 (size - g * 4)

-- the cell so far from the origin
abbrev pub cell_at : Window → ℕ → ℕ → ℕ → Pos
cell_at w x y z = record { x = w.origin.x +ℤ pos x; y = w.origin.y +ℤ pos y; z = w.origin.z +ℤ pos z }

-- ---- its word

-- a registered state that connects as nothing and has no boxes
unfoldable pub is_empty_state : List ℕ → ℕ → Bool
is_empty_state records id = is_registered records id && eqb (word_at records id 4) 0 && eqb (word_at records id 8) 0

-- a cell that is not loaded, or not there, is none
abbrev pub is_empty : List ℕ → Ask Block → Bool
is_empty records (refused n) = false
is_empty records (found none) = false
is_empty records (found (some id)) = is_empty_state records id

-- so many cells along x; the cells of a group in one layer; and all of them
unfoldable pub is_empty_line : List ℕ → List ℕ → Window → ℕ → ℕ → ℕ → ℕ → Bool
is_empty_line records words w n x y z = every n (λ k. is_empty records (look_at words w (cell_at w (x + k) y z)))

unfoldable pub is_empty_layer : List ℕ → List ℕ → Window → Group → ℕ → Bool
is_empty_layer records words w g y =
    every (cut w.sizes.z g.z) (λ k. is_empty_line records words w (cut w.sizes.x g.x) (g.x * 4) y (g.z * 4 + k))

unfoldable pub is_empty_group : List ℕ → List ℕ → Window → Group → Bool
is_empty_group records words w g = every (cut w.sizes.y g.y) (λ k. is_empty_layer records words w g (g.y * 4 + k))

abbrev pub group_word : List ℕ → List ℕ → Window → Group → ℕ
group_word records words w g = choose (is_empty_group records words w g) 0 1

-- ---- of any group: one that no window has, whose sizes are 64 at most, is not known to be empty

abbrev pub is_group : Group → Bool
is_group g = ltb g.x 16 && ltb g.y 16 && ltb g.z 16

unfoldable pub word_of_group : List ℕ → List ℕ → Window → Group → ℕ
word_of_group records words w g = choose (is_group g) (group_word records words w g) 1
