-- What the program works with: how far a cell lies from the origin, and the set at such a place. `proofs/Places` shows that this comes to the set
-- as defined in `Summary`.
use Rattle.std.specs.Prelude.{Bool, true, false, ◌&&◌, List, ℕ, ◌+◌, ◌/◌, ltb, ℤ, nat_abs, ◌-ℤ◌, set, Option, None, Some}
use Rattle.base.specs.Choose.{choose}
use Rattle.window.specs.declared.Pos.{Pos}
use Rattle.window.specs.declared.Sizes.{Sizes}
use Rattle.window.specs.declared.Window.{Window}
use Rattle.window.specs.Window.{within, index_at, sizes_fit}
use Rattle.group_words.specs.declared.Group.{Group}
use Rattle.groups.specs.declared.Place.{Place}
use Rattle.groups.specs.declared.Layout.{Layout}
use Rattle.groups.specs.Groups.{groups_on, group_index, group_word}
use Rattle.groups.specs.Summary.{words_before, has_summary}

-- where the words of groups stand, and how many there are along x and z; nothing where the sizes break their limit
pub record Laid : Type 0 where
  pub fits : Bool
  pub before : ℕ
  pub across : ℕ
  pub deep : ℕ

unfoldable pub layout_of : Sizes → Laid
layout_of s =
    choose (sizes_fit s)
    record { fits = true; before = words_before s; across = groups_on s.x; deep = groups_on s.z }
    record { fits = false; before = 0; across = 0; deep = 0 }

-- what the program's answer says
abbrev pub layout_seen : Option Layout → Laid
layout_seen None = record { fits = false; before = 0; across = 0; deep = 0 }
layout_seen (Some l) = record { fits = true; before = l.before; across = l.across; deep = l.deep }

unfoldable pub offset_in : ℤ → ℤ → ℕ → ℕ
offset_in c origin size = choose (within origin size c) (nat_abs (c -ℤ origin)) size

abbrev pub place_in : Window → Pos → Place
place_in w p =
    record {
      x = offset_in p.x w.origin.x w.sizes.x;
      y = offset_in p.y w.origin.y w.sizes.y;
      z = offset_in p.z w.origin.z w.sizes.z;
    }

abbrev pub is_in : Sizes → Place → Bool
is_in s t = ltb t.x s.x && ltb t.z s.z && ltb t.y s.y

abbrev pub group_in : Place → Group
group_in t = record { x = t.x / 4; y = t.y / 4; z = t.z / 4 }

abbrev pub set_at : List ℕ → List ℕ → Window → Place → ℕ → List ℕ
set_at records words w t state =
    let after = set words (index_at w.sizes t.x t.y t.z) state in
    set after (words_before w.sizes + group_index w.sizes (group_in t)) (group_word records after w (group_in t))

-- the same over a summary that is there, for a place that lies in the window: 11 for a wrong length, 5 for a place outside
unfoldable pub placed_refusal : List ℕ → Window → Place → ℕ
placed_refusal words w t = choose (has_summary words w) (choose (is_in w.sizes t) 0 5) 11

unfoldable pub after_placed : List ℕ → List ℕ → Window → Place → ℕ → List ℕ
after_placed records words w t state = choose (has_summary words w) (choose (is_in w.sizes t) (set_at records words w t state) words) words
