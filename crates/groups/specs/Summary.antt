-- The summary of a window: the words of its groups, in the cells' order. It stands among the lent words, behind those of cells and columns.
use Rattle.std.specs.Prelude.{Bool, ◌&&◌, List, [], ◌∷◌, ℕ, ◌+◌, eqb, length, get_or, set}
use Rattle.base.specs.Choose.{choose}
use Rattle.base.specs.Every.{every}
use Rattle.base.specs.Loop.{listed, stored}
use Rattle.window.specs.declared.Pos.{Pos}
use Rattle.window.specs.declared.Sizes.{Sizes}
use Rattle.window.specs.declared.Window.{Window}
use Rattle.window.specs.Window.{column_inside, height_inside, cell_count, column_count, index_of, sizes_fit}
use Rattle.groups.specs.Groups.{group_count, group_index, group_at, group_of, group_word}

unfoldable pub summary_of : List ℕ → List ℕ → Window → List ℕ
summary_of records words w = listed (λ i. group_word records words w (group_at w.sizes i)) (group_count w.sizes) 0

-- ---- where it stands

-- so many words, of cells and of columns, come before it
abbrev pub words_before : Sizes → ℕ
words_before s = cell_count s + column_count s

-- so many words are lent with it; none where the sizes break their limit
unfoldable pub summed_words : Sizes → ℕ
summed_words s = choose (sizes_fit s) (words_before s + group_count s) 0

-- there are as many words behind them as the window has groups
unfoldable pub has_summary : List ℕ → Window → Bool
has_summary words w = sizes_fit w.sizes && eqb (length words) (words_before w.sizes + group_count w.sizes)

-- ---- building it: 0, or 11 where its place is of the wrong length and nothing is written

unfoldable pub build_refusal : List ℕ → Window → ℕ
build_refusal words w = choose (has_summary words w) 0 11

unfoldable pub built : List ℕ → List ℕ → Window → List ℕ
built records words w = choose (has_summary words w) (stored words (words_before w.sizes) (summary_of records words w)) words

-- ---- checking it: 11 for a wrong length, 13 for a word that disagrees with its cells

abbrev pub agrees_at : List ℕ → List ℕ → Window → ℕ → Bool
agrees_at records words w i = eqb (get_or words (words_before w.sizes + i) 0) (group_word records words w (group_at w.sizes i))

unfoldable pub agrees : List ℕ → List ℕ → Window → Bool
agrees records words w = every (group_count w.sizes) (agrees_at records words w)

unfoldable pub summary_refusal : List ℕ → List ℕ → Window → ℕ
summary_refusal records words w = choose (has_summary words w) (choose (agrees records words w) 0 13) 11

-- ---- setting one cell, and mending the word of its group: 11 for a wrong length, 5 for a cell outside the window

abbrev pub is_inside : Window → Pos → Bool
is_inside w p = column_inside w p && height_inside w p

abbrev pub mended : List ℕ → List ℕ → Window → Pos → List ℕ
mended records words w p = set words (words_before w.sizes + group_index w.sizes (group_of w p)) (group_word records words w (group_of w p))

abbrev pub set_in : List ℕ → List ℕ → Window → Pos → ℕ → List ℕ
set_in records words w p state = mended records (set words (index_of w p) state) w p

unfoldable pub set_refusal : List ℕ → Window → Pos → ℕ
set_refusal words w p = choose (has_summary words w) (choose (is_inside w p) 0 5) 11

unfoldable pub after_set : List ℕ → List ℕ → Window → Pos → ℕ → List ℕ
after_set records words w p state = choose (has_summary words w) (choose (is_inside w p) (set_in records words w p state) words) words

-- any run of sets, one after the other
pub record PlacedSet : Type 0 where
  pub at : Pos
  pub state : ℕ

unfoldable pub after_sets : List ℕ → List ℕ → Window → List PlacedSet → List ℕ
after_sets records words w [] = words
after_sets records words w (q ∷ qs) = after_sets records (after_set records words w q.at q.state) w qs
