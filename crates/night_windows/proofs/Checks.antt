-- The check of a window in a row, by what the program finds of it. Assumes nothing.
use mathlib.Core.Bool.{Bool, true, false}
use mathlib.Core.List.{List}
use mathlib.Core.Path.{◌≡◌, refl}
use Prim.Native.Nat.{ℕ, ◌+◌, ◌≤◌, ◌<◌}
use lib.ListN.{length}
use borrow.Author.Tests.{le-leb, lt-leb, eq-eqb, ne_eqb}
use Rattle.base.specs.Choose.{choose}
use Rattle.window.specs.declared.Window.{Window}
use Rattle.window.specs.Window.{window_fits, window_refusal}
use Rattle.night_rows.specs.declared.WindowRow.{WindowRow}
use Rattle.night_rows.specs.Rows.{row_of, window_width, window_at}
use Rattle.night_windows.specs.Windows.{cells_in, own_refusal, refusal_at}

module _ (records windows cells : List ℕ) (j : ℕ) (words : List ℕ) (e : words ≡ row_of window_width windows j) where
  pub no_row : (length words ≡ window_width → ⊥) → 2 ≡ refusal_at records windows cells j
  unfolding refusal_at choose
  no_row h = rw (← e, ne_eqb (length words) window_width h)

  module _ (whole : length words ≡ window_width) (row : WindowRow) (er : row ≡ window_at windows j) where
    pub no_words : length cells < row.first + row.count → 2 ≡ refusal_at records windows cells j
    unfolding refusal_at choose
    no_words h = rw (← e, eq-eqb (length words) window_width whole, ← er, lt-leb (row.first + row.count) (length cells) h)

    pub all_there : row.first + row.count ≤ length cells → (own : List ℕ) (r : ℕ) → own ≡ cells_in cells row → r ≡ own_refusal records own row.window → r ≡ refusal_at records windows cells j
    unfolding refusal_at choose
    all_there h own r eo ec =
        rw (← e, eq-eqb (length words) window_width whole, ← er, le-leb (row.first + row.count) (length cells) h, ← eo) ec

-- a window is refused by 2 alone
pub window_alone : (cells : List ℕ) (w : Window) → (window_refusal cells w ≡ 0 → ⊥) → window_refusal cells w ≡ 2
unfolding window_refusal choose
window_alone cells w = go (window_fits cells w)
  where
    go : (t : Bool) → (choose {A = ℕ} t 0 2 ≡ 0 → ⊥) → choose {A = ℕ} t 0 2 ≡ 2
    go true none = absurd (none refl)
    go false none = refl
