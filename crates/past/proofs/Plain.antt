-- Behind the words of a window that passes its check none is lent: it has no summary. Assumes nothing.
use mathlib.Core.Path.{◌≡◌, refl, sym, ap, ◌∙◌}
use mathlib.Core.Bool.{Bool, true, false, ◌&&◌, true≢false}
use mathlib.Core.List.{List}
use Prim.Native.Nat.{ℕ, ◌+◌, ◌≤◌}
use native.Mathlib.Omega.{arith}
use lib.Dec.{eqb}
use lib.Ieee.{Float}
use lib.ListN.{length}
use borrow.Author.Tests.{eqb-true, eq-eqb}
use Rattle.base.specs.Choose.{choose}
use Rattle.base.proofs.Every.{both}
use Rattle.table_check.specs.Check.{table_refusal}
use Rattle.tables.specs.Tables.{is_registered}
use Rattle.window.specs.declared.Window.{Window}
use Rattle.window.specs.Window.{sizes_fit, origin_fits, heights_fit, columns_fit, cell_count, column_count, window_fits, window_refusal}
use Rattle.lent.specs.Lent.{lent_refusal, direct_refusal}
use Rattle.groups.specs.Summary.{words_before}

module _ (words : List ℕ) (w : Window) where
  fits : window_refusal words w ≡ 0 → window_fits words w ≡ true
  unfolding window_refusal choose
  fits h = go (window_fits words w) h
    where
      go : (t : Bool) → ◌≡◌ {A = ℕ} (choose t 0 2) 0 → t ≡ true
      go true h = refl
      go false h = absurd (omega arith)

  -- as many words as cells and columns
  pub window-whole : window_refusal words w ≡ 0 → length words ≡ words_before w.sizes
  unfolding window_fits
  window-whole h =
      let n = cell_count w.sizes + column_count w.sizes in
      let a = both (sizes_fit w.sizes && origin_fits w.origin && heights_fit w.lowest w.highest && eqb (length words) n) (columns_fit words (cell_count w.sizes) (column_count w.sizes)) (fits h) in
      let b = both (sizes_fit w.sizes && origin_fits w.origin && heights_fit w.lowest w.highest) (eqb (length words) n) a.one in
      eqb-true (length words) n b.two

module _ (records : List ℕ) (shapes : List Float) (words : List ℕ) (w : Window) where
  window-passes : lent_refusal records shapes words w ≡ 0 → window_refusal words w ≡ 0
  unfolding lent_refusal choose
  window-passes h = go (eqb (table_refusal records shapes) 0) refl h
    where
      go : (t : Bool) → eqb (table_refusal records shapes) 0 ≡ t → choose t (window_refusal words w) (table_refusal records shapes) ≡ 0 → window_refusal words w ≡ 0
      go true e h = h
      go false e h = absurd (true≢false (sym (eq-eqb (table_refusal records shapes) 0 h) ∙ e))

  pub lent-short : lent_refusal records shapes words w ≡ 0 → length words ≤ words_before w.sizes
  lent-short h = let e = window-whole words w (window-passes h) in omega arith

  lent-passes : direct_refusal records shapes words w ≡ 0 → lent_refusal records shapes words w ≡ 0
  unfolding direct_refusal choose
  lent-passes h = go (eqb (lent_refusal records shapes words w) 0) refl h
    where
      go : (t : Bool) → eqb (lent_refusal records shapes words w) 0 ≡ t → choose t (choose (is_registered records w.air) 0 3) (lent_refusal records shapes words w) ≡ 0 → lent_refusal records shapes words w ≡ 0
      go true e h = eqb-true (lent_refusal records shapes words w) 0 e
      go false e h = h

  pub direct-short : direct_refusal records shapes words w ≡ 0 → length words ≤ words_before w.sizes
  direct-short h = lent-short (lent-passes h)
