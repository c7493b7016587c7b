-- What is known of contents that pass 1 to 4. Assumes nothing.
use mathlib.Core.Bool.{true, ◌&&◌}
use mathlib.Core.List.{List}
use mathlib.Core.Path.{◌≡◌}
use Prim.Native.Nat.{ℕ, ◌+◌, ◌*◌, ◌%◌, ◌≤◌}
use native.Mathlib.Omega.{arith}
use lib.Dec.{eqb, leb}
use lib.Ieee.{Float}
use lib.ListN.{length}
use borrow.Author.Tests.{eqb-true, leb-true}
use Rattle.base.specs.Choose.{choose}
use Rattle.base.specs.Every.{every}
use Rattle.base.proofs.Every.{both}
use Rattle.cover.specs.Cover.{box_count}
use Rattle.table_check.specs.Check.{state_count, table_counts_fit, record_fits, box_fits, tables_fit, table_refusal}
use Rattle.window.specs.declared.Window.{Window}
use Rattle.window.specs.Window.{cell_count, column_count, sizes_fit, origin_fits, heights_fit, columns_fit, window_fits, window_refusal}
use Rattle.lent.specs.Lent.{lent_refusal}
use Rattle.bodies.specs.Numbers.{lengths_fit}
use Rattle.bodies.specs.Limits.{numbers_are_fit, motion_fits, number_refusal}
use Rattle.bodies.specs.Lent.{motion_at, body_at, rules_at, body_refusal}
use Rattle.files.specs.Contents.{Contents}
use Rattle.writer.specs.Written.{contents_refusal, refusal_of_contents}
use Rattle.writer.proofs.Refusals.{neither, held}

-- ---- the tables, the window and the body

record Tables (records : List ℕ) (shapes : List Float) : Type 0 where
  states-least : 1 ≤ state_count records
  states-most : state_count records ≤ 4096
  boxes-most : box_count shapes ≤ 16384
  records-whole : length records ≡ state_count records * 20
  shapes-whole : length shapes ≡ box_count shapes * 6
  boxes-fit : every (box_count shapes) (box_fits shapes) ≡ true

tables : (records : List ℕ) (shapes : List Float) → table_refusal records shapes ≡ 0 → Tables records shapes
unfolding tables_fit table_counts_fit
tables records shapes h =
    let t = (held (tables_fit records shapes) 0 0 h).test in
    let a = eqb (length records % 20) 0 in
    let b = eqb (length shapes % 6) 0 in
    let c = leb 1 (state_count records) in
    let d = leb (state_count records) 4096 in
    let e = leb (box_count shapes) 16384 in
    let p = every (state_count records) (record_fits records shapes) in
    let q = every (box_count shapes) (box_fits shapes) in
    let t₁ = both (a && b && c && d && e && p) q t in
    let t₂ = both (a && b && c && d && e) p t₁.one in
    let t₃ = both (a && b && c && d) e t₂.one in
    let t₄ = both (a && b && c) d t₃.one in
    let t₅ = both (a && b) c t₄.one in
    let t₆ = both a b t₅.one in
    let r = eqb-true (length records % 20) 0 t₆.one in
    let s = eqb-true (length shapes % 6) 0 t₆.two in
    record {
      states-least = leb-true _ _ t₅.two;
      states-most = leb-true _ _ t₄.two;
      boxes-most = leb-true _ _ t₃.two;
      records-whole = omega arith;
      shapes-whole = omega arith;
      boxes-fit = t₁.two;
    }

record Place (cells : List ℕ) (w : Window) : Type 0 where
  sizes : sizes_fit w.sizes ≡ true
  cells_whole : length cells ≡ cell_count w.sizes + column_count w.sizes

place : (cells : List ℕ) (w : Window) → window_refusal cells w ≡ 0 → Place cells w
unfolding window_refusal window_fits
place cells w h =
    let t = (held (window_fits cells w) 0 1 h).test in
    let a = sizes_fit w.sizes in
    let b = origin_fits w.origin in
    let c = heights_fit w.lowest w.highest in
    let d = eqb (length cells) (cell_count w.sizes + column_count w.sizes) in
    let e = columns_fit cells (cell_count w.sizes) (column_count w.sizes) in
    let t₁ = both (a && b && c && d) e t in
    let t₂ = both (a && b && c) d t₁.one in
    let t₃ = both (a && b) c t₂.one in
    record { sizes = (both a b t₃.one).one; cells_whole = eqb-true _ _ t₂.two }

record Body (records : List ℕ) (numbers : List Float) (words : List ℕ) : Type 0 where
  numbers-whole : length numbers ≡ 19
  words-whole : length words ≡ 7
  numbers_fit : numbers_are_fit records (rules_at numbers words) (body_at numbers words) (motion_at numbers words).on_ground ≡ true
  motion-fits : motion_fits (motion_at numbers words).feet (motion_at numbers words).velocity ≡ true

body : (records : List ℕ) (numbers : List Float) (words : List ℕ) → body_refusal records numbers words ≡ 0 → Body records numbers words
unfolding body_refusal lengths_fit number_refusal
body records numbers words h =
    let l = held (lengths_fit numbers words) (number_refusal records (rules_at numbers words) (body_at numbers words) (motion_at numbers words)) 2 h in
    let t = both (eqb (length numbers) 19) (eqb (length words) 7) l.test in
    let n = held (numbers_are_fit records (rules_at numbers words) (body_at numbers words) (motion_at numbers words).on_ground)
    (choose (motion_fits (motion_at numbers words).feet (motion_at numbers words).velocity) 0 4) 2 l.rest in
    record {
      numbers-whole = eqb-true _ _ t.one;
      words-whole = eqb-true _ _ t.two;
      numbers_fit = n.test;
      motion-fits = (held (motion_fits (motion_at numbers words).feet (motion_at numbers words).velocity) 0 3 n.rest).test;
    }

-- ---- all of it

pub record Passed (c : Contents) : Type 0 where
  pub states-least : 1 ≤ state_count c.records
  pub states-most : state_count c.records ≤ 4096
  pub boxes-most : box_count c.shapes ≤ 16384
  pub records-whole : length c.records ≡ state_count c.records * 20
  pub shapes-whole : length c.shapes ≡ box_count c.shapes * 6
  pub boxes-fit : every (box_count c.shapes) (box_fits c.shapes) ≡ true
  pub sizes : sizes_fit c.window.sizes ≡ true
  pub cells_whole : length c.cells ≡ cell_count c.window.sizes + column_count c.window.sizes
  pub numbers-whole : length c.numbers ≡ 19
  pub words-whole : length c.words ≡ 7
  pub numbers_fit : numbers_are_fit c.records (rules_at c.numbers c.words) (body_at c.numbers c.words) (motion_at c.numbers c.words).on_ground ≡ true
  pub motion-fits : motion_fits (motion_at c.numbers c.words).feet (motion_at c.numbers c.words).velocity ≡ true

pub passed : (c : Contents) → refusal_of_contents c ≡ 0 → Passed c
unfolding contents_refusal lent_refusal
passed c h =
    let n = neither (lent_refusal c.records c.shapes c.cells c.window) (body_refusal c.records c.numbers c.words) h in
    let l = neither (table_refusal c.records c.shapes) (window_refusal c.cells c.window) n.first in
    let t = tables c.records c.shapes l.first in
    let p = place c.cells c.window l.second in
    let b = body c.records c.numbers c.words n.second in
    record {
      states-least = t.states-least;
      states-most = t.states-most;
      boxes-most = t.boxes-most;
      records-whole = t.records-whole;
      shapes-whole = t.shapes-whole;
      boxes-fit = t.boxes-fit;
      sizes = p.sizes;
      cells_whole = p.cells_whole;
      numbers-whole = b.numbers-whole;
      words-whole = b.words-whole;
      numbers_fit = b.numbers_fit;
      motion-fits = b.motion-fits;
    }
