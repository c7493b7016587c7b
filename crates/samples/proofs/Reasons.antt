-- What is told of a cell: air of the air state, also where the look-up reads it from the void; unloaded of a column that is not loaded, at every
-- height; unregistered of a state that is neither the air state nor registered. Assumes nothing.
use mathlib.Core.Path.{◌≡◌, refl}
use mathlib.Core.Bool.{true, false}
use mathlib.Core.List.{List}
use Prim.Native.Nat.{ℕ}
use lib.Dec.{eqb}
use lib.ListN.{get_or}
use borrow.Author.Tests.{eq-eqb}
use Rattle.base.specs.Choose.{choose}
use Rattle.base.specs.Ask.{Ask, found}
use Rattle.tables.specs.Tables.{is_registered}
use Rattle.window.specs.declared.Pos.{Pos}
use Rattle.window.specs.declared.Window.{Window}
use Rattle.window.specs.Look.{Block, none, some, look_at}
use Rattle.window.specs.Window.{column_inside, is_void, column_index_of, window_fits}
use Rattle.window.proofs.Cells.{column-unloaded, void-is-air}
use Rattle.drags.specs.declared.Sample.TheVariants.{Air, Unloaded, Unregistered}
use Rattle.samples.specs.Samples.{sample_of_state, sampled}

module _ (records : List ℕ) (air : ℕ) where
  pub air-told : (asked : Ask Block) → asked ≡ found (some air) → sampled records air asked ≡ found Air
  unfolding sampled sample_of_state choose
  air-told asked e = rw (e, eq-eqb air air refl)

  pub unloaded-told : (asked : Ask Block) → asked ≡ found none → sampled records air asked ≡ found Unloaded
  unfolding sampled
  unloaded-told asked e = rw e

  pub unregistered-told : (asked : Ask Block) (id : ℕ) → asked ≡ found (some id) → eqb id air ≡ false → is_registered records id ≡ false → sampled records air asked ≡ found Unregistered
  unfolding sampled sample_of_state choose
  unregistered-told asked id e a r = rw (e, a, r)

-- over a window that passes its check
module _ (records words : List ℕ) (w : Window) (p : Pos) (f : window_fits words w ≡ true) (c : column_inside w p ≡ true) where
  pub void-told : eqb (get_or words (column_index_of w p) 0) 0 ≡ false → is_void w p ≡ true → sampled records w.air (look_at words w p) ≡ found Air
  void-told l v = air-told records w.air _ (void-is-air words w p f c l v)

  pub column-told : eqb (get_or words (column_index_of w p) 0) 0 ≡ true → sampled records w.air (look_at words w p) ≡ found Unloaded
  column-told u = unloaded-told records w.air _ (column-unloaded words w p f c u)
