-- The lines of a layer are those of every layer that lies in the same groups, so that what `stretch_at` hands on tells the truth wherever what it was
-- handed did. Assumes nothing.
use mathlib.Core.Path.{◌≡◌, refl, sym, ap, ◌∙◌}
use mathlib.Core.Bool.{Bool, true, false}
use mathlib.Core.List.{List}
use Prim.Native.Nat.{ℕ, ◌+◌, ◌*◌, ◌-◌, ◌/◌, ◌%◌, ◌<◌, min}
use native.Mathlib.Omega.{arith}
use lib.Dec.{ltb}
use borrow.Author.Tests.{lt-ltb, ltb-true}
use Rattle.base.specs.Choose.{choose}
use Rattle.base.specs.Every.{every}
use Rattle.window.specs.declared.Window.{Window}
use Rattle.ranges.specs.declared.Range.{Range}
use Rattle.passing.specs.declared.Stretch.{Stretch}
use Rattle.passing.specs.Passing.{Reached, row_marked, all_marked, height_of, passes_by, lines_by, stretch_end, stretch_at, Tells}
use Rattle.passing.proofs.Spans.{on-from}

module _ (words : List ℕ) (w : Window) (r : Range) (k : Reached) where
  abbrev up : ℕ → ℕ
  up y = height_of w r y

  marked-alike : (a b : ℕ) → a / 4 ≡ b / 4 → all_marked words k a ≡ all_marked words k b
  unfolding all_marked
  marked-alike a b e = ap (λ (g : ℕ). every k.deep (λ j. row_marked words (k.before + k.x + (g * k.layer + k.z + j) * k.row) k.across)) e

  same : (y z : ℕ) → up y < w.sizes.y → up z < w.sizes.y → up y / 4 ≡ up z / 4 → lines_by words w r k y ≡ lines_by words w r k z
  unfolding passes_by
  same y z hy hz e = rw (lt-ltb (up y) w.sizes.y hy, lt-ltb (up z) w.sizes.y hz, marked-alike (up y) (up z) e)

  all_lines : (y : ℕ) → k.on ≡ false → lines_by words w r k y ≡ r.x.count
  unfolding passes_by choose
  all_lines y e = rw e

  -- nothing is known yet
  pub not-asked : (s : Stretch) (y : ℕ) → s.until ≡ 0 → Tells words w r k s y
  not-asked s y e = record { tells = λ z a b. absurd (omega arith) }

  -- what is known of a layer and those after it is known of those after it
  pub later : (s : Stretch) (y : ℕ) → Tells words w r k s y → Tells words w r k s (y + 1)
  later s y t = record { tells = λ z a b. t.tells z (omega arith) b }

  -- what the groups of a layer say is so up to where they end
  asked : (y : ℕ) → Tells words w r k record { until = stretch_end w r k y; lines = lines_by words w r k y } y
  unfolding choose
  asked y = go k.on (ltb (up y) w.sizes.y) refl refl
    where
      go : (s t : Bool) → k.on ≡ s → ltb (up y) w.sizes.y ≡ t
          → Tells words w r k record { until = choose s (choose t (y + min (4 - up y % 4) (w.sizes.y - up y)) 0) 4294967296; lines = lines_by words w r k y } y
      go false t e f = record { tells = λ z a b. all_lines y e ∙ sym (all_lines z e) }
      go true false e f = record { tells = λ z a b. absurd (omega arith) }
      go true true e f =
          record {
            tells = λ z a b.
                let h = ltb-true (up y) w.sizes.y f in
                let o = on-from w.origin.y w.sizes.y r.y.first y z a (omega arith) in
                let low = o.0 in
                let high = o.1 in
                same y z (omega arith) (omega arith) (omega arith);
          }

  module _ (last s : Stretch) (y : ℕ) (e : s ≡ stretch_at words w r k y last) (known : Tells words w r k last y) where
    -- what is handed on is true where what was handed in is
    pub handed-on : Tells words w r k s y
    unfolding stretch_at choose
    handed-on = rw e (go (ltb y last.until))
      where
        go : (t : Bool) → Tells words w r k (choose t last record { until = stretch_end w r k y; lines = lines_by words w r k y }) y
        go true = known
        go false = asked y

    -- and has the lines of the layer itself
    pub its-lines : s.lines ≡ lines_by words w r k y
    unfolding stretch_at choose
    its-lines = rw e (go (ltb y last.until) refl)
      where
        go : (t : Bool) → ltb y last.until ≡ t → (choose t last record { until = stretch_end w r k y; lines = lines_by words w r k y }).lines ≡ lines_by words w r k y
        go true f = known.tells y (omega arith) (ltb-true y last.until f)
        go false f = refl
