-- Going through the cells of a range as the Rust's three loops do: for y, for x, for z. f is what happens at a cell: it may refuse, go on, or be done.
use Rattle.std.specs.Prelude.{ℕ}
use Rattle.base.specs.Ask.{Ask, Turn, turning}
use Rattle.window.specs.declared.Pos.{Pos}
use Rattle.ranges.specs.declared.Range.{Range}
use Rattle.ranges.specs.Ranges.{place_at}

module _ {S R : Type 0} (f : Pos → S → Ask (Turn S R)) (r : Range) where
  -- for z in ..
  unfoldable pub line : ℕ → ℕ → S → Ask (Turn S R)
  line y x = turning (λ z. f (place_at r x y z)) r.z.count 0

  -- for x in ..
  unfoldable pub layer : ℕ → S → Ask (Turn S R)
  layer y = turning (line y) r.x.count 0

  -- for y in ..
  unfoldable pub walk : S → Ask (Turn S R)
  walk = turning layer r.y.count 0
