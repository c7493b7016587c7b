-- Collection that passes over layers: as `Collect` has it, but a layer of which `over` says yes is not come to.
use Rattle.std.specs.Prelude.{Bool, false, List, [], ℕ, Float}
use Rattle.base.specs.Choose.{choose}
use Rattle.base.specs.Ask.{Ask, found, ◌>>=◌, Turn, next, turning}
use Rattle.boxes.specs.declared.Aabb.{Aabb}
use Rattle.window.specs.declared.Pos.{Pos}
use Rattle.window.specs.Look.{Block}
use Rattle.ranges.specs.declared.Range.{Range}
use Rattle.ranges.specs.Walk.{layer}
use Rattle.collection.specs.Collect.{visit, range_of, push, pushed}

-- `over` says of each layer of the range whether it is passed over
module _ {S R : Type 0} (over : ℕ → Bool) (f : Pos → S → Ask (Turn S R)) (r : Range) where
  unfoldable pub layer_past : ℕ → S → Ask (Turn S R)
  layer_past y s = choose (over y) (found (next s)) (layer f r y s)

  unfoldable pub walk_past : S → Ask (Turn S R)
  walk_past = turning layer_past r.y.count 0

-- over no layer
abbrev pub none : ℕ → Bool
none y = false

-- from the cells of a range
abbrev pub collect_in_past : (ℕ → Bool) → ℕ → (Pos → Ask Block) → List ℕ → List Float → Aabb → Range → Ask (List Aabb)
collect_in_past over cap look records shapes area r = do
  t ← walk_past over (visit (push cap) area look records shapes) r []
  found (pushed t)

-- here `over` says it of each layer of any range
unfoldable pub collect_past : (Range → ℕ → Bool) → ℕ → (Pos → Ask Block) → List ℕ → List Float → Aabb → Ask (List Aabb)
collect_past over cap look records shapes area = collect_in_past (over (range_of area)) cap look records shapes area (range_of area)
