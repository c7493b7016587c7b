-- Collection with a summary equals plain collection, in its boxes, their order and its refusals. A layer that is passed over
-- lies in the window, and plain collection asks there for each cell alone, finds it, and adds nothing. Assumes nothing.
use mathlib.Core.Path.{◌≡◌, refl, sym, ap, ◌∙◌}
use mathlib.Core.Bool.{Bool, true, false, ◌&&◌, false≢true}
use mathlib.Core.List.{List, []}
use Prim.Native.Nat.{ℕ, zero, suc, ◌+◌, ◌*◌, ◌/◌, ◌≤◌, ◌<◌}
use native.Mathlib.Omega.{arith}
use lib.Dec.{eqb, leb}
use lib.Ieee.{Float}
use lib.ListN.{length, take, drop}
use borrow.Author.Tests.{eqb-true}
use Rattle.base.specs.Choose.{choose}
use Rattle.base.specs.Loop.{listed}
use Rattle.base.specs.Ask.{Ask, refused, found, ◌>>=◌, Turn, next, turning}
use Rattle.base.proofs.Every.{both}
use Rattle.boxes.specs.declared.Aabb.{Aabb}
use Rattle.cover.specs.Cover.{box_count}
use Rattle.tables.specs.Tables.{word_at, is_registered, head_at, boxes_at}
use Rattle.window.specs.declared.Pos.{Pos}
use Rattle.window.specs.declared.Window.{Window}
use Rattle.window.specs.Look.{Block, none, some, look_at}
use Rattle.ranges.specs.declared.Range.{Range}
use Rattle.ranges.specs.Ranges.{place_at}
use Rattle.ranges.specs.Walk.{line, layer, walk}
use Rattle.solids.specs.Shapes.{boxes, aabbs_of, shape_of, cell_shape}
use Rattle.solids.proofs.Boxes.{head-registered, plain-shape}
use Rattle.collection.specs.Collect.{offer_all, visit, range_of, push, pushed, collect_block_boxes}
use Rattle.groups.specs.Groups.{is_empty_state, is_empty}
use Rattle.groups.specs.Summary.{words_before}
use Rattle.groups.proofs.Sets.{Kept}
use Rattle.passing.specs.Passing.{passes}
use Rattle.passing.proofs.Clear.{clear, never}
use Rattle.collection.specs.Past.{collect_past}
use Rattle.collection.proofs.Past.{idle-layer, collects}

-- ---- a state without boxes has none
no-boxes : (shapes : List Float) (first : ℕ) → boxes_at shapes first 0 ≡ []
unfolding boxes_at choose
no-boxes shapes first = go (leb (first + 0) (box_count shapes))
  where
    go : (t : Bool) → choose t (take (0 * 6) (drop (first * 6) shapes)) [] ≡ []
    go true = refl
    go false = refl

-- ---- an empty cell is found, and adds nothing
module _ {S : Type 0} (accept : Aabb → S → Ask (Turn S Bool)) (area : Aabb) (look : Pos → Ask Block) (records : List ℕ) (shapes : List Float) where
  empty-state : (p : Pos) (id : ℕ) → is_empty_state records id ≡ true → shape_of look records p (some id) ≡ found (boxes (word_at records id 7) 0)
  unfolding is_empty_state
  empty-state p id h =
      let a = both (is_registered records id && eqb (word_at records id 4) 0) (eqb (word_at records id 8) 0) h in
      let b = both (is_registered records id) (eqb (word_at records id 4) 0) a.one in
      let shape = plain-shape look records p id (head_at records id) refl (sym (head-registered records id (head_at records id) refl) ∙ b.one) (eqb-true (word_at records id 4) 0 b.two) in
      shape ∙ ap (λ (n : ℕ). found (boxes (word_at records id 7) n)) (eqb-true (word_at records id 8) 0 a.two)

  nothing-offered : (p : Pos) (s : S) (first : ℕ) → offer_all accept area (aabbs_of shapes p (boxes first 0)) s ≡ found (next s)
  unfolding offer_all listed
  nothing-offered p s first = rw (no-boxes shapes first)

  cell-adds-nothing : (p : Pos) (s : S) → is_empty records (look p) ≡ true → visit accept area look records shapes p s ≡ found (next s)
  unfolding visit cell_shape
  cell-adds-nothing p s h = go (look p) refl h
    where
      go : (b : Ask Block) → look p ≡ b → is_empty records b ≡ true → (look p >>= shape_of look records p >>= (λ shape. offer_all accept area (aabbs_of shapes p shape) s)) ≡ found (next s)
      go (refused n) e h = absurd (false≢true h)
      go (found none) e h = absurd (false≢true h)
      go (found (some id)) e h = rw (e, empty-state p id h) (nothing-offered p s (word_at records id 7))

-- ---- collection
module _ (words : List ℕ) (w : Window) (records : List ℕ) (shapes : List Float) where
  -- by a summary whose words are those built afresh
  pub collection-with : Kept records words w → (cap : ℕ) (area : Aabb) → collect_past (passes words w) cap (look_at words w) records shapes area ≡ collect_block_boxes cap (look_at words w) records shapes area
  collection-with kept cap area =
      collects (passes words w) cap (look_at words w) records shapes area
      (λ y e s. idle-layer (visit (push cap) area (look_at words w) records shapes) (range_of area) y
      (λ x z hx hz t. cell-adds-nothing (push cap) area (look_at words w) records shapes (place_at (range_of area) x y z) t (clear words w (range_of area) y e x z hx hz records kept)) s)

  -- and where the words of cells and columns stand alone
  pub collection-without : length words ≤ words_before w.sizes → (cap : ℕ) (area : Aabb) → collect_past (passes words w) cap (look_at words w) records shapes area ≡ collect_block_boxes cap (look_at words w) records shapes area
  collection-without short cap area =
      collects (passes words w) cap (look_at words w) records shapes area
      (λ y e s. idle-layer (visit (push cap) area (look_at words w) records shapes) (range_of area) y
      (λ x z hx hz t. absurd (never words w (range_of area) y e x z hx hz short)) s)
