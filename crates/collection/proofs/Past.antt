-- Passing over layers that add nothing leaves collection as it is; and so it is of a range that was trimmed. Assumes nothing.
use mathlib.Core.Path.{◌≡◌, refl, sym, ap, ◌∙◌}
use mathlib.Core.Bool.{Bool, true, false, false≢true}
use mathlib.Core.Logic.{◌⊎◌, inl, inr}
use mathlib.Core.List.{List, []}
use Prim.Native.Nat.{ℕ, zero, suc, ◌+◌, ◌≤◌, ◌<◌}
use native.Mathlib.Omega.{arith}
use lib.Dec.{eqb}
use lib.Ieee.{Float}
use borrow.Author.Tests.{eqb-true}
use Rattle.base.specs.Choose.{choose}
use Rattle.base.specs.Ask.{Ask, found, Turn, next, turning}
use Rattle.boxes.specs.declared.Aabb.{Aabb}
use Rattle.window.specs.declared.Pos.{Pos}
use Rattle.window.specs.Look.{Block}
use Rattle.ranges.specs.declared.Range.{Range}
use Rattle.ranges.specs.Ranges.{place_at, no_cells, trimmed}
use Rattle.ranges.specs.Walk.{line, layer, walk}
use Rattle.collection.specs.Collect.{visit, range_of, push, collect_block_boxes}
use Rattle.collection.specs.Past.{none, layer_past, walk_past, collect_in_past, collect_past}

-- ---- a loop whose turns all go on with what they are given
pub idle : {S R : Type 0} (f : ℕ → S → Ask (Turn S R)) (n i : ℕ) → ((j : ℕ) → i ≤ j → j < i + n → (s : S) → f j s ≡ found (next s)) → (s : S) → turning f n i s ≡ found (next s)
unfolding turning
idle f zero i h s = refl
idle f (suc n) i h s = rw (h i (omega arith) (omega arith) s) (idle f n (i + 1) (λ j a b. h j (omega arith) (omega arith)) s)

pub idle-layer : {S R : Type 0} (f : Pos → S → Ask (Turn S R)) (r : Range) (y : ℕ) → ((x z : ℕ) → x < r.x.count → z < r.z.count → (s : S) → f (place_at r x y z) s ≡ found (next s)) → (s : S) → layer f r y s ≡ found (next s)
unfolding layer line
idle-layer f r y h s =
    idle (line f r y) r.x.count 0
    (λ x a b t. idle (λ z. f (place_at r x y z)) r.z.count 0 (λ z c d u. h x z (omega arith) (omega arith) u) t) s

-- ---- passing over layers that add nothing
pub walks : {S R : Type 0} (over : ℕ → Bool) (f : Pos → S → Ask (Turn S R)) (r : Range) → ((y : ℕ) → over y ≡ true → (s : S) → layer f r y s ≡ found (next s)) → (s : S) → walk_past over f r s ≡ walk f r s
unfolding walk_past walk layer_past choose
walks {S} {R} over f r h s = ap (λ (g : ℕ → S → Ask (Turn S R)). turning g r.y.count 0 s) (λ i y t. same y t (over y) refl i)
  where
    same : (y : ℕ) (t : S) (b : Bool) → over y ≡ b → choose (over y) (found (next t)) (layer f r y t) ≡ layer f r y t
    same y t true e = rw e (sym (h y e t))
    same y t false e = rw e

pub collects : (over : Range → ℕ → Bool) (cap : ℕ) (look : Pos → Ask Block) (records : List ℕ) (shapes : List Float) (area : Aabb)
    → ((y : ℕ) → over (range_of area) y ≡ true → (s : List Aabb) → layer (visit (push cap) area look records shapes) (range_of area) y s ≡ found (next s))
    → collect_past over cap look records shapes area ≡ collect_block_boxes cap look records shapes area
unfolding collect_past collect_block_boxes
collects over cap look records shapes area h = rw (walks (over (range_of area)) (visit (push cap) area look records shapes) (range_of area) h [])

-- ---- a range that was trimmed
module _ {S R : Type 0} (over : Range → ℕ → Bool) (f : Pos → S → Ask (Turn S R)) (r : Range) where
  empty-layer : (r.x.count ≡ 0) ⊎ (r.z.count ≡ 0) → (y : ℕ) (s : S) → layer f r y s ≡ found (next s)
  empty-layer (inl e) y s = idle-layer f r y (λ x z a b t. absurd (omega arith)) s
  empty-layer (inr e) y s = idle-layer f r y (λ x z a b t. absurd (omega arith)) s

  empty-walk : (r.x.count ≡ 0) ⊎ (r.z.count ≡ 0) → (s : S) → walk_past (over r) f r s ≡ found (next s)
  unfolding walk_past layer_past choose
  empty-walk e s = idle (layer_past (over r) f r) r.y.count 0 (λ y a b t. either (over r y) y t) s
    where
      either : (b : Bool) (y : ℕ) (t : S) → choose b (found (next t)) (layer f r y t) ≡ found (next t)
      either true y t = refl
      either false y t = empty-layer e y t

  pub past-trimmed : (s : S) → walk_past (over (trimmed r)) f (trimmed r) s ≡ walk_past (over r) f r s
  unfolding trimmed choose walk_past turning
  past-trimmed s = go (eqb r.x.count 0) (eqb r.z.count 0) refl refl
    where
      go : (p q : Bool) → eqb r.x.count 0 ≡ p → eqb r.z.count 0 ≡ q
          → walk_past (over (choose p no_cells (choose q no_cells r))) f (choose p no_cells (choose q no_cells r)) s ≡ walk_past (over r) f r s
      go true q ep eq = sym (empty-walk (inl (eqb-true r.x.count 0 ep)) s)
      go false true ep eq = sym (empty-walk (inr (eqb-true r.z.count 0 eq)) s)
      go false false ep eq = refl

-- for the range of the area, as `range_of` answers it
pub in-range : (over : Range → ℕ → Bool) (cap : ℕ) (look : Pos → Ask Block) (records : List ℕ) (shapes : List Float) (area : Aabb) (r : Range) → r ≡ trimmed (range_of area)
    → collect_in_past (over r) cap look records shapes area r ≡ collect_past over cap look records shapes area
unfolding collect_past
in-range over cap look records shapes area r e = rw (e, past-trimmed over (visit (push cap) area look records shapes) (range_of area) [])

-- where no layer is passed over, it comes to all lines of each, and is plain collection
module _ (n x : ℕ) where
  pub all-on : x < n → x < choose false 0 n
  unfolding choose
  all-on h = h

  pub all_end : n ≤ x → choose false 0 n ≤ x
  unfolding choose
  all_end h = h

pub all-come-to : (cap : ℕ) (look : Pos → Ask Block) (records : List ℕ) (shapes : List Float) (area : Aabb) (r : Range) → r ≡ trimmed (range_of area)
    → collect_in_past none cap look records shapes area r ≡ collect_block_boxes cap look records shapes area
all-come-to cap look records shapes area r f =
    in-range (λ q. none) cap look records shapes area r f ∙ collects (λ q. none) cap look records shapes area (λ y h s. absurd (false≢true h))
