-- Collection into lent numbers, box by box. Assumes nothing.
use mathlib.Core.Path.{◌≡◌, refl, ◌∙◌}
use mathlib.Core.Bool.{Bool, true, false}
use mathlib.Core.List.{List, []}
use Prim.Native.Nat.{ℕ, ◌+◌, ◌*◌, ◌≤◌, ◌<◌}
use native.Mathlib.Omega.{arith}
use lib.Dec.{ltb}
use lib.ListN.{length}
use lib.Ieee.{Float}
use borrow.Author.Tests.{lt-ltb, le-ltb}
use Rattle.base.specs.Choose.{choose}
use Rattle.base.specs.Loop.{listed}
use Rattle.base.specs.Ask.{Ask, refused, found, next}
use Rattle.base.proofs.Listed.{listed-length}
use Rattle.base.proofs.Stored.{stored-length}
use Rattle.boxes.specs.declared.Aabb.{Aabb}
use Rattle.boxes.specs.Boxes.{overlap}
use Rattle.window.specs.declared.Pos.{Pos}
use Rattle.window.specs.declared.Window.{Window}
use Rattle.window.specs.Look.{Block}
use Rattle.ranges.specs.declared.Range.{Range}
use Rattle.passing.specs.Passing.{Reached, reach_in, lines_by, passes}
use Rattle.lent_boxes.specs.Boxes.{box_of, boxes_in, lent_count, six_of, put_in}
use Rattle.lent_boxes.proofs.Put.{was-put, one_more}
use Rattle.collection.specs.Collect.{offer, push}
use Rattle.collection.specs.Past.{collect_in_past}
use Rattle.collection.specs.Answers.{held_asked}
use Rattle.collection.proofs.Collects.{all_past, was-collected}

-- ---- the lines of a layer, as the program has them
module _ (words : List ℕ) (w : Window) (r : Range) (k : Reached) (y lines x : ℕ) (e : k ≡ reach_in words w r) (f : lines ≡ lines_by words w r k y) where
  come-to : lines ≡ choose (passes words w r y) 0 r.x.count
  come-to = rw e at f

  pub on-the-way : x < lines → x < choose (passes words w r y) 0 r.x.count
  on-the-way h = rw come-to at h

  pub at-the-end : lines ≤ x → choose (passes words w r y) 0 r.x.count ≤ x
  at-the-end h = rw come-to at h

-- ---- boxes in place: so many numbers are lent, room for as many boxes as the cap, and so many boxes are there
pub record Space (whole cap : ℕ) (l : List Float) (count : ℕ) : Type 0 where
  pub long : length l ≡ whole
  pub wide : cap * 6 ≤ whole
  pub counts : count ≤ cap

-- into an inner loop, and out of it again
pub into : {whole cap : ℕ} {l : List Float} {i : ℕ} → Space whole cap l i → Space (length l) cap l i
into h = let e = h.long in let w = h.wide in record { long = refl; wide = omega arith; counts = h.counts }

pub out : {whole cap : ℕ} {l m : List Float} {i j : ℕ} → Space whole cap l i → Space (length l) cap m j → Space whole cap m j
out h k = record { long = k.long ∙ h.long; wide = h.wide; counts = k.counts }

module _ (whole cap : ℕ) (area b : Aabb) (l m : List Float) (i j : ℕ) (has : Space whole cap l i) where
  -- one box more
  pub put : m ≡ put_in l i b → j ≡ i + 1 → i < cap → overlap b area ≡ true → Space whole cap m j × (offer (push cap) area b (boxes_in l i) ≡ found (next (boxes_in m j)))
  unfolding choose
  put e f h o =
      let s = has.long in
      let w = has.wide in
      let n = listed-length (box_of l) i 0 in
      let t : ltb (length (boxes_in l i)) cap ≡ true = lt-ltb (length (boxes_in l i)) cap (omega arith) in
      let there : i < lent_count l = omega arith in
      rw (e, was-put l i b there, f) (record { long = stored-length l (i * 6) (six_of b) ∙ s; wide = w; counts = omega arith }, rw (o, t, one_more l i b there))

  -- a box that does not overlap
  pub left : m ≡ l → j ≡ i → overlap b area ≡ false → Space whole cap m j × (offer (push cap) area b (boxes_in l i) ≡ found (next (boxes_in m j)))
  unfolding choose
  left e f o = rw (e, f) (has, rw o)

pub over-full : (cap : ℕ) (area b : Aabb) (l : List Float) (i : ℕ) → cap ≤ i → overlap b area ≡ true → offer (push cap) area b (boxes_in l i) ≡ refused 6
unfolding choose
over-full cap area b l i h o =
    let n = listed-length (box_of l) i 0 in
    let t : ltb (length (boxes_in l i)) cap ≡ false = le-ltb (length (boxes_in l i)) cap (omega arith) in
    rw (o, t)

-- none at first
pub no-box : (l : List Float) → boxes_in l 0 ≡ []
unfolding listed
no-box l = refl

-- ---- the answers
module _ (over : ℕ → Bool) (cap : ℕ) (look : Pos → Ask Block) (records : List ℕ) (shapes : List Float) (area : Aabb) (r : Range) (l : List Float) where
  pub lent-collected : (i : ℕ) → found (next (boxes_in l i)) ≡ all_past (push cap) look records shapes area r over [] → record { refusal = 0; count = i; boxes = boxes_in l i } ≡ held_asked (collect_in_past over cap look records shapes area r)
  lent-collected i h = rw (was-collected over cap look records shapes area r (boxes_in l i) h, listed-length (box_of l) i 0)
