-- Collection cell by cell and box by box, as the code does it, comes to `collect_in_past`. Assumes nothing.
use mathlib.Core.Path.{◌≡◌, refl, sym, ap, ◌∙◌}
use mathlib.Core.Bool.{Bool, true, false}
use mathlib.Core.List.{List, [], ◌∷◌, ◌++◌}
use Prim.Native.Nat.{ℕ, zero, suc, ◌+◌, ◌-◌, ◌≤◌, ◌<◌, min}
use native.Mathlib.Numerals.{add-one}
use native.Mathlib.Omega.{arith}
use lib.Dec.{ltb}
use lib.ListN.{length, take, set, length-set, length-replicate}
use lib.Seq.{take-suc-set, length-take-le}
use lib.Ieee.{Float}
use borrow.Author.Tests.{lt-ltb, le-ltb}
use Rattle.base.specs.Choose.{choose}
use Rattle.base.specs.Loop.{listed}
use Rattle.base.specs.Ask.{Ask, refused, found, ◌>>=◌, Turn, next, done, onward, turning}
use Rattle.boxes.specs.declared.Aabb.{Aabb}
use Rattle.sweeps.specs.declared.BoxList.{BoxList}
use Rattle.boxes.specs.Boxes.{overlap}
use Rattle.sweeps.specs.Lists.{room, list_of, empty_list, no_box, held}
use Rattle.window.specs.declared.Pos.{Pos}
use Rattle.window.specs.Look.{Block}
use Rattle.ranges.specs.declared.Range.{Range}
use Rattle.ranges.specs.Ranges.{place_at}
use Rattle.ranges.specs.Walk.{line, layer}
use Rattle.collection.specs.Collect.{cell_shape, offer, offer_all, visit, push}
use Rattle.collection.specs.Past.{layer_past, walk_past, collect_in_past}
use Rattle.solids.specs.declared.Shape.{Shape}
use Rattle.solids.specs.Parts.{shape_in, part_boxes, count_of, nth_aabb}
use Rattle.collection.specs.Answers.{held_asked}
use Rattle.solids.proofs.Boxes.{listed-all}

-- ---- one after the other
then-then : {S R : Type 0} (m : Ask (Turn S R)) (k l : S → Ask (Turn S R)) → ((m >>= onward k) >>= onward l) ≡ (m >>= onward (λ s. k s >>= onward l))
then-then (refused n) k l = refl
then-then (found (next a)) k l = refl
then-then (found (done b)) k l = refl

then-nothing : {S R : Type 0} (m : Ask (Turn S R)) → (m >>= onward (λ s. found (next s))) ≡ m
then-nothing (refused n) = refl
then-nothing (found (next a)) = refl
then-nothing (found (done b)) = refl

-- ---- a loop from turn i on, and what comes after it
module _ {S R : Type 0} (f : ℕ → S → Ask (Turn S R)) (n : ℕ) (after : S → Ask (Turn S R)) where
  unfoldable pub from : ℕ → S → Ask (Turn S R)
  from i s = turning f (n - i) i s >>= onward after

  from_start : (s : S) → from 0 s ≡ (turning f n 0 s >>= onward after)
  unfolding from
  from_start s = let z : n - 0 ≡ n = omega arith in rw z

  from-turn : (i : ℕ) (s : S) → i < n → from i s ≡ (f i s >>= onward (from (i + 1)))
  unfolding from turning
  from-turn i s h = let q : n - i ≡ suc (n - (i + 1)) = omega arith in rw q (then-then (f i s) (turning f (n - (i + 1)) (i + 1)) after)

  pub from_end : (i : ℕ) (s : S) → n ≤ i → from i s ≡ after s
  unfolding from turning
  from_end i s h = let q : n - i ≡ 0 = omega arith in rw q

-- ---- the boxes of a list are offered one by one
offers : {S : Type 0} (accept : Aabb → S → Ask (Turn S Bool)) (area : Aabb) (g : ℕ → Aabb) (n i : ℕ) (s : S) → offer_all accept area (listed g n i) s ≡ turning (λ k. offer accept area (g k)) n i s
unfolding listed offer_all turning
offers accept area g zero i s = refl
offers {S = S} accept area g (suc n) i s = ap (λ (k : S → Ask (Turn S Bool)). offer accept area (g i) s >>= onward k) (λ j a. offers accept area g n (i + 1) a j)

-- ---- the boxes of a cell from number k on, and what comes after the cell
module _ {S : Type 0} (accept : Aabb → S → Ask (Turn S Bool)) (area : Aabb) (after : S → Ask (Turn S Bool)) (g : ℕ → Aabb) (n k : ℕ) (s : S) where
  unfoldable pub boxes_from : Ask (Turn S Bool)
  boxes_from = from (λ j. offer accept area (g j)) n after k s

  pub boxes-end : n ≤ k → boxes_from ≡ after s
  unfolding boxes_from
  boxes-end h = from_end (λ j. offer accept area (g j)) n after k s h

-- a box, by what comes of it
module _ {S : Type 0} (accept : Aabb → S → Ask (Turn S Bool)) (area : Aabb) (after : S → Ask (Turn S Bool)) (g : ℕ → Aabb) (n k : ℕ) (s : S) (b : Aabb) (h : k < n) (e : b ≡ g k) where
  offered : (m : Ask (Turn S Bool)) → offer accept area b s ≡ m → boxes_from accept area after g n k s ≡ (m >>= onward (boxes_from accept area after g n (k + 1)))
  unfolding boxes_from
  offered m o =
      from-turn (λ j. offer accept area (g j)) n after k s h
      ∙ ap (λ (a : Ask (Turn S Bool)). a >>= onward (from (λ j. offer accept area (g j)) n after (k + 1))) (ap (λ (a : Aabb). offer accept area a s) (sym e) ∙ o)

  pub box-next : (a : S) → offer accept area b s ≡ found (next a) → boxes_from accept area after g n k s ≡ boxes_from accept area after g n (k + 1) a
  box-next a o = offered (found (next a)) o

  pub box-refused : (j : ℕ) → offer accept area b s ≡ refused j → boxes_from accept area after g n k s ≡ refused j
  box-refused j o = offered (refused j) o

module _ {S : Type 0} (accept : Aabb → S → Ask (Turn S Bool)) (look : Pos → Ask Block) (records : List ℕ) (shapes : List Float) (area : Aabb) where
  abbrev pub visiting : Pos → S → Ask (Turn S Bool)
  visiting = visit accept area look records shapes

  -- ---- a cell: `whole` is what is left from it on, and begins with it
  module _ (p : Pos) (after : S → Ask (Turn S Bool)) (s : S) (whole : Ask (Turn S Bool)) (turn : whole ≡ (visiting p s >>= onward after)) where
    pub cell-refused : (k : ℕ) → cell_shape look records p ≡ refused k → whole ≡ refused k
    unfolding visit
    cell-refused k e = turn ∙ (rw e)

    pub cell-begins : (q : Shape) (shape : List Float) (n : ℕ) → cell_shape look records p ≡ found (shape_in q) → shape ≡ part_boxes shapes q → n ≡ count_of q shape
        → whole ≡ boxes_from accept area after (nth_aabb q shape p) n 0 s
    unfolding visit boxes_from
    cell-begins q shape n e o m =
        let g = nth_aabb q shape p in
        turn
        ∙ (rw e
        (ap (λ (bs : List Aabb). offer_all accept area bs s >>= onward after) (listed-all shapes shape p q n o m)
        ∙ ap (λ (a : Ask (Turn S Bool)). a >>= onward after) (offers accept area g n 0 s)
        ∙ sym (from_start (λ k. offer accept area (g k)) n after s)))

  module _ (r : Range) where
    -- ---- what is left of a walk past layers, in each of the three loops: layers, the lines of a layer, the cells of a line. `over` says which
    -- layers are passed over: of such a layer no line is come to
    module _ (over : ℕ → Bool) where
      abbrev pub lines : ℕ → ℕ
      lines y = choose (over y) 0 r.x.count

      abbrev pub all_past : S → Ask (Turn S Bool)
      all_past = walk_past over visiting r

      unfoldable pub layers_from : ℕ → S → Ask (Turn S Bool)
      layers_from = from (layer_past over visiting r) r.y.count (λ s. found (next s))

      unfoldable pub lines_from : ℕ → ℕ → S → Ask (Turn S Bool)
      lines_from y = from (line visiting r y) (lines y) (layers_from (y + 1))

      unfoldable pub cells_from : ℕ → ℕ → ℕ → S → Ask (Turn S Bool)
      cells_from y x = from (λ z. visiting (place_at r x y z)) r.z.count (lines_from y (x + 1))

      -- begun
      pub walk_begins : (s : S) → layers_from 0 s ≡ all_past s
      unfolding layers_from walk_past
      walk_begins s = from_start (layer_past over visiting r) r.y.count (λ a. found (next a)) s ∙ then-nothing (turning (layer_past over visiting r) r.y.count 0 s)

      layer-lines : (y : ℕ) (s : S) → layer_past over visiting r y s ≡ turning (line visiting r y) (lines y) 0 s
      unfolding layer_past layer choose turning
      layer-lines y s = go (over y)
        where
          go : (t : Bool) → choose t (found (next s)) (layer visiting r y s) ≡ turning (line visiting r y) (choose t 0 r.x.count) 0 s
          go true = refl
          go false = refl

      pub layer-begins : (y : ℕ) (s : S) → y < r.y.count → layers_from y s ≡ lines_from y 0 s
      unfolding layers_from lines_from
      layer-begins y s h =
          from-turn (layer_past over visiting r) r.y.count (λ a. found (next a)) y s h
          ∙ ap (λ (m : Ask (Turn S Bool)). m >>= onward (layers_from (y + 1))) (layer-lines y s)
          ∙ sym (from_start (line visiting r y) (lines y) (layers_from (y + 1)) s)

      pub line-begins : (y x : ℕ) (s : S) → x < lines y → lines_from y x s ≡ cells_from y x 0 s
      unfolding lines_from cells_from line
      line-begins y x s h = from-turn (line visiting r y) (lines y) (layers_from (y + 1)) x s h ∙ sym (from_start (λ z. visiting (place_at r x y z)) r.z.count (lines_from y (x + 1)) s)

      pub cells-turn : (y x z : ℕ) (s : S) → z < r.z.count → (p : Pos) → p ≡ place_at r x y z → cells_from y x z s ≡ (visiting p s >>= onward (cells_from y x (z + 1)))
      unfolding cells_from
      cells-turn y x z s h p e = rw e (from-turn (λ k. visiting (place_at r x y k)) r.z.count (lines_from y (x + 1)) z s h)

      -- through
      pub cells-end : (y x z : ℕ) (s : S) → r.z.count ≤ z → cells_from y x z s ≡ lines_from y (x + 1) s
      unfolding cells_from
      cells-end y x z s h = from_end (λ k. visiting (place_at r x y k)) r.z.count (lines_from y (x + 1)) z s h

      pub lines_end : (y x : ℕ) (s : S) → lines y ≤ x → lines_from y x s ≡ layers_from (y + 1) s
      unfolding lines_from
      lines_end y x s h = from_end (line visiting r y) (lines y) (layers_from (y + 1)) x s h

      pub layers-end : (y : ℕ) (s : S) → r.y.count ≤ y → layers_from y s ≡ found (next s)
      unfolding layers_from
      layers-end y s h = from_end (layer_past over visiting r) r.y.count (λ a. found (next a)) y s h

-- ---- boxes in place: so much room, and so many of them count
pub record Room (most : ℕ) (bs : List Aabb) (count : ℕ) : Type 0 where
  pub whole : length bs ≡ most
  pub counts : count ≤ most

module _ (most cap : ℕ) (area b : Aabb) (bs cs : List Aabb) (i j : ℕ) (has : Room most bs i) where
  -- one box more
  pub kept : cs ≡ set bs i b → j ≡ i + 1 → i < most → i < cap → overlap b area ≡ true → Room most cs j × (offer (push cap) area b (take i bs) ≡ found (next (take j cs)))
  unfolding choose
  kept e f h g o =
      let w = has.whole in
      let n : length (take i bs) ≡ i = length-take-le i bs (omega arith) in
      let t : ltb (length (take i bs)) cap ≡ true = lt-ltb (length (take i bs)) cap (omega arith) in
      let l : i < length bs = omega arith in
      let s : take (i + 1) (set bs i b) ≡ take i bs ++ (b ∷ []) = rw (add-one, take-suc-set) in
      rw (e, f) (record { whole = length-set bs i b ∙ w; counts = omega arith }, rw (o, t, s))

  -- a box that does not overlap
  pub passed : cs ≡ bs → j ≡ i → overlap b area ≡ false → Room most cs j × (offer (push cap) area b (take i bs) ≡ found (next (take j cs)))
  unfolding choose
  passed e f o = rw (e, f) (has, rw o)

module _ (most : ℕ) (bs : List Aabb) (i : ℕ) (has : Room most bs i) where
  counted : length (take i bs) ≡ i
  counted = let w = has.whole in let c = has.counts in length-take-le i bs (omega arith)

  pub full : (cap : ℕ) (area b : Aabb) → cap ≤ i → overlap b area ≡ true → offer (push cap) area b (take i bs) ≡ refused 6
  unfolding choose
  full cap area b h o =
      let n = counted in
      let t : ltb (length (take i bs)) cap ≡ false = le-ltb (length (take i bs)) cap (omega arith) in
      rw (o, t)

  -- every box counts
  pub fully : i ≡ min i most
  fully = let c = has.counts in omega arith

pub empty-list : (l : BoxList) → l ≡ empty_list → Room room l.boxes l.count × (list_of l ≡ [])
unfolding empty_list
empty-list l e = rw e (record { whole = length-replicate room no_box; counts = omega arith }, refl)

-- ---- the answers
module _ (over : ℕ → Bool) (cap : ℕ) (look : Pos → Ask Block) (records : List ℕ) (shapes : List Float) (area : Aabb) (r : Range) where
  pub was-collected : (bs : List Aabb) → found (next bs) ≡ all_past (push cap) look records shapes area r over [] → collect_in_past over cap look records shapes area r ≡ found bs
  was-collected bs h = rw (← h)

  was-refused : (k : ℕ) → refused k ≡ all_past (push cap) look records shapes area r over [] → collect_in_past over cap look records shapes area r ≡ refused k
  was-refused k h = rw (← h)

  pub collected : (most : ℕ) (bs : List Aabb) (i : ℕ) → Room most bs i → found (next (take i bs)) ≡ all_past (push cap) look records shapes area r over [] → record { refusal = 0; count = i; boxes = take i bs } ≡ held_asked (collect_in_past over cap look records shapes area r)
  collected most bs i has h = rw (was-collected (take i bs) h, counted most bs i has)

  pub not-collected : (k : ℕ) → refused k ≡ all_past (push cap) look records shapes area r over [] → held k [] ≡ held_asked (collect_in_past over cap look records shapes area r)
  not-collected k h = rw (was-refused k h)
