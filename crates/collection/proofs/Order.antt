-- What a collection that is not refused comes to: the list and its order (`collected-is`), that a box of a cell in the range that strictly overlaps
-- the area is in it (`is-collected`), and that every cell of the range was settled (`all_settled`), so that one outside the window is always
-- refused (`outside-refuses`). Assumes nothing.
use mathlib.Core.Path.{◌≡◌, refl, sym, ap, ◌∙◌, subst}
use mathlib.Core.Bool.{Bool, true, false}
use mathlib.Core.List.Memᴰ
use mathlib.Core.List.{List, [], ◌∷◌, ◌++◌, append_assoc, append-nil, Memᴰ}
use mathlib.Core.Logic.{◌⊎◌, inl, inr}
use Prim.Native.Nat.{ℕ, zero, suc, ◌+◌, ◌<◌}
use native.Mathlib.Omega.{arith}
use lib.Dec.{ltb}
use lib.ListN.{length}
use lib.Ieee.{Float}
use Rattle.base.specs.Choose.{choose}
use Rattle.base.specs.Loop.{appended}
use Rattle.base.specs.Ask.{Ask, refused, found, ◌>>=◌, Turn, next, done, onward, turning}
use Rattle.boxes.specs.declared.Aabb.{Aabb}
use Rattle.boxes.specs.Boxes.{overlap}
use Rattle.window.specs.declared.Pos.{Pos}
use Rattle.window.specs.declared.Window.{Window}
use Rattle.window.specs.Window.{column_inside}
use Rattle.window.specs.Look.{Block, look_at}
use Rattle.window.proofs.Cells.{outside-refused}
use Rattle.ranges.specs.declared.Range.{Range}
use Rattle.ranges.specs.Ranges.{place_at}
use Rattle.ranges.specs.Walk.{line, layer, walk}
use Rattle.collection.specs.Collect.{CellShape, aabbs_of, cell_shape, offer, offer_all, visit, push, pushed, range_of, collect_block_boxes}
use Rattle.collection.specs.Settled.{settled, settled_boxes, overlapping, all_in_order}

no : {A : Type 0} → ◌≡◌ {A = ℕ} 0 1 → A
no e = absurd (omega arith)

-- ---- what went on to the end went on at each turn
record Passed {S R : Type 0} (m : Ask (Turn S R)) (k : S → Ask (Turn S R)) (b : S) : Type 0 where
  at : S
  first : m ≡ found (next at)
  then : k at ≡ found (next b)

passed : {S R : Type 0} (m : Ask (Turn S R)) (k : S → Ask (Turn S R)) (b : S) → (m >>= onward k) ≡ found (next b) → Passed m k b
passed (refused j) k b e = no cc
passed (found (next a)) k b e = record { at = a; first = refl; then = e }
passed (found (done r)) k b e = no cc

-- ---- lists that grow by what each turn adds
module _ {A R : Type 0} where
  grows : (f : ℕ → List A → Ask (Turn (List A) R)) (g : ℕ → List A) → ((i : ℕ) (s t : List A) → f i s ≡ found (next t) → t ≡ s ++ g i)
      → (k i : ℕ) (s t : List A) → turning f k i s ≡ found (next t) → t ≡ s ++ appended g k i
  unfolding turning appended
  grows f g h zero i s t e = let q : t ≡ s = cc in q ∙ sym (append-nil s)
  grows f g h (suc k) i s t e =
      let p = passed (f i s) (turning f k (i + 1)) t e in
      grows f g h k (i + 1) p.at t p.then ∙ ap (λ (l : List A). l ++ appended g k (i + 1)) (h i s p.at p.first) ∙ append_assoc s (g i) (appended g k (i + 1))

  walk-grows : (f : Pos → List A → Ask (Turn (List A) R)) (g : Pos → List A) (r : Range) → ((p : Pos) (s t : List A) → f p s ≡ found (next t) → t ≡ s ++ g p)
      → (s t : List A) → walk f r s ≡ found (next t) → t ≡ s ++ all_in_order g r
  unfolding walk layer line all_in_order
  walk-grows f g r h =
      grows (layer f r) _ (λ y. grows (line f r y) _ (λ x. grows _ _ (λ z. h (place_at r x y z)) r.z.count 0) r.x.count 0) r.y.count 0

-- each turn of a loop was one that went on
record Went {S R : Type 0} (f : S → Ask (Turn S R)) : Type 0 where
  from : S
  to : S
  went : f from ≡ found (next to)

each : {S R : Type 0} (f : ℕ → S → Ask (Turn S R)) (k i j : ℕ) (s t : S) → j < k → turning f k i s ≡ found (next t) → Went (f (i + j))
unfolding turning
each f zero i j s t h e = absurd (omega arith)
each f (suc k) i zero s t h e = let p = passed (f i s) (turning f k (i + 1)) t e in let z : i + 0 ≡ i = omega arith in rw z record { from = s; to = p.at; went = p.first }
each f (suc k) i (suc j) s t h e =
    let p = passed (f i s) (turning f k (i + 1)) t e in
    let z : i + suc j ≡ i + 1 + j = omega arith in
    rw z (each f k (i + 1) j p.at t (omega arith) p.then)

each_of : {S R : Type 0} (f : ℕ → S → Ask (Turn S R)) (k j : ℕ) (s t : S) → j < k → turning f k 0 s ≡ found (next t) → Went (f j)
each_of f k j s t h e = let z : 0 + j ≡ j = omega arith in rw z at (each f k 0 j s t h e)

walk-each : {S R : Type 0} (f : Pos → S → Ask (Turn S R)) (r : Range) (x y z : ℕ) → x < r.x.count → y < r.y.count → z < r.z.count → (s t : S) → walk f r s ≡ found (next t) → Went (f (place_at r x y z))
unfolding walk layer line
walk-each f r x y z hx hy hz s t e =
    let a = each_of (layer f r) r.y.count y s t hy e in
    let b = each_of (line f r y) r.x.count x a.from a.to hx a.went in
    each_of (λ z. f (place_at r x y z)) r.z.count z b.from b.to hz b.went

-- ---- a loop whose turns are never done is never done
undone : {S R : Type 0} (m : Ask (Turn S R)) (k : S → Ask (Turn S R)) (b : R) → (m ≡ found (done b) → ⊥) → ((a : S) → k a ≡ found (done b) → ⊥) → (m >>= onward k) ≡ found (done b) → ⊥
undone (refused j) k b h g e = no cc
undone (found (next a)) k b h g e = g a e
undone (found (done r)) k b h g e = h e

loops-on : {S R : Type 0} (b : R) (f : ℕ → S → Ask (Turn S R)) → ((i : ℕ) (s : S) → f i s ≡ found (done b) → ⊥) → (k i : ℕ) (s : S) → turning f k i s ≡ found (done b) → ⊥
unfolding turning
loops-on b f h zero i s e = no cc
loops-on b f h (suc k) i s e = undone (f i s) (turning f k (i + 1)) b (h i s) (loops-on b f h k (i + 1)) e

walks-on : {S R : Type 0} (b : R) (f : Pos → S → Ask (Turn S R)) (r : Range) → ((p : Pos) (s : S) → f p s ≡ found (done b) → ⊥) → (s : S) → walk f r s ≡ found (done b) → ⊥
unfolding walk layer line
walks-on b f r h = loops-on b (layer f r) (λ y. loops-on b (line f r y) (λ x. loops-on b _ (λ z. h (place_at r x y z)) r.z.count 0) r.x.count 0) r.y.count 0

-- ---- what is in one of the lists is in all of them together
in-joined-at : {A : Type 0} (a : A) (g : ℕ → List A) (k i j : ℕ) → j < k → Memᴰ a (g (i + j)) → Memᴰ a (appended g k i)
unfolding appended
in-joined-at a g zero i j h m = absurd (omega arith)
in-joined-at a g (suc k) i zero h m = let z : i + 0 ≡ i = omega arith in Memᴰ.append_left (appended g k (i + 1)) (rw z at m)
in-joined-at a g (suc k) i (suc j) h m = let z : i + suc j ≡ i + 1 + j = omega arith in Memᴰ.append_right (g i) (in-joined-at a g k (i + 1) j (omega arith) (rw z at m))

in-joined : {A : Type 0} (a : A) (g : ℕ → List A) (k j : ℕ) → j < k → Memᴰ a (g j) → Memᴰ a (appended g k 0)
in-joined a g k j h m = let z : j ≡ 0 + j = omega arith in in-joined-at a g k 0 j h (rw z at m)

in-overlapping : (area b : Aabb) (bs : List Aabb) → Memᴰ b bs → overlap b area ≡ true → Memᴰ b (overlapping area bs)
unfolding overlapping choose
in-overlapping area b [] m o = elim m [ ]
in-overlapping area b (c ∷ bs) m o = go (Memᴰ.cases_cons m) (λ n. in-overlapping area b bs n o)
  where
    put : (t : Bool) → Memᴰ b (overlapping area bs) → Memᴰ b (choose t (c ∷ overlapping area bs) (overlapping area bs))
    put true n = Memᴰ.tail n
    put false n = n

    go : (b ≡ c) ⊎ Memᴰ b bs → (Memᴰ b bs → Memᴰ b (overlapping area bs)) → Memᴰ b (choose (overlap c area) (c ∷ overlapping area bs) (overlapping area bs))
    go (inl e) below = rw (sym (ap (λ (x : Aabb). overlap x area) e) ∙ o) (Memᴰ.head e)
    go (inr n) below = put (overlap c area) (below n)

-- ---- a cell adds those of its boxes that overlap
module _ (cap : ℕ) (area : Aabb) where
  box-adds : (b : Aabb) (s t : List Aabb) → offer (push cap) area b s ≡ found (next t) → t ≡ s ++ overlapping area (b ∷ [])
  unfolding overlapping choose
  box-adds b s t e = go (overlap b area) (ltb (length s) cap) e
    where
      go : (o c : Bool) → choose {A = Ask (Turn (List Aabb) Bool)} o (choose c (found (next (s ++ (b ∷ [])))) (refused 6)) (found (next s)) ≡ found (next t) → t ≡ s ++ choose o (b ∷ []) []
      go true true e = let q : t ≡ s ++ (b ∷ []) = cc in q
      go true false e = no cc
      go false c e = let q : t ≡ s = cc in q ∙ sym (append-nil s)

  one_more : (b : Aabb) (bs : List Aabb) → overlapping area (b ∷ bs) ≡ overlapping area (b ∷ []) ++ overlapping area bs
  unfolding overlapping choose
  one_more b bs = go (overlap b area)
    where
      go : (o : Bool) → choose o (b ∷ overlapping area bs) (overlapping area bs) ≡ choose o (b ∷ []) [] ++ overlapping area bs
      go true = refl
      go false = refl

  boxes-add : (bs s t : List Aabb) → offer_all (push cap) area bs s ≡ found (next t) → t ≡ s ++ overlapping area bs
  unfolding offer_all
  boxes-add [] s t e = unfold overlapping in (let q : t ≡ s = cc in q ∙ sym (append-nil s))
  boxes-add (b ∷ bs) s t e =
      let p = passed (offer (push cap) area b s) (offer_all (push cap) area bs) t e in
      boxes-add bs p.at t p.then
      ∙ ap (λ (l : List Aabb). l ++ overlapping area bs) (box-adds b s p.at p.first)
      ∙ append_assoc s (overlapping area (b ∷ [])) (overlapping area bs)
      ∙ ap (λ (l : List Aabb). s ++ l) (sym (one_more b bs))

  -- no box ends it
  box-goes-on : (b : Aabb) (s : List Aabb) (v : Bool) → offer (push cap) area b s ≡ found (done v) → ⊥
  unfolding choose
  box-goes-on b s v e = go (overlap b area) (ltb (length s) cap) e
    where
      go : (o c : Bool) → choose {A = Ask (Turn (List Aabb) Bool)} o (choose c (found (next (s ++ (b ∷ [])))) (refused 6)) (found (next s)) ≡ found (done v) → ⊥
      go true true e = no cc
      go true false e = no cc
      go false c e = no cc

  boxes-go-on : (bs s : List Aabb) (v : Bool) → offer_all (push cap) area bs s ≡ found (done v) → ⊥
  unfolding offer_all
  boxes-go-on [] s v e = no cc
  boxes-go-on (b ∷ bs) s v e = undone (offer (push cap) area b s) (offer_all (push cap) area bs) v (box-goes-on b s v) (λ a. boxes-go-on bs a v) e

module _ (look : Pos → Ask Block) (records : List ℕ) (shapes : List Float) (area : Aabb) where
  abbrev pub kept_of : Pos → List Aabb
  kept_of p = overlapping area (settled_boxes look records shapes p)

module _ (cap : ℕ) (look : Pos → Ask Block) (records : List ℕ) (shapes : List Float) (area : Aabb) where
  cell-adds : (p : Pos) (s t : List Aabb) → visit (push cap) area look records shapes p s ≡ found (next t) → t ≡ s ++ kept_of look records shapes area p
  unfolding visit settled_boxes
  cell-adds p s t e = go (cell_shape look records p) e
    where
      go : (m : Ask CellShape) → (m >>= (λ shape. offer_all (push cap) area (aabbs_of shapes p shape) s)) ≡ found (next t) → t ≡ s ++ overlapping area (settled shapes p m)
      go (refused k) e = no cc
      go (found shape) e = boxes-add cap area (aabbs_of shapes p shape) s t e

  cell-goes-on : (v : Bool) (p : Pos) (s : List Aabb) → visit (push cap) area look records shapes p s ≡ found (done v) → ⊥
  unfolding visit
  cell-goes-on v p s e = go (cell_shape look records p) e
    where
      go : (m : Ask CellShape) → (m >>= (λ shape. offer_all (push cap) area (aabbs_of shapes p shape) s)) ≡ found (done v) → ⊥
      go (refused k) e = no cc
      go (found shape) e = boxes-go-on cap area (aabbs_of shapes p shape) s v e

  -- ---- a collection that is not refused
  module _ (bs : List Aabb) (e : collect_block_boxes cap look records shapes area ≡ found bs) where
    walked : walk (visit (push cap) area look records shapes) (range_of area) [] ≡ found (next bs)
    unfolding collect_block_boxes
    walked = go (walk (visit (push cap) area look records shapes) (range_of area) []) (λ v. walks-on v (visit (push cap) area look records shapes) (range_of area) (cell-goes-on v) []) e
      where
        go : (m : Ask (Turn (List Aabb) Bool)) → ((v : Bool) → m ≡ found (done v) → ⊥) → (m >>= λ t. found (pushed t)) ≡ found bs → m ≡ found (next bs)
        go (refused k) h e = no cc
        go (found (next cs)) h e = let q : cs ≡ bs = cc in ap (λ (l : List Aabb). found (next l)) q
        go (found (done v)) h e = absurd (h v refl)

    -- the list and its order
    pub collected-is : bs ≡ all_in_order (kept_of look records shapes area) (range_of area)
    collected-is = walk-grows (visit (push cap) area look records shapes) (kept_of look records shapes area) (range_of area) cell-adds [] bs walked

    -- every cell of the range was settled
    pub all_settled : (x y z : ℕ) → x < (range_of area).x.count → y < (range_of area).y.count → z < (range_of area).z.count → (shape : CellShape) × (cell_shape look records (place_at (range_of area) x y z) ≡ found shape)
    unfolding visit
    all_settled x y z hx hy hz =
        let w = walk-each (visit (push cap) area look records shapes) (range_of area) x y z hx hy hz [] bs walked in
        go (cell_shape look records (place_at (range_of area) x y z)) w.from w.to w.went
      where
        go : (m : Ask CellShape) (s t : List Aabb) → (m >>= (λ shape. offer_all (push cap) area (aabbs_of shapes (place_at (range_of area) x y z) shape) s)) ≡ found (next t) → (shape : CellShape) × (m ≡ found shape)
        go (refused k) s t e = no cc
        go (found shape) s t e = (shape, refl)

    -- a box of a cell in the range that strictly overlaps the area is in the list
    pub is-collected : (b : Aabb) (x y z : ℕ) → x < (range_of area).x.count → y < (range_of area).y.count → z < (range_of area).z.count
        → Memᴰ b (settled_boxes look records shapes (place_at (range_of area) x y z)) → overlap b area ≡ true → Memᴰ b bs
    unfolding all_in_order
    is-collected b x y z hx hy hz m o =
        subst (λ (l : List Aabb). Memᴰ b l) (sym collected-is)
        (in-joined b _ (range_of area).y.count y hy (in-joined b _ (range_of area).x.count x hx (in-joined b _ (range_of area).z.count z hz (in-overlapping area b _ m o))))

-- a cell of the range that lies outside the window: the collection is refused
pub outside-refuses : (cap : ℕ) (cells : List ℕ) (w : Window) (records : List ℕ) (shapes : List Float) (area : Aabb) (x y z : ℕ) → x < (range_of area).x.count → y < (range_of area).y.count → z < (range_of area).z.count
    → column_inside w (place_at (range_of area) x y z) ≡ false → (bs : List Aabb) → collect_block_boxes cap (look_at cells w) records shapes area ≡ found bs → ⊥
unfolding cell_shape
outside-refuses cap cells w records shapes area x y z hx hy hz out bs e =
    let s = all_settled cap (look_at cells w) records shapes area bs e x y z hx hy hz in
    let q : refused 5 ≡ found s.0 = (rw (outside-refused cells w (place_at (range_of area) x y z) out) at s.1) in
    no cc
