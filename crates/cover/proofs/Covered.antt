-- The search for a gap answers what `covers_face` says: it finds one exactly when a cell is in no rectangle. Assumes nothing.
use mathlib.Core.Bool.{Bool, true, false, not, ◌&&◌, ◌||◌, true≢false, and_comm}
use mathlib.Core.Path.{◌≡◌, refl, sym, ◌∙◌}
use mathlib.Core.List.{List, []}
use Prim.Native.Nat.{ℕ, zero, suc, ◌<◌, ◌≤◌}
use native.Mathlib.Nat.{not-suc-le-zero, le_trans, le_refl, le_of_lt}
use native.Mathlib.Decide.{dec_le}
use native.Mathlib.Omega.{arith}
use lib.ListN.{get_or}
use lib.Dec.{T, leb, ltb}
use lib.Ieee.{Float, nan, binary32, lt, fits}
use borrow.Author.Tests.{not-true, not-false, leb-true, ltb-true, ltb-false, le-leb, lt-leb, lt-ltb}
use Rattle.base.specs.Every.{every, any}
use Rattle.base.proofs.Every.{both, with-last, every-from, every-not, some-none, some_at, none-at, Found, find}
use Rattle.cover.specs.declared.Side.{Side}
use Rattle.cover.specs.Cover.{unit_cells, box_count, cells_before, zero32, on_face, u0, u1, v0, v1, has_cell, has_nan, all_cells, covers_face}
use Rattle.cover.specs.Gaps.{spans_line, has_point, is_inner, has_gap_at, gap_past, any_gap, gap_on_line, gap_on_face, covers_by_search}
use Rattle.cover.proofs.Cells.{Point, at_zero, unit-pos, lt-cells, inner-point, point-inner}

-- ---- a cell of a rectangle, part by part
record Holds (l : List Float) (f : Side) (i j k : ℕ) : Type 0 where
  face : on_face l f k ≡ true
  left : cells_before (u0 l f k) ≤ i
  right : i < cells_before (u1 l f k)
  bottom : cells_before (v0 l k) ≤ j
  top : j < cells_before (v1 l k)

cell_holds : (l : List Float) (f : Side) (i j k : ℕ) → has_cell l f i j k ≡ true → Holds l f i j k
cell_holds l f i j k h =
    let a : Bool = on_face l f k in
    let b : Bool = leb (cells_before (u0 l f k)) i in
    let c : Bool = ltb i (cells_before (u1 l f k)) in
    let d : Bool = leb (cells_before (v0 l k)) j in
    let e : Bool = ltb j (cells_before (v1 l k)) in
    let abcd = both (a && b && c && d) e h in
    let abc = both (a && b && c) d abcd.one in
    let ab = both (a && b) c abc.one in
    let one = both a b ab.one in
    record {
      face = one.one;
      left = leb-true (cells_before (u0 l f k)) i one.two;
      right = ltb-true i (cells_before (u1 l f k)) ab.two;
      bottom = leb-true (cells_before (v0 l k)) j abc.two;
      top = ltb-true j (cells_before (v1 l k)) abcd.two;
    }

holds-cell : (l : List Float) (f : Side) (i j k : ℕ) → Holds l f i j k → has_cell l f i j k ≡ true
holds-cell l f i j k h =
    rw (h.face, le-leb (cells_before (u0 l f k)) i h.left, lt-ltb i (cells_before (u1 l f k)) h.right, le-leb (cells_before (v0 l k)) j h.bottom, lt-ltb j (cells_before (v1 l k)) h.top)

-- ---- a rectangle has a point exactly when it has the point's cell
not-ltb : (a b : ℕ) → not (ltb a b) ≡ leb b a
not-ltb a b = go (ltb a b) refl
  where
    go : (t : Bool) → ltb a b ≡ t → not t ≡ leb b a
    go true e = let h : a < b = ltb-true a b e in sym (lt-leb b a h)
    go false e = let h : b ≤ a = ltb-false a b e in sym (le-leb b a h)

-- a face, and a list of f32s
module _ (l : List Float) (f : Side) (held : (i : ℕ) → T (fits binary32 (get_or l i nan))) where
  point-cell : (u v : Float) (i j k : ℕ) → Point u i → Point v j → has_point l f u v k ≡ has_cell l f i j k
  unfolding has_point spans_line
  point-cell u v i j k p q =
      rw (lt-cells u (u0 l f k) i p (held _), not-ltb, lt-cells u (u1 l f k) i p (held _), lt-cells v (v0 l k) j q (held _), not-ltb, lt-cells v (v1 l k) j q (held _))

  point-spans : (u v : Float) (k : ℕ) → has_point l f u v k ≡ true → spans_line l f u k ≡ true
  unfolding has_point
  point-spans u v k h = (both (spans_line l f u k) (not (lt v (v0 l k))) (both (spans_line l f u k && not (lt v (v0 l k))) (lt v (v1 l k)) h).one).one

-- ---- what a test of gaps over edges says
or-false : (a b : Bool) → a || b ≡ false → (a ≡ false) × (b ≡ false)
or-false true b h = absurd (true≢false h)
or-false false b h = (refl, h)

-- a point where the test is true
record Open (gap : Float → Bool) : Type 0 where
  pt : Float
  at : ℕ
  point : Point pt at
  gapped : gap pt ≡ true

-- of 0 and the edges at or below i, the greatest: a point where the test is false
record Best (counts : ℕ → Bool) (edge : ℕ → Float) (gap : Float → Bool) (i n : ℕ) : Type 0 where
  pt : Float
  at : ℕ
  point : Point pt at
  under : at ≤ i
  clear : gap pt ≡ false
  most : (k : ℕ) → k < n → counts k ≡ true → cells_before (edge k) ≤ i → cells_before (edge k) ≤ at

module _ (counts : ℕ → Bool) (edge : ℕ → Float) (gap : Float → Bool) (held : (k : ℕ) → T (fits binary32 (edge k))) where
  past-false : (k : ℕ) → counts k ≡ true → is_inner (edge k) ≡ true → gap_past counts edge gap k ≡ false → gap (edge k) ≡ false
  unfolding gap_past
  past-false k p q h = rw (q, p) at h

  open_at : (n : ℕ) → any_gap counts edge gap n ≡ true → Open gap
  unfolding any_gap gap_past
  open_at n h = go (gap zero32) refl h
    where
      go : (b : Bool) → gap zero32 ≡ b → b || any n (gap_past counts edge gap) ≡ true → Open gap
      go true e g = record { pt = zero32; at = 0; point = at_zero; gapped = e }
      go false e g =
          let r = find n (gap_past counts edge gap) g in
          let k : ℕ = r.at in
          let a = both (is_inner (edge k) && counts k) (gap (edge k)) r.there in
          let b = both (is_inner (edge k)) (counts k) a.one in
          record { pt = edge k; at = cells_before (edge k); point = inner-point (edge k) (held k) b.one; gapped = a.two }

  module _ (i : ℕ) (small : i < unit_cells) (zero_clear : gap zero32 ≡ false) where
    keep : (n : ℕ) (b : Best counts edge gap i n) → (counts n ≡ true → cells_before (edge n) ≤ i → cells_before (edge n) ≤ b.at) → Best counts edge gap i (suc n)
    keep n b h = record { pt = b.pt; at = b.at; point = b.point; under = b.under; clear = b.clear; most = with-last _ n b.most h }

    raise : (n : ℕ) (b : Best counts edge gap i n) → cells_before (edge n) ≤ i → b.at < cells_before (edge n) → gap (edge n) ≡ false → is_inner (edge n) ≡ true → Best counts edge gap i (suc n)
    raise n b h g c e = record {
      pt = edge n;
      at = cells_before (edge n);
      point = inner-point (edge n) (held n) e;
      under = h;
      clear = c;
      most = with-last _ n (λ k l p q. le_trans (b.most k l p q) (le_of_lt g)) (λ p q. le_refl _);
    }

    more : (n : ℕ) → (counts n ≡ true → is_inner (edge n) ≡ true → gap (edge n) ≡ false) → Best counts edge gap i n → Best counts edge gap i (suc n)
    more n ok b = by_count (counts n) refl
      where
        by_size : counts n ≡ true → Dec (cells_before (edge n) ≤ i) → Dec (cells_before (edge n) ≤ b.at) → Best counts edge gap i (suc n)
        by_size e (no p) q = keep n b (λ x y. absurd (p y))
        by_size e (yes p) (yes q) = keep n b (λ x y. q)
        by_size e (yes p) (no q) =
            let g : b.at < cells_before (edge n) = omega arith in
            let z : is_inner (edge n) ≡ true = point-inner (edge n) (held n) (omega arith) (omega arith) in
            raise n b p g (ok e z) z

        by_count : (t : Bool) → counts n ≡ t → Best counts edge gap i (suc n)
        by_count true e = by_size e (dec_le (cells_before (edge n)) i) (dec_le (cells_before (edge n)) b.at)
        by_count false e = keep n b (λ x y. absurd (true≢false (sym x ∙ e)))

    climb : (n : ℕ) → ((k : ℕ) → k < n → counts k ≡ true → is_inner (edge k) ≡ true → gap (edge k) ≡ false) → Best counts edge gap i n
    climb zero ok = record { pt = zero32; at = 0; point = at_zero; under = omega arith; clear = zero_clear; most = λ k h. absurd (not-suc-le-zero h) }
    climb (suc n) ok = more n (ok n (omega arith)) (climb n (λ k h. ok k (omega arith)))

  best : (n i : ℕ) → i < unit_cells → any_gap counts edge gap n ≡ false → Best counts edge gap i n
  unfolding any_gap
  best n i s h =
      let o = or-false (gap zero32) (any n (gap_past counts edge gap)) h in
      climb i s o.0 n (λ k l p q. past-false k p q (none-at n (gap_past counts edge gap) o.1 k l))

-- ---- the face
past_end : (i a e : ℕ) → a < e → (e ≤ i → e ≤ a) → i < e
past_end i a e h g = go (dec_le e i)
  where
    go : Dec (e ≤ i) → i < e
    go (yes p) = let z : e ≤ a = g p in omega arith
    go (no p) = omega arith

module _ (l : List Float) (f : Side) (held : (i : ℕ) → T (fits binary32 (get_or l i nan))) where
  point-clear : (u v : Float) → has_gap_at l f u v ≡ false → Found (box_count l) (has_point l f u v)
  unfolding has_gap_at
  point-clear u v h = find (box_count l) (has_point l f u v) (not-false (any (box_count l) (has_point l f u v)) h)

  point-gap : (u v : Float) (i j : ℕ) → Point u i → Point v j → has_gap_at l f u v ≡ true → any (box_count l) (has_cell l f i j) ≡ false
  unfolding has_gap_at
  point-gap u v i j p q h =
      let g = not-true (any (box_count l) (has_point l f u v)) h in
      some-none (box_count l) (has_cell l f i j)
      (λ k b. sym (point-cell l f held u v i j k p q) ∙ none-at (box_count l) (has_point l f u v) g k b)

  -- no gap among the points tried: a cell lies in the rectangle of the point at or before it
  clear-cell : gap_on_face l f ≡ false → (i j : ℕ) → i < unit_cells → j < unit_cells → any (box_count l) (has_cell l f i j) ≡ true
  unfolding gap_on_face gap_on_line
  clear-cell h i j p q =
      let n : ℕ = box_count l in
      let a = best (on_face l f) (u1 l f) (gap_on_line l f) (λ k. held _) n i p h in
      let b = best (spans_line l f a.pt) (v1 l) (has_gap_at l f a.pt) (λ k. held _) n j q a.clear in
      let r = point-clear a.pt b.pt b.clear in
      let k : ℕ = r.at in
      let g = cell_holds l f a.at b.at k (sym (point-cell l f held a.pt b.pt a.at b.at k a.point b.point) ∙ r.there) in
      some_at n (has_cell l f i j) k r.below
      (holds-cell l f i j k
      record {
        face = g.face;
        left = le_trans g.left a.under;
        right = past_end i a.at (cells_before (u1 l f k)) g.right (a.most k r.below g.face);
        bottom = le_trans g.bottom b.under;
        top = past_end j b.at (cells_before (v1 l k)) g.top (b.most k r.below (point-spans l f held a.pt b.pt k r.there));
      })

  -- a gap at a point tried: its cell is in no rectangle
  gap-cell : gap_on_face l f ≡ true → all_cells l f ≡ false
  unfolding gap_on_face gap_on_line
  gap-cell h =
      let n : ℕ = box_count l in
      let a = open_at (on_face l f) (u1 l f) (gap_on_line l f) (λ k. held _) n h in
      let b = open_at (spans_line l f a.pt) (v1 l) (has_gap_at l f a.pt) (λ k. held _) n a.gapped in
      every-not unit_cells _ a.at a.point.small
      (every-not unit_cells _ b.at b.point.small (point-gap a.pt b.pt a.at b.at a.point b.point b.gapped))

  cells-search : (g : Bool) → gap_on_face l f ≡ g → all_cells l f ≡ not g
  cells-search true h = gap-cell h
  cells-search false h = every-from unit_cells _ (λ i p. every-from unit_cells _ (λ j q. clear-cell h i j p q))

  pub covers-search : covers_face l f ≡ covers_by_search l f
  unfolding covers_face covers_by_search
  covers-search = rw (cells-search (gap_on_face l f) refl) (and_comm (not (gap_on_face l f)) (not (any (box_count l) (has_nan l f))))

-- ---- no box covers nothing
pub none-covers : (f : Side) → covers_face [] f ≡ false
unfolding covers_face any
none-covers f = rw (every-not unit_cells (λ i. every unit_cells (λ j. any 0 (has_cell [] f i j))) 0 unit-pos (every-not unit_cells (λ j. any 0 (has_cell [] f 0 j)) 0 unit-pos refl))
