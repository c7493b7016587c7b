-- Demand 3 of the move through a window: what was collected are boxes of settled cells, and every box of a settled cell was collected or lies aside of
-- all that the move reaches. Assumes nothing.
use mathlib.Core.Path.{◌≡◌, refl, sym, ap, subst}
use mathlib.Core.Logic.{◌⊎◌, inl, inr}
use mathlib.Core.Bool.{Bool, true, false, not, ◌&&◌}
use mathlib.Core.List.Memᴰ
use mathlib.Core.List.{List, [], ◌∷◌, Memᴰ}
use Prim.Native.Nat.{zero, ℕ, suc, ◌+◌, ◌*◌, ◌^◌, ◌≤◌, ◌<◌}
use native.Mathlib.Omega.{arith}
use lib.Dec.{T, eqb, eqb→eq, T_not, not_T}
use lib.Ieee.{Float, lt}
use lib.Ieee.Fits.{and_i, and_l, and_r, eq→eqb}
use Rattle.base.specs.Choose.{choose}
use Rattle.base.specs.Loop.{appended}
use Rattle.base.specs.Ask.{Ask, refused, found, ◌>>=◌}
use Rattle.base.specs.Every.{every}
use Rattle.base.proofs.Every.{every-at, every-from}
use Rattle.base.proofs.Tests.{T_true, no-not}
use Rattle.boxes.specs.declared.Vec3.{Vec3}
use Rattle.boxes.specs.declared.Aabb.{Aabb}
use Rattle.sweeps.specs.declared.MoveResult.{MoveResult}
use Rattle.sweeps.specs.Entry.{MoveAnswer}
use Rattle.boxes.specs.Boxes.{meet, overlap}
use Rattle.sweeps.specs.Move.{move_over}
use Rattle.boxes.specs.Limits.{is_box, is_delta, is_step}
use Rattle.tables.specs.Tables.{is_registered}
use Rattle.table_check.specs.Check.{table_refusal}
use Rattle.window.specs.declared.Pos.{Pos}
use Rattle.window.specs.declared.Window.{Window}
use Rattle.window.specs.Window.{window_fits, window_refusal}
use Rattle.window.specs.Look.{look_at}
use Rattle.window.proofs.Cells as N
use Rattle.lent.specs.Lent.{unless, lent_refusal, direct_refusal}
use Rattle.ranges.specs.declared.Range.{Range}
use Rattle.ranges.specs.Ranges.{place_at}
use Rattle.sweeps.specs.Lists.{is_cap, cap_of}
use Rattle.collection.specs.Collect.{range_of, collect_block_boxes, swept_area}
use Rattle.collection.specs.Settled.{settled_boxes, overlapping, all_in_order}
use Rattle.moves.specs.Answers.{move_aabb, move_answer, move_entry}
use Rattle.collection.proofs.Order.{kept_of, collected-is, is-collected}
use Rattle.collection.proofs.Refuses.{FiveOrSix, collect-refuses}
use Rattle.grid.specs.Grid.{on_grid, vec_on_grid, is_proper, is_free}
use Rattle.grid.specs.Demand.{Free, Demand3, keeps_step, IsSettled, shapes_on_grid, every_place, is_free_in, window_on_grid, keeps_among, keeps_step_in, WindowDemand}
use Rattle.grid.proofs.Whole.{Box, Solid}
use Rattle.grid.proofs.Counted.{base, On, overlap-to, overlap-from}
use Rattle.grid.proofs.Readings.{three, ReadSpan, box_of, Knowns}
use Rattle.grid.proofs.Courses.{Aside, aside}
use Rattle.grid.proofs.Starts.{Start, start, area_of, from_start}
use Rattle.grid.proofs.Cells.{Numbered, Held, in_cells, in-layers}
use Rattle.grid.proofs.Far.{Far, far-clear}
use Rattle.grid.proofs.Blocks.{InColumn, InCells, Stands, near, far, Settled, block}
use Rattle.grid.proofs.Areas.{Sides, Area, area, area_on}

-- ---- what is in the lists together is in one of them
record OneOf {A I : Type 0} (a : A) (g : I → List A) : Type 0 where
  at : I
  is : Memᴰ a (g at)

in_one : {A : Type 0} (a : A) (g : ℕ → List A) (k i : ℕ) → Memᴰ a (appended g k i) → OneOf a g
unfolding appended
in_one {A = A} a g zero i m = elim m [ ]
in_one a g (suc k) i m = go (Memᴰ.append_cases (g i) m) (λ n. in_one a g k (i + 1) n)
  where
    go : Memᴰ a (g i) ⊎ Memᴰ a (appended g k (i + 1)) → (Memᴰ a (appended g k (i + 1)) → OneOf a g) → OneOf a g
    go (inl n) rest = record { at = i; is = n }
    go (inr n) rest = rest n

in_order : {A : Type 0} (a : A) (g : Pos → List A) (r : Range) → Memᴰ a (all_in_order g r) → OneOf a g
unfolding all_in_order
in_order a g r m =
    let y = in_one a (λ y. appended (λ x. appended (λ z. g (place_at r x y z)) r.z.count 0) r.x.count 0) r.y.count 0 m in
    let x = in_one a (λ x. appended (λ z. g (place_at r x y.at z)) r.z.count 0) r.x.count 0 y.is in
    let z = in_one a (λ z. g (place_at r x.at y.at z)) r.z.count 0 x.is in
    record { at = place_at r x.at y.at z.at; is = z.is }

of-overlapping : (area b : Aabb) (bs : List Aabb) → Memᴰ b (overlapping area bs) → Memᴰ b bs
unfolding overlapping choose
of-overlapping area b [] m = m
of-overlapping area b (c ∷ bs) m = go (overlap c area) m (λ n. of-overlapping area b bs n)
  where
    put : (b ≡ c) ⊎ Memᴰ b (overlapping area bs) → (Memᴰ b (overlapping area bs) → Memᴰ b bs) → Memᴰ b (c ∷ bs)
    put (inl e) rest = Memᴰ.head e
    put (inr n) rest = Memᴰ.tail (rest n)

    go : (t : Bool) → Memᴰ b (choose t (c ∷ overlapping area bs) (overlapping area bs)) → (Memᴰ b (overlapping area bs) → Memᴰ b bs) → Memᴰ b (c ∷ bs)
    go true m rest = put (Memᴰ.cases_cons m) rest
    go false m rest = Memᴰ.tail (rest m)

-- ---- lists, box by box
pub free-at : (m o : Aabb) (bs : List Aabb) → Memᴰ o bs → T (is_free m bs) → T (not (overlap m o))
unfolding is_free
free-at m o [] n t = elim n [ ]
free-at m o (b ∷ bs) n t = go (Memᴰ.cases_cons n) (λ r. free-at m o bs r (and_r (not (overlap m b)) (is_free m bs) t))
  where
    go : (o ≡ b) ⊎ Memᴰ o bs → (Memᴰ o bs → T (not (overlap m o))) → T (not (overlap m o))
    go (inl e) rest = subst (λ (u : Aabb). T (not (overlap m u))) (sym e) (and_l (not (overlap m b)) (is_free m bs) t)
    go (inr r) rest = rest r

pub free_all : (m : Aabb) (bs : List Aabb) → ((o : Aabb) → Memᴰ o bs → T (not (overlap m o))) → T (is_free m bs)
unfolding is_free
free_all m [] h = tt
free_all m (b ∷ bs) h = and_i (not (overlap m b)) (is_free m bs) (h b (Memᴰ.head refl)) (free_all m bs (λ o n. h o (Memᴰ.tail n)))

record Known (o : Aabb) : Type 0 where
  box : Box
  on : On o box
  solid : Solid box

all_known : (bs : List Aabb) → ((o : Aabb) → Memᴰ o bs → Known o) → Knowns bs
all_known [] h = record { boxes = []; on = tt; solid = tt }
all_known (b ∷ bs) h =
    let k = h b (Memᴰ.head refl) in
    let r = all_known bs (λ o n. h o (Memᴰ.tail n)) in
    record { boxes = k.box ∷ r.boxes; on = (k.on, r.on); solid = (k.solid, r.solid) }

-- what is in the list overlaps the area
overlaps-area : (area b : Aabb) (bs : List Aabb) → Memᴰ b (overlapping area bs) → T (overlap b area)
unfolding overlapping choose
overlaps-area area b [] m = elim m [ ]
overlaps-area area b (c ∷ bs) m = go (overlap c area) refl m (λ n. overlaps-area area b bs n)
  where
    put : (b ≡ c) ⊎ Memᴰ b (overlapping area bs) → overlap c area ≡ true → (Memᴰ b (overlapping area bs) → T (overlap b area)) → T (overlap b area)
    put (inl e) q rest = subst (λ (u : Aabb). T (overlap u area)) (sym e) (subst T (sym q) tt)
    put (inr n) q rest = rest n

    go : (t : Bool) → overlap c area ≡ t → Memᴰ b (choose t (c ∷ overlapping area bs) (overlapping area bs)) → (Memᴰ b (overlapping area bs) → T (overlap b area)) → T (overlap b area)
    go true q m rest = put (Memᴰ.cases_cons m) q rest
    go false q m rest = rest m

-- ---- a box of a cell
abbrev box-known : {b : Aabb} {nx ny nz : ℕ} → InCells b nx ny nz → Known b
box-known c = record {
  box = record { x = c.x.span; y = c.y.span; z = c.z.span };
  on = record { x = c.x.on; y = c.y.on; z = c.z.on };
  solid = record { x = c.x.thick; y = c.y.thick; z = c.z.thick };
}

-- overlap, whichever box is named first
pub turned : (a b : Aabb) → T (overlap a b) → T (overlap b a)
turned a b t =
    let h = three (meet a.min.x a.max.x b.min.x b.max.x) (meet a.min.y a.max.y b.min.y b.max.y) (meet a.min.z a.max.z b.min.z b.max.z) t in
    let x = flip (lt a.min.x b.max.x) (lt b.min.x a.max.x) h.x in
    let y = flip (lt a.min.y b.max.y) (lt b.min.y a.max.y) h.y in
    let z = flip (lt a.min.z b.max.z) (lt b.min.z a.max.z) h.z in
    let yz = and_i (meet b.min.y b.max.y a.min.y a.max.y) (meet b.min.z b.max.z a.min.z a.max.z) y z in
    and_i (meet b.min.x b.max.x a.min.x a.max.x) (meet b.min.y b.max.y a.min.y a.max.y && meet b.min.z b.max.z a.min.z a.max.z) x yz
  where
    flip : (p q : Bool) → T (p && q) → T (q && p)
    flip p q t = and_i q p (and_r p q t) (and_l p q t)

-- the box at the start, as an area
start_area : {m : Aabb} {d : Vec3} {h : Float} (s : Start m d h) → Area m (box_of s.box)
start_area s = record { x = side s.box.x; y = side s.box.y; z = side s.box.z }
  where
    side : {a b : Float} (r : ReadSpan a b (2 ^ 37)) → Sides a b r.span
    side r =
        let deep : base ≤ r.span.lo + 2 ^ 37 = r.deep in
        let room : r.span.hi ≤ base + 2 ^ 37 = r.room in
        let thick : r.span.lo < r.span.hi = r.thick in
        record { lo = record { at = r.on.lo.at; low = omega arith; high = omega arith }; hi = record { at = r.on.hi.at; low = omega arith; high = omega arith } }

-- ---- a near box that overlaps the area f: its cell is in the range of f
pub record InRange (r : Range) (p : Pos) : Type 0 where
  pub x : ℕ
  pub y : ℕ
  pub z : ℕ
  pub below-x : x < r.x.count
  pub below-y : y < r.y.count
  pub below-z : z < r.z.count
  pub is : p ≡ place_at r x y z

pub in_place : (r : Range) (p : Pos) → Held r.x p.x → Held r.y p.y → Held r.z p.z → InRange r p
in_place r p x y z =
    let px = sym x.is in
    let py = sym y.is in
    let pz = sym z.is in
    record { x = x.index; y = y.index; z = z.index; below-x = x.below; below-y = y.below; below-z = z.below; is = (λ j. record { x = px j; y = py j; z = pz j }) }

in-range : (w : Window) (f : Aabb) (v : Box) → Area f v → (p : Pos) (o : Aabb) (i : InColumn w p) (h : Numbered p.y (2 ^ 27)) → InCells o i.x.at.number h.number i.z.at.number
    → T (overlap o f) → InRange (range_of f) p
in-range w f v a p o i h c t =
    let k = box-known c in
    let m = overlap-to o f k.box v k.on (area_on a) t in
    let xl : 4096 * i.x.at.number ≤ k.box.x.lo = c.x.low in
    let xh : k.box.x.hi ≤ 4096 * i.x.at.number + 4096 = c.x.high in
    let xu : k.box.x.lo < v.x.hi = m.x.under in
    let xo : v.x.lo < k.box.x.hi = m.x.over in
    let yl : 4096 * h.number ≤ k.box.y.lo = c.y.low in
    let yh : k.box.y.hi ≤ 4096 * h.number + 6144 = c.y.high in
    let yu : k.box.y.lo < v.y.hi = m.y.under in
    let yo : v.y.lo < k.box.y.hi = m.y.over in
    let zl : 4096 * i.z.at.number ≤ k.box.z.lo = c.z.low in
    let zh : k.box.z.hi ≤ 4096 * i.z.at.number + 4096 = c.z.high in
    let zu : k.box.z.lo < v.z.hi = m.z.under in
    let zo : v.z.lo < k.box.z.hi = m.z.over in
    let x = in_cells f.min.x f.max.x v.x.lo v.x.hi i.x.at.number a.x.lo a.x.hi (omega arith) (omega arith) in
    let y = in-layers f.min.y f.max.y v.y.lo v.y.hi h.number a.y.lo a.y.hi (omega arith) (omega arith) in
    let z = in_cells f.min.z f.max.z v.z.lo v.z.hi i.z.at.number a.z.lo a.z.hi (omega arith) (omega arith) in
    in_place (range_of f) p (subst (Held (range_of f).x) (sym i.x.at.is) x) (subst (Held (range_of f).y) (sym h.is) y) (subst (Held (range_of f).z) (sym i.z.at.is) z)

-- a test of every cell of a range, at one of them
pub at_place : (r : Range) (test : Pos → Bool) (p : Pos) → InRange r p → T (every_place r test) → T (test p)
unfolding every_place
at_place r test p i t =
    let ly = every-at r.y.count (λ y. every r.x.count (λ x. every r.z.count (λ z. test (place_at r x y z)))) (T_true (every_place r test) t) i.y i.below-y in
    let lx = every-at r.x.count (λ x. every r.z.count (λ z. test (place_at r x i.y z))) ly i.x i.below-x in
    let lz = every-at r.z.count (λ z. test (place_at r i.x i.y z)) lx i.z i.below-z in
    subst (λ (q : Pos). T (test q)) (sym i.is) (subst T (sym lz) tt)

places : (r : Range) (test : Pos → Bool) → ((p : Pos) → T (test p)) → T (every_place r test)
unfolding every_place
places r test h =
    subst T
    (sym (every-from r.y.count _ (λ y hy. every-from r.x.count _ (λ x hx. every-from r.z.count _ (λ z hz. T_true (test (place_at r x y z)) (h (place_at r x y z)))))))
    tt

module _ (records : List ℕ) (shapes : List Float) (cells : List ℕ) (w : Window) where
  abbrev pub boxes_in : Pos → List Aabb
  boxes_in = settled_boxes (look_at cells w) records shapes

  -- the test of the start asks for nothing more than that no block box is overlapped
  pub start-tests : (m : Aabb) → Free (IsSettled records shapes cells w) m → T (is_free_in records shapes cells w m)
  start-tests m h = places (range_of m) (λ p. is_free m (boxes_in p)) (λ p. free_all m (boxes_in p) (λ o n. h o record { cell = p; is = n }))

  -- what is collected over an area is a box of a settled cell, and overlaps the area; and every such box of a cell in its range is collected
  module _ (cap : ℕ) (area : Aabb) (bs : List Aabb) (C : collect_block_boxes cap (look_at cells w) records shapes area ≡ found bs) where
    kept_at : (o : Aabb) → Memᴰ o bs → OneOf o (kept_of (look_at cells w) records shapes area)
    kept_at o n =
        in_order o (kept_of (look_at cells w) records shapes area) (range_of area)
        (subst (λ (l : List Aabb). Memᴰ o l) (collected-is cap (look_at cells w) records shapes area bs C) n)

    pub back : (o : Aabb) → Memᴰ o bs → IsSettled records shapes cells w o
    back o n = let r = kept_at o n in record { cell = r.at; is = of-overlapping area o (boxes_in r.at) r.is }

    pub back-overlaps : (o : Aabb) → Memᴰ o bs → T (overlap o area)
    back-overlaps o n = let r = kept_at o n in overlaps-area area o (boxes_in r.at) r.is

    pub collected : (p : Pos) (o : Aabb) → Memᴰ o (boxes_in p) → InRange (range_of area) p → overlap o area ≡ true → Memᴰ o bs
    collected p o n r e =
        is-collected cap (look_at cells w) records shapes area bs C o r.x r.y r.z r.below-x r.below-y r.below-z (subst (λ (q : Pos). Memᴰ o (boxes_in q)) r.is n) e

  module _ (W : window_fits cells w ≡ true) (G : T (shapes_on_grid records shapes cells w)) where
    -- and for nothing less
    pub start-clear : (m : Aabb) (v : Box) → Area m v → T (is_free_in records shapes cells w m) → Free (IsSettled records shapes cells w) m
    start-clear m v a t o c = not_T (overlap m o) (go (block records shapes cells w W G c.cell o c.is))
      where
        at : (p : Pos) (i : InColumn w p) → Stands p o i.x.at.number i.z.at.number → Memᴰ o (boxes_in p) → T (overlap m o) → ⊥
        at p i (near y b) n u = T_not (overlap m o) (free-at m o (boxes_in p) n (at_place (range_of m) (λ p. is_free m (boxes_in p)) p (in-range w m v a p o i y b (turned m o u)) t)) u
        at p i (far f) n u = far-clear m o v.y (area_on a).y a.y.lo.low a.y.hi.high f u

        go : Settled w c.cell o → T (overlap m o) → ⊥
        go b u = at c.cell b.place b.stands c.is u

    module _ (cap : ℕ) (m : Aabb) (d : Vec3) (h : Float) (s : Start m d h) (bs : List Aabb) (C : collect_block_boxes cap (look_at cells w) records shapes (swept_area m d h) ≡ found bs) where
      abbrev swept : Aabb
      swept = swept_area m d h

      -- nothing far overlaps it
      far-off : (o : Aabb) → Far o → T (overlap o swept) → ⊥
      far-off o f t = let a = area m d h s in far-clear swept o (area_of s).y (area_on a).y a.y.lo.low a.y.hi.high f (turned o swept t)

      known : (o : Aabb) → Memᴰ o bs → Known o
      known o n =
          let c = back cap swept bs C o n in
          go (block records shapes cells w W G c.cell o c.is) (back-overlaps cap swept bs C o n)
        where
          go : {p : Pos} → Settled w p o → T (overlap o swept) → Known o
          go b t = at b.stands t
            where
              at : {p : Pos} {nx nz : ℕ} → Stands p o nx nz → T (overlap o swept) → Known o
              at (near y k) t = box-known k
              at (far f) t = absurd (far-off o f t)

      -- a box of a settled cell is collected, or lies aside of all that the move reaches
      seen : (o : Aabb) → IsSettled records shapes cells w o → Memᴰ o bs ⊎ Aside (area_of s) o
      seen o c = let b = block records shapes cells w W G c.cell o c.is in at c.cell b.place b.stands c.is
        where
          at : (p : Pos) (i : InColumn w p) → Stands p o i.x.at.number i.z.at.number → Memᴰ o (boxes_in p) → Memᴰ o bs ⊎ Aside (area_of s) o
          at p i (near y b) n = go (overlap o swept) refl
            where
              go : (t : Bool) → overlap o swept ≡ t → Memᴰ o bs ⊎ Aside (area_of s) o
              go true e = inl (collected cap swept bs C p o n (in-range w swept (area_of s) (area m d h s) p o i y b (subst T (sym e) tt)) e)
              go false e =
                  let k = box-known b in
                  inr (aside (area_of s) o k.box k.on (λ v. subst T e (turned swept o (overlap-from swept o (area_of s) k.box (area_on (area m d h s)) k.on v))))
          at p i (far f) n = inr record {
            apart = λ q c C i t.
                let a = area m d h s in
                let al : base ≤ (area_of s).y.lo + 2 ^ 38 = a.y.lo.low in
                let ah : (area_of s).y.hi ≤ base + 2 ^ 38 = a.y.hi.high in
                let il : (area_of s).y.lo ≤ c.y.lo = i.y.low in
                let ih : c.y.hi ≤ (area_of s).y.hi = i.y.high in
                far-clear q o c.y C.y (omega arith) (omega arith) f t;
          }

      through : T (is_free_in records shapes cells w m) → (grounded : Bool) → Demand3 (IsSettled records shapes cells w) (keeps_step bs m d h grounded) m d (move_over bs m d h grounded)
      through t =
          let k = all_known bs known in
          from_start (IsSettled records shapes cells w) bs k.boxes k.on k.solid m d h s (back cap swept bs C) seen
          (free_all m bs (λ o n. start-clear m (box_of s.box) (start_area s) t o (back cap swept bs C o n)))

-- ---- a move that is not refused
abbrev answer_to : ℕ → Bool → Bool → Bool → Ask (List Aabb) → Aabb → Vec3 → Float → Bool → MoveAnswer
answer_to lent t v x c m d h grounded =
    move_answer m (unless t lent (unless v 3 (unless x 4 (c >>= (λ boxes. found (move_over boxes m d h grounded))))))

record Accepted (t v x : Bool) (c : Ask (List Aabb)) (m : Aabb) (d : Vec3) (h : Float) (grounded : Bool) (r : MoveAnswer) : Type 0 where
  lent : t ≡ false
  three : v ≡ false
  four : x ≡ false
  boxes : List Aabb
  collects : c ≡ found boxes
  result : r.result ≡ move_over boxes m d h grounded

accepted : (lent : ℕ) (t v x : Bool) (c : Ask (List Aabb)) (m : Aabb) (d : Vec3) (h : Float) (grounded : Bool) → (T t → lent ≡ 0 → ⊥) → ((n : ℕ) → c ≡ refused n → FiveOrSix n)
    → (answer_to lent t v x c m d h grounded).refusal ≡ 0 → Accepted t v x c m d h grounded (answer_to lent t v x c m d h grounded)
unfolding choose
accepted lent true v x c m d h grounded g f e = absurd (g tt e)
accepted lent false true x c m d h grounded g f e = absurd (omega arith)
accepted lent false false true c m d h grounded g f e = absurd (omega arith)
accepted lent false false false (refused n) m d h grounded g f e = absurd (never (f n refl))
  where
    never : FiveOrSix n → ⊥
    never (inl z) = omega arith
    never (inr z) = omega arith
accepted lent false false false (found bs) m d h grounded g f e = record { lent = refl; three = refl; four = refl; boxes = bs; collects = refl; result = refl }

-- of two refusals in order, where there is none
record Neither (first then : ℕ) : Type 0 where
  one : first ≡ 0
  two : then ≡ 0

neither : (first then : ℕ) → choose (eqb first 0) then first ≡ 0 → Neither first then
unfolding choose
neither first then e = go (eqb first 0) (eqb→eq first 0) (λ z. eq→eqb {a = first} {b = 0} z) e
  where
    go : (t : Bool) → (T t → first ≡ 0) → (first ≡ 0 → T t) → choose t then first ≡ 0 → Neither first then
    go true f g e = record { one = f tt; two = e }
    go false f g e = absurd (g e)

pub record TakenThrough (cap : ℕ) (records : List ℕ) (shapes : List Float) (cells : List ℕ) (w : Window) (m : Aabb) (d : Vec3) (h : Float) (grounded : Bool) : Type 0 where
  pub window : window_fits cells w ≡ true
  pub step : T (is_step h)
  pub box : T (is_box m)
  pub delta : T (is_delta d)
  pub boxes : List Aabb
  pub collects : collect_block_boxes (cap_of cap) (look_at cells w) records shapes (swept_area m d h) ≡ found boxes
  pub result : (move_entry cap records shapes cells w m d h grounded).result ≡ move_over boxes m d h grounded

pub taken-through : (cap : ℕ) (records : List ℕ) (shapes : List Float) (cells : List ℕ) (w : Window) (m : Aabb) (d : Vec3) (h : Float) (grounded : Bool)
    → (move_entry cap records shapes cells w m d h grounded).refusal ≡ 0 → TakenThrough cap records shapes cells w m d h grounded
unfolding move_entry move_aabb direct_refusal lent_refusal
taken-through cap records shapes cells w m d h grounded e =
    let c = collect_block_boxes (cap_of cap) (look_at cells w) records shapes (swept_area m d h) in
    let l = direct_refusal records shapes cells w in
    let a = accepted l (not (eqb l 0)) (not (is_cap cap && is_step h)) (not (is_box m && is_delta d)) c m d h grounded (λ t z. T_not (eqb l 0) t (eq→eqb {a = l} {b = 0} z))
    (collect-refuses (cap_of cap) cells w records shapes (swept_area m d h)).only e in
    let lent = neither (lent_refusal records shapes cells w) (choose (is_registered records w.air) 0 3) (eqb→eq l 0 (no-not (eqb l 0) a.lent)) in
    let bd = no-not (is_box m && is_delta d) a.four in
    record {
      window = N.accepted cells w (neither (table_refusal records shapes) (window_refusal cells w) lent.one).two;
      step = and_r (is_cap cap) (is_step h) (no-not (is_cap cap && is_step h) a.three);
      box = and_l (is_box m) (is_delta d) bd;
      delta = and_r (is_box m) (is_delta d) bd;
      boxes = a.boxes;
      collects = a.collects;
      result = a.result;
    }

pub demand3-window : WindowDemand
unfolding window_on_grid keeps_step_in
demand3-window cap records shapes cells w m d h grounded t e =
    let a = taken-through cap records shapes cells w m d h grounded e in
    let bs = a.boxes in
    let t1 = and_r (is_proper m) (shapes_on_grid records shapes cells w && (vec_on_grid d && (on_grid h && is_free_in records shapes cells w m))) t in
    let t2 = and_r (shapes_on_grid records shapes cells w) (vec_on_grid d && (on_grid h && is_free_in records shapes cells w m)) t1 in
    let t3 = and_r (vec_on_grid d) (on_grid h && is_free_in records shapes cells w m) t2 in
    let s : Start m d h = start m d h a.box (and_l (is_proper m) (shapes_on_grid records shapes cells w && (vec_on_grid d && (on_grid h && is_free_in records shapes cells w m))) t)
    a.delta (and_l (vec_on_grid d) (on_grid h && is_free_in records shapes cells w m) t2) a.step (and_l (on_grid h) (is_free_in records shapes cells w m) t3) in
    let r = through records shapes cells w a.window (and_l (shapes_on_grid records shapes cells w) (vec_on_grid d && (on_grid h && is_free_in records shapes cells w m)) t1) (cap_of cap) m d h s bs a.collects (and_r (on_grid h) (is_free_in records shapes cells w m) t3) grounded in
    let k = ap (λ (x : Ask (List Aabb)). keeps_among x m d h grounded) a.collects in
    subst (λ (q : MoveResult). Demand3 (IsSettled records shapes cells w) (keeps_step_in cap records shapes cells w m d h grounded) m d q) (sym a.result)
    (subst (λ (q : Bool). Demand3 (IsSettled records shapes cells w) q m d (move_over bs m d h grounded)) (sym k) r)
