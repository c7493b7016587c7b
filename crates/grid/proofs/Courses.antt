-- A move over boxes on the grid: what demand 3 says of it (`move-demand`), for block boxes of which each is in the list or lies aside of all that the
-- move reaches. Assumes nothing.
use mathlib.Core.Path.{◌≡◌, refl, sym, subst}
use mathlib.Core.Logic.{◌⊎◌, inl, inr}
use mathlib.Core.Bool.{Bool, true, false, not, ◌&&◌, ◌||◌, true≢false}
use mathlib.Core.List.Memᴰ
use mathlib.Core.List.{List, [], ◌∷◌, Memᴰ}
use Prim.Native.Nat.{ℕ, ◌+◌, ◌-◌, ◌≤◌, ◌<◌}
use native.Mathlib.Omega.{arith}
use lib.Dec.{T, ltb, leb, eqb, leb→le, le→leb, ltb→lt, nltb→le, not_T}
use lib.Ieee.{Float, binary64, add, sub, neg, lt, le, eq}
use lib.Ieee.Fits.{and_i, and_l, and_r, eq→eqb}
use Rattle.base.specs.Choose.{choose}
use Rattle.base.proofs.Tests.{or_l, or_r, or_split}
use Rattle.floats.specs.Numbers.{zero64}
use Rattle.boxes.specs.declared.Vec3.{Vec3}
use Rattle.boxes.specs.declared.Aabb.{Aabb}
use Rattle.sweeps.specs.declared.Swept.{Swept}
use Rattle.sweeps.specs.declared.MoveResult.{MoveResult}
use Rattle.boxes.specs.Boxes.{vec, overlap, clip_x, clip_y, clip_z}
use Rattle.sweeps.specs.Move.{clip_all, clip_sequence, stepped_up, flat_square, tries_step, stopped_falling, move_over}
use Rattle.grid.specs.Grid.{on_grid}
use Rattle.grid.specs.Demand.{between, grid_unit, further, Struck, Travels, moved_x, moved_y, moved_z, Farthest, Demand3, keeps_step}
use Rattle.grid.specs.Demand as D
use Rattle.grid.proofs.Units.{At, neg-at, add_at, sub_at, at_same, lt-is, le-at, le_is, eq-at}
use Rattle.grid.proofs.Axis.{Span, slid, All, Way, upward, downward, above, beneath, way-whole, way-trans}
use Rattle.grid.proofs.Whole.{Box, Solid, Free, Overlap, Sweep, to_x, to_y, to_z, x_end_of, end_y, z_end_of, solid-x, solid-y, sweep-x, sweep-y, sweep-z, Inside, reach, self-inside, way-inside, BoxInside, overlap-grow}
use Rattle.grid.proofs.Whole as W
use Rattle.grid.proofs.Counted.{top, On, OnAll, Leads, zero-at, all-x, all-y, all-z, on-x, on-y, on-z, overlap-to, overlap-from}
use Rattle.grid.proofs.Readings.{read, at-grid}

-- ---- the way, by tests on floats
-- with both read from lo
from-lo : (x y : Float) (a b lo : ℕ) → At x a lo → At y b lo → le x y ≡ leb a b
from-lo x y a b lo h j = le_is x y a lo b lo a b h j (omega arith)

pub way→between : (d t : Float) (lo g e : ℕ) → At d g lo → At t e lo → Way lo g e → T (between zero64 d t)
unfolding between
way→between d t lo g e D E (upward h j) =
    or_l (le zero64 t && le t d) (le d t && le t zero64)
    (and_i (le zero64 t) (le t d) (subst T (sym (from-lo zero64 t lo e lo (zero-at lo) E)) (le→leb lo e h)) (subst T (sym (from-lo t d e g lo E D)) (le→leb e g j)))
way→between d t lo g e D E (downward h j) =
    or_r (le zero64 t && le t d) (le d t && le t zero64)
    (and_i (le d t) (le t zero64) (subst T (sym (from-lo d t g e lo D E)) (le→leb g e h)) (subst T (sym (from-lo t zero64 e lo lo E (zero-at lo))) (le→leb e lo j)))

-- a number on the grid that lies on the way to t lies at a place on the way to e
pub record Place (r : Float) (lo e : ℕ) : Type 0 where
  pub q : ℕ
  pub at : At r q lo
  pub way : Way lo e q

pub place : (t r : Float) (lo e : ℕ) → At t e lo → T (on_grid r) → T (between zero64 t r) → Place r lo e
unfolding between
place t r lo e E G b = go (or_split (le zero64 r && le r t) (le t r && le r zero64) b)
  where
    go : T (le zero64 r && le r t) ⊎ T (le t r && le r zero64) → Place r lo e
    go (inl h) =
        let R = read r G in
        let q = lo + R.plus - R.minus in
        let u : 0 + R.minus ≤ R.plus + 0 = leb→le (0 + R.minus) (R.plus + 0) (subst T (le-at zero64 r 0 0 R.plus R.minus (zero-at 0) R.at) (and_l (le zero64 r) (le r t) h)) in
        let w : R.plus + lo ≤ e + R.minus = leb→le (R.plus + lo) (e + R.minus) (subst T (le-at r t R.plus R.minus e lo R.at E) (and_r (le zero64 r) (le r t) h)) in
        record { q = q; at = at_same R.plus R.minus q lo (omega arith) R.at; way = upward (omega arith) (omega arith) }
    go (inr h) =
        let R = read r G in
        let q = lo + R.plus - R.minus in
        let u : R.plus + 0 ≤ 0 + R.minus = leb→le (R.plus + 0) (0 + R.minus) (subst T (le-at r zero64 R.plus R.minus 0 0 R.at (zero-at 0)) (and_r (le t r) (le r zero64) h)) in
        let w : e + R.minus ≤ R.plus + lo = leb→le (e + R.minus) (R.plus + lo) (subst T (le-at t r e lo R.plus R.minus E R.at) (and_l (le t r) (le r zero64) h)) in
        record { q = q; at = at_same R.plus R.minus q lo (omega arith) R.at; way = downward (omega arith) (omega arith) }

pub unit-at : At grid_unit 1 0
unit-at = record { sign = false; size = 1; value = (refl, refl); units = refl }

short-up : (lo g e : ℕ) → Way lo g e → lo < g → ¬ (e ≡ g) → e < g
short-up lo g e (upward h j) k n = omega arith
short-up lo g e (downward h j) k n = omega arith

short-down : (lo g e : ℕ) → Way lo g e → g ≤ lo → ¬ (e ≡ g) → (g < e) × (e ≤ lo)
short-down lo g e (upward h j) k n = (omega arith, omega arith)
short-down lo g e (downward h j) k n = (omega arith, omega arith)

-- ---- a block box that lies aside of the area: no box in there overlaps it
pub record Aside (area : Box) (o : Aabb) : Type 0 where
  pub apart : (f : Aabb) (c : Box) → On f c → BoxInside c area → T (overlap f o) → ⊥

pub aside : (area : Box) (o : Aabb) (box : Box) → On o box → ¬ (Overlap area box) → Aside area o
aside area o box O n = record { apart = λ f c C i t. n (overlap-grow c area box i (overlap-to f o c box C O t)) }

-- what holds of the whole-number boxes of a list holds of that of each of its boxes
record Among (o : Aabb) (P : Box → Type 0) : Type 0 where
  box : Box
  on : On o box
  holds : P box

among : (o : Aabb) (fs : List Aabb) (ws : List Box) (P : Box → Type 0) → OnAll fs ws → Memᴰ o fs → All P ws → Among o P
among o [] ws P F m a = elim m [ ]
among o (f ∷ fs) [] P F m a = absurd F
among o (f ∷ fs) (w ∷ ws) P F m a = go (Memᴰ.cases_cons m) (λ n. among o fs ws P F.1 n a.1)
  where
    go : (o ≡ f) ⊎ Memᴰ o fs → (Memᴰ o fs → Among o P) → Among o P
    go (inl e) rest = record { box = w; on = subst (λ (u : Aabb). On u w) (sym e) F.0; holds = a.0 }
    go (inr n) rest = rest n

record Hit (f : Aabb) (fs : List Aabb) : Type 0 where
  by : Aabb
  is : Memᴰ by fs
  hits : T (overlap f by)

hit : (f : Aabb) (c : Box) → On f c → (fs : List Aabb) (ws : List Box) → OnAll fs ws → W.Struck c ws → Hit f fs
hit f c C [] [] F h = absurd h
hit f c C [] (w ∷ ws) F h = absurd F
hit f c C (o ∷ fs) [] F h = absurd F
hit f c C (o ∷ fs) (w ∷ ws) F (inl h) = record { by = o; is = Memᴰ.head refl; hits = overlap-from f o c w C F.0 h }
hit f c C (o ∷ fs) (w ∷ ws) F (inr h) = let r = hit f c C fs ws F.1 h in record { by = r.by; is = Memᴰ.tail r.is; hits = r.hits }

module _ (Block : Aabb → Type 0) (fs : List Aabb) (ws : List Box) (F : OnAll fs ws) (O : All Solid ws) (area : Box)
    (back : (o : Aabb) → Memᴰ o fs → Block o) (seen : (o : Aabb) → Block o → Memᴰ o fs ⊎ Aside area o) where
  clear_of : (f : Aabb) (c : Box) → On f c → BoxInside c area → Free c ws → D.Free Block f
  clear_of f c C i free o b = not_T (overlap f o) (λ t. go t (seen o b))
    where
      go : T (overlap f o) → Memᴰ o fs ⊎ Aside area o → ⊥
      go t (inl m) = let a = among o fs ws (λ (w : Box). ¬ (Overlap c w)) F m free in a.holds (overlap-to f o c a.box C a.on t)
      go t (inr a) = a.apart f c C i t

  struck-of : (f : Aabb) (c : Box) → On f c → W.Struck c ws → Struck Block f
  struck-of f c C h = let r = hit f c C fs ws F h in record { by = r.by; is = back r.by r.is; hits = r.hits }

  -- ---- one axis
  module _ (along : Float → Aabb) (at : ℕ → Box) (s : Span) (thick : s.lo < s.hi) (room : s.hi ≤ top) (on : (t : Float) (q : ℕ) → Leads t s q → On (along t) (at q))
      (d t : Float) (g e : ℕ) (L : Leads d s g) (E : Leads t s e) (S : Sweep at s.lo ws g e) (inside : (q : ℕ) → Way s.lo g q → BoxInside (at q) area) where
    in-world : (q : ℕ) → Way s.lo e q → q + (s.hi - s.lo) ≤ top
    in-world q (upward h j) = let z : e + (s.hi - s.lo) ≤ top = E.within in omega arith
    in-world q (downward h j) = omega arith

    clear-way : (r : Float) → T (on_grid r) → T (between zero64 t r) → D.Free Block (along r)
    clear-way r G b =
        let p = place t r s.lo e E.at G b in
        clear_of (along r) (at p.q) (on r p.q record { at = p.at; within = in-world p.q p.way }) (inside p.q (way-trans s.lo g e p.q S.way p.way)) (S.clear p.q p.way)

    short : T (not (eq t d)) → ¬ (e ≡ g)
    short n h = go (eq t d) (eq-at t d e s.lo g s.lo E.at L.at) n
      where
        go : (b : Bool) → b ≡ eqb (e + s.lo) (g + s.lo) → T (not b) → ⊥
        go true z u = u
        go false z u = subst T (sym z) (eq→eqb {a = e + s.lo} {b = g + s.lo} (omega arith))

    up_one : s.lo < g → e < g → Struck Block (along (add binary64 t grid_unit))
    up_one h j =
        let R : g + (s.hi - s.lo) ≤ top = L.within in
        let A : At (add binary64 t grid_unit) (e + 1) s.lo = at_same (e + 1) (s.lo + 0) (e + 1) s.lo (omega arith) (add_at t grid_unit e s.lo 1 0 E.at unit-at (omega arith) (omega arith)) in
        struck-of (along (add binary64 t grid_unit)) (at (e + 1)) (on (add binary64 t grid_unit) (e + 1) (record { at = A; within = omega arith })) (S.far (e + 1) (above j refl))

    down-one : g < e → e ≤ s.lo → Struck Block (along (sub binary64 t grid_unit))
    down-one h j =
        let q = e - 1 in
        let A : At (sub binary64 t grid_unit) q s.lo = at_same (e + 0) (s.lo + 1) q s.lo (omega arith) (sub_at t grid_unit e s.lo 1 0 E.at unit-at (omega arith) (omega arith)) in
        struck-of (along (sub binary64 t grid_unit)) (at q) (on (sub binary64 t grid_unit) q (record { at = A; within = omega arith })) (S.far q (beneath h (omega arith)))

    far-way : T (not (eq t d)) → Struck Block (along (further t d))
    unfolding further choose
    far-way n =
        subst (λ (b : Bool). Struck Block (along (choose b (add binary64 t grid_unit) (sub binary64 t grid_unit))))
        (sym (lt-is zero64 d s.lo s.lo g s.lo s.lo g (zero-at s.lo) L.at (omega arith)))
        (go (ltb s.lo g) (ltb→lt s.lo g) (nltb→le s.lo g))
      where
        go : (b : Bool) → (T b → s.lo < g) → (T (not b) → g ≤ s.lo) → Struck Block (along (choose b (add binary64 t grid_unit) (sub binary64 t grid_unit)))
        go true f f' = up_one (f tt) (short-up s.lo g e S.way (f tt) (short n))
        go false f f' = let p = short-down s.lo g e S.way (f' tt) (short n) in down-one p.0 p.1

    travels : Travels Block along d t
    travels = record { exact = at-grid t e s.lo E.at; towards = way→between d t s.lo g e L.at E.at S.way; clear = clear-way; far = far-way }

  -- ---- y, x and z, from a box m that is v, towards gx, gy and gz, which the area holds
  module _ (m : Aabb) (v : Box) (M : On m v) (S : Solid v) (free : Free v ws) (d : Vec3) (gx gy gz : ℕ) (X : Leads d.x v.x gx) (Y : Leads d.y v.y gy) (Z : Leads d.z v.z gz)
      (ix : Inside (reach v.x gx) area.x) (iy : Inside (reach v.y gy) area.y) (iz : Inside (reach v.z gz) area.z) where
    grow : {s t u : Span} → Inside s t → Inside t u → Inside s u
    grow {s} {t} {u} a b =
        let p : t.lo ≤ s.lo = a.low in
        let q : s.hi ≤ t.hi = a.high in
        let h : u.lo ≤ t.lo = b.low in
        let j : t.hi ≤ u.hi = b.high in
        record { low = omega arith; high = omega arith }

    here-x : Inside v.x area.x
    here-x = grow (self-inside v.x gx) ix

    here-z : Inside v.z area.z
    here-z = grow (self-inside v.z gz) iz

    on-way-x : (q : ℕ) → Way v.x.lo gx q → Inside (slid v.x q) area.x
    on-way-x q w = grow (way-inside v.x gx q S.x w) ix

    on-way-y : (q : ℕ) → Way v.y.lo gy q → Inside (slid v.y q) area.y
    on-way-y q w = grow (way-inside v.y gy q S.y w) iy

    on-way-z : (q : ℕ) → Way v.z.lo gz q → Inside (slid v.z q) area.z
    on-way-z q w = grow (way-inside v.z gz q S.z w) iz

    pub record Course : Type 0 where
      pub y : Travels Block (moved_y m) d.y (clip_sequence fs m d).moved.y
      pub x : Travels Block (moved_x (moved_y m (clip_sequence fs m d).moved.y)) d.x (clip_sequence fs m d).moved.x
      pub z : Travels Block (moved_z (moved_x (moved_y m (clip_sequence fs m d).moved.y) (clip_sequence fs m d).moved.x)) d.z (clip_sequence fs m d).moved.z
      pub end : (clip_sequence fs m d).aabb ≡ moved_z (moved_x (moved_y m (clip_sequence fs m d).moved.y) (clip_sequence fs m d).moved.x) (clip_sequence fs m d).moved.z
      -- where it ends
      pub ex : ℕ
      pub ey : ℕ
      pub ez : ℕ
      pub way : Way v.y.lo gy ey
      pub rises : Leads (clip_sequence fs m d).moved.y v.y ey
      pub on : On (clip_sequence fs m d).aabb (to_z (to_x (to_y v ey) ex) ez)
      pub within : BoxInside (to_z (to_x (to_y v ey) ex) ez) area
      pub clear : Free (to_z (to_x (to_y v ey) ex) ez) ws

    pub course : Course
    unfolding clip_sequence
    course =
        let ey = end_y v ws gy in
        let sy = sweep-y v ws gy S O free in
        let dy = clip_all clip_y fs m d.y in
        let E1 : Leads dy v.y ey = all-y m v M S fs ws F d.y gy Y in
        let v1 = to_y v ey in
        let m1 = moved_y m dy in
        let M1 : On m1 v1 = on-y m v M S dy ey E1 in
        let S1 : Solid v1 = solid-y v ey S in
        let free1 : Free v1 ws = sy.clear ey (way-whole v.y.lo ey) in
        let ex = x_end_of v1 ws gx in
        let sx = sweep-x v1 ws gx S1 O free1 in
        let dx = clip_all clip_x fs m1 d.x in
        let E2 : Leads dx v.x ex = all-x m1 v1 M1 S1 fs ws F d.x gx X in
        let v2 = to_x v1 ex in
        let m2 = moved_x m1 dx in
        let M2 : On m2 v2 = on-x m1 v1 M1 S1 dx ex E2 in
        let S2 : Solid v2 = solid-x v1 ex S1 in
        let free2 : Free v2 ws = sx.clear ex (way-whole v.x.lo ex) in
        let ez = z_end_of v2 ws gz in
        let sz = sweep-z v2 ws gz S2 O free2 in
        let dz = clip_all clip_z fs m2 d.z in
        let E3 : Leads dz v.z ez = all-z m2 v2 M2 S2 fs ws F d.z gz Z in
        let v3 = to_z v2 ez in
        let m3 = moved_z m2 dz in
        record {
          y = travels (moved_y m) (to_y v) v.y S.y M.y.hi.within (on-y m v M S) d.y dy gy ey Y E1 sy (λ q w. record { x = here-x; y = on-way-y q w; z = here-z });
          x = travels (moved_x m1) (to_x v1) v.x S.x M.x.hi.within (on-x m1 v1 M1 S1) d.x dx gx ex X E2 sx (λ q w. record { x = on-way-x q w; y = on-way-y ey sy.way; z = here-z });
          z = travels (moved_z m2) (to_z v2) v.z S.z M.z.hi.within (on-z m2 v2 M2 S2) d.z dz gz ez Z E3 sz (λ q w. record { x = on-way-x ex sx.way; y = on-way-y ey sy.way; z = on-way-z q w });
          end = refl;
          ex = ex;
          ey = ey;
          ez = ez;
          way = sy.way;
          rises = E1;
          on = on-z m2 v2 M2 S2 dz ez E3;
          within = record { x = on-way-x ex sx.way; y = on-way-y ey sy.way; z = on-way-z ez sz.way };
          clear = sz.clear ez (way-whole v.z.lo ez);
        }

  -- ---- the move, where the step height h leads to gs
  module _ (m : Aabb) (v : Box) (M : On m v) (S : Solid v) (free : Free v ws) (d : Vec3) (h : Float) (gx gy gz gs : ℕ)
      (X : Leads d.x v.x gx) (Y : Leads d.y v.y gy) (Z : Leads d.z v.z gz) (H : Leads h v.y gs)
      (ix : Inside (reach v.x gx) area.x) (iy : Inside (reach v.y gy) area.y) (iz : Inside (reach v.z gz) area.z) (is : Inside (reach v.y gs) area.y) where
    -- there, up and back down
    back-down : (lo g e q : ℕ) → Way lo g e → Way e lo q → Way lo g q
    back-down lo g e q (upward a b) (upward r s) = upward (omega arith) (omega arith)
    back-down lo g e q (upward a b) (downward r s) = upward (omega arith) (omega arith)
    back-down lo g e q (downward a b) (upward r s) = downward (omega arith) (omega arith)
    back-down lo g e q (downward a b) (downward r s) = downward (omega arith) (omega arith)

    stepped-free : D.Free Block (stepped_up fs m d h).aabb
    unfolding stepped_up
    stepped-free =
        let up = clip_sequence fs m (vec d.x h d.z) in
        let c = course m v M S free (vec d.x h d.z) gx gs gz X H Z ix is iz in
        let lo = v.y.lo in
        let ey = c.ey in
        let v3 = to_z (to_x (to_y v ey) c.ex) c.ez in
        let s2 : Solid (to_x (to_y v ey) c.ex) = solid-x (to_y v ey) c.ex (solid-y v ey S) in
        let S3 : Solid v3 = record { x = s2.x; y = s2.y; z = (let t : v.z.lo < v.z.hi = S.z in omega arith) } in
        let thick : lo < v.y.hi = S.y in
        let room : v.y.hi ≤ top = M.y.hi.within in
        let N : Leads (neg up.moved.y) v3.y lo = record { at = neg-at up.moved.y ey lo c.rises.at; within = omega arith } in
        let e = end_y v3 ws lo in
        let sy = sweep-y v3 ws lo S3 O c.clear in
        let down = clip_all clip_y fs up.aabb (neg up.moved.y) in
        let E : Leads down v3.y e = all-y up.aabb v3 c.on S3 fs ws F (neg up.moved.y) lo N in
        let at : Inside (slid v.y e) area.y = on-way-y m v M S free (vec d.x h d.z) gx gs gz X H Z ix is iz e (back-down lo gs ey e c.way sy.way) in
        let under : area.y.lo ≤ e = at.low in
        let over : e + (v.y.hi - lo) ≤ area.y.hi = at.high in
        clear_of (moved_y up.aabb down) (to_y v3 e) (on-y up.aabb v3 c.on S3 down e E)
        (record { x = c.within.x; y = record { low = under; high = omega arith }; z = c.within.z })
        (sy.clear e (way-whole ey e))

    abbrev kept : Bool → Bool → Swept
    kept t l = choose t (choose l (stepped_up fs m d h) (clip_sequence fs m d)) (clip_sequence fs m d)

    abbrev result : Swept → Bool → MoveResult
    result s g = record { aabb = s.aabb; moved = s.moved; on_ground = g }

    pub move-demand : (grounded : Bool) → Demand3 Block (keeps_step fs m d h grounded) m d (move_over fs m d h grounded)
    unfolding move_over keeps_step choose
    move-demand grounded =
        let c = course m v M S free d gx gy gz X Y Z ix iy iz in
        go (tries_step d h grounded (clip_sequence fs m d).moved) (lt (flat_square (clip_sequence fs m d).moved) (flat_square (stepped_up fs m d h).moved))
        (clear_of (clip_sequence fs m d).aabb (to_z (to_x (to_y v c.ey) c.ex) c.ez) c.on c.within c.clear)
        (λ grounded. record { y = c.y; x = c.x; z = c.z; end = c.end })
      where
        go : (t l : Bool) → D.Free Block (clip_sequence fs m d).aabb → ((grounded : Bool) → Farthest Block m d (result (clip_sequence fs m d) grounded))
            → Demand3 Block (t && l) m d (result (kept t l) (stopped_falling d.y (kept t l).moved.y))
        go true true f w = record { free = stepped-free; farthest = (λ e. absurd (true≢false e)) }
        go true false f w = record { free = f; farthest = (λ e. w _) }
        go false l f w = record { free = f; farthest = (λ e. w _) }
