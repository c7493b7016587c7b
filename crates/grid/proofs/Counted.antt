-- The clips, passes, offsets and overlaps of a move, counted in units: over boxes on the grid each is that of whole numbers, `clip` and `Overlap` of
-- `Axis` and `Whole`. Assumes nothing.
use mathlib.Core.Path.{◌≡◌, refl, sym, ap, ◌∙◌, subst}
use mathlib.Core.Bool.{Bool, true, false, not, ◌&&◌, ◌||◌, cond, and_comm}
use mathlib.Core.List.{List, [], ◌∷◌}
use Prim.Native.Nat.{ℕ, ◌+◌, ◌-◌, ◌^◌, ◌≤◌, ◌<◌, min, max}
use native.Mathlib.Omega.{arith}
use lib.Dec.{T, ltb, leb, ltb→lt, leb→le, nltb→le}
use lib.Ieee.{Float, binary64, of_bits, add, sub, lt, le}
use lib.Ieee.Fits.{and_l, and_r, and_i}
use Rattle.base.specs.Choose.{choose}
use Rattle.base.proofs.Tests.{leb-not, and_is, or_is, neither}
use Rattle.floats.specs.Numbers.{zero64, least_of, greatest_of}
use Rattle.boxes.specs.declared.Aabb.{Aabb}
use Rattle.boxes.specs.Boxes.{meet, overlap, apart, stop_at, clip_x, clip_y, clip_z}
use Rattle.sweeps.specs.Move.{clip_all}
use Rattle.grid.specs.Demand.{moved_x, moved_y, moved_z}
use Rattle.grid.proofs.Units.{At, add_at, sub_at, at_same, lt-is, le_is}
use Rattle.grid.proofs.Axis.{Span, meets, meets→, →meets, slid, clip, clips}
use Rattle.grid.proofs.Whole.{Box, Solid, Overlap, to_x, to_y, to_z, beside_x, beside_y, beside_z, x_end_of, end_y, z_end_of}

-- ---- on the grid: the position v stands for (v - 2 ^ 40) / 4096
abbrev pub base : ℕ
base = 2 ^ 40

abbrev pub top : ℕ
top = 2 ^ 41

pub record Pos (f : Float) (v : ℕ) : Type 0 where
  pub at : At f v base
  pub within : v ≤ top

pub record OnSpan (a b : Float) (s : Span) : Type 0 where
  pub lo : Pos a s.lo
  pub hi : Pos b s.hi

pub record On (f : Aabb) (w : Box) : Type 0 where
  pub x : OnSpan f.min.x f.max.x w.x
  pub y : OnSpan f.min.y f.max.y w.y
  pub z : OnSpan f.min.z f.max.z w.z

abbrev pub OnAll : List Aabb → List Box → Type 0
OnAll [] [] = Unit {0}
OnAll [] (w ∷ ws) = ⊥
OnAll (f ∷ fs) [] = ⊥
OnAll (f ∷ fs) (w ∷ ws) = On f w × OnAll fs ws

-- a share d of the delta leads the span's lower end to the position g, and its upper end stays in the world
pub record Leads (d : Float) (s : Span) (g : ℕ) : Type 0 where
  pub at : At d g s.lo
  pub within : g + (s.hi - s.lo) ≤ top

pub zero-at : (a : ℕ) → At zero64 a a
unfolding of_bits
zero-at a = record { sign = false; size = 0; value = (refl, refl); units = omega arith }

-- ---- tests
pub choose-at : (b c : Bool) (x y : Float) (p q n : ℕ) → b ≡ c → (T c → At x p n) → (T (not c) → At y q n) → At (choose b x y) (cond c p q) n
unfolding choose
choose-at b c x y p q n e f g = subst (λ (u : Bool). At (choose u x y) (cond c p q) n) (sym e) (go c f g)
  where
    go : (c : Bool) → (T c → At x p n) → (T (not c) → At y q n) → At (choose c x y) (cond c p q) n
    go true f g = f tt
    go false f g = g tt

least_at : (x y : Float) (p q n : ℕ) → At x p n → At y q n → At (least_of x y) (min p q) n
least_at x y p q n h j =
    at_same (cond (ltb q p) q p) n (min p q) n (ap (λ (z : ℕ). z + n) (go (ltb q p) (ltb→lt q p) (nltb→le q p)))
    (choose-at (lt y x) (ltb q p) y x q p n (lt-is y x q n p n q p j h (omega arith)) (λ t. j) (λ t. h))
  where
    go : (b : Bool) → (T b → q < p) → (T (not b) → p ≤ q) → cond b q p ≡ min p q
    go true f g = let z = f tt in omega arith
    go false f g = let z = g tt in omega arith

greatest-at : (x y : Float) (p q n : ℕ) → At x p n → At y q n → At (greatest_of x y) (max p q) n
greatest-at x y p q n h j =
    at_same (cond (ltb p q) q p) n (max p q) n (ap (λ (z : ℕ). z + n) (go (ltb p q) (ltb→lt p q) (nltb→le p q)))
    (choose-at (lt x y) (ltb p q) y x q p n (lt-is x y p n q n p q h j (omega arith)) (λ t. j) (λ t. h))
  where
    go : (b : Bool) → (T b → p < q) → (T (not b) → q ≤ p) → cond b q p ≡ max p q
    go true f g = let z = f tt in omega arith
    go false f g = let z = g tt in omega arith

pos-lt : (x y : Float) (a b : ℕ) → Pos x a → Pos y b → lt x y ≡ ltb a b
pos-lt x y a b h j = lt-is x y a base b base a b h.at j.at (omega arith)

pos-le : (x y : Float) (a b : ℕ) → Pos x a → Pos y b → le x y ≡ leb a b
pos-le x y a b h j = le_is x y a base b base a b h.at j.at (omega arith)

-- ---- meeting on one axis, and passing by
meets-is : (al ah bl bh : Float) (a b : Span) → OnSpan al ah a → OnSpan bl bh b → meet al ah bl bh ≡ meets a b
unfolding meets
meets-is al ah bl bh a b h j = and_is (lt al bh) (lt bl ah) (ltb a.lo b.hi) (ltb b.lo a.hi) (pos-lt al bh a.lo b.hi h.lo j.hi) (pos-lt bl ah b.lo a.hi j.lo h.hi)

-- o goes from lo to hi, and the mover m from `from` to `to`
apart-is : (lo hi from to : Float) (m o : Span) → OnSpan from to m → OnSpan lo hi o → apart lo hi from to ≡ not (meets m o)
unfolding meets
apart-is lo hi from to m o M O =
    or_is (le to lo) (le hi from) (not (ltb o.lo m.hi)) (not (ltb m.lo o.hi))
    (pos-le to lo m.hi o.lo M.hi O.lo ∙ leb-not m.hi o.lo) (pos-le hi from o.hi m.lo O.hi M.lo ∙ leb-not o.hi m.lo)
    ∙ neither (ltb o.lo m.hi) (ltb m.lo o.hi)
    ∙ ap not (and_comm (ltb o.lo m.hi) (ltb m.lo o.hi))

-- ---- one obstacle
-- the gap from one end to another, as a lead from the mover's lower end
gap_at : (x y : Float) (a b lo r : ℕ) → Pos x a → Pos y b → a + lo ≡ r + b → At (sub binary64 x y) r lo
gap_at x y a b lo r h j e =
    let A : a ≤ top = h.within in
    let B : b ≤ top = j.within in
    at_same (a + base) (base + b) r lo (omega arith) (sub_at x y a base b base h.at j.at (omega arith) (omega arith))

module _ (lo hi from to d : Float) (m o : Span) (g : ℕ) (thick : m.lo < m.hi) (M : OnSpan from to m) (O : OnSpan lo hi o) (D : Leads d m g) where
  ahead : T (ltb m.lo g && leb m.hi o.lo) → At (least_of d (sub binary64 lo to)) (min g (o.lo + m.lo - m.hi)) m.lo
  ahead t =
      let h : m.hi ≤ o.lo = leb→le m.hi o.lo (and_r (ltb m.lo g) (leb m.hi o.lo) t) in
      least_at d (sub binary64 lo to) g (o.lo + m.lo - m.hi) m.lo D.at (gap_at lo to o.lo m.hi m.lo (o.lo + m.lo - m.hi) O.lo M.hi (omega arith))

  behind : At (greatest_of d (sub binary64 hi from)) (max g o.hi) m.lo
  behind = greatest-at d (sub binary64 hi from) g o.hi m.lo D.at (gap_at hi from o.hi m.lo m.lo o.hi O.hi M.lo (omega arith))

  stop-at : At (stop_at lo hi from to d) (clip true m o g) m.lo
  unfolding clip
  stop-at =
      choose-at (lt zero64 d && le to lo) (ltb m.lo g && leb m.hi o.lo) (least_of d (sub binary64 lo to))
      (choose (lt d zero64 && le hi from) (greatest_of d (sub binary64 hi from)) d)
      (min g (o.lo + m.lo - m.hi)) (cond (ltb g m.lo && leb o.hi m.lo) (max g o.hi) g) m.lo
      (and_is (lt zero64 d) (le to lo) (ltb m.lo g) (leb m.hi o.lo) (lt-is zero64 d m.lo m.lo g m.lo m.lo g (zero-at m.lo) D.at (omega arith)) (pos-le to lo m.hi o.lo M.hi O.lo))
      ahead
      (λ n.
      choose-at (lt d zero64 && le hi from) (ltb g m.lo && leb o.hi m.lo) (greatest_of d (sub binary64 hi from)) d (max g o.hi) g m.lo
      (and_is (lt d zero64) (le hi from) (ltb g m.lo) (leb o.hi m.lo) (lt-is d zero64 g m.lo m.lo m.lo g m.lo D.at (zero-at m.lo) (omega arith)) (pos-le hi from o.hi m.lo O.hi M.lo))
      (λ u. behind) (λ u. D.at))

  clip-within : (c : Bool) → clip c m o g + (m.hi - m.lo) ≤ top
  unfolding clip
  clip-within c = go c (ltb m.lo g && leb m.hi o.lo) (ltb g m.lo && leb o.hi m.lo) (λ t. leb→le o.hi m.lo (and_r (ltb g m.lo) (leb o.hi m.lo) t))
    where
      go : (c u v : Bool) → (T v → o.hi ≤ m.lo) → cond c (cond u (min g (o.lo + m.lo - m.hi)) (cond v (max g o.hi) g)) g + (m.hi - m.lo) ≤ top
      go true true v l = let h : g + (m.hi - m.lo) ≤ top = D.within in omega arith
      go true false true l = let h : g + (m.hi - m.lo) ≤ top = D.within in let k : o.hi ≤ m.lo = l tt in let j : m.hi ≤ top = M.hi.within in omega arith
      go true false false l = D.within
      go false u v l = D.within

  -- p tells that the mover passes by
  clip-at : (p c : Bool) → p ≡ not c → Leads (choose p d (stop_at lo hi from to d)) m (clip c m o g)
  unfolding choose clip
  clip-at p c e = record { at = go p c e; within = clip-within c }
    where
      go : (p c : Bool) → p ≡ not c → At (choose p d (stop_at lo hi from to d)) (clip c m o g) m.lo
      go true true e = absurd (subst T e tt)
      go true false e = D.at
      go false true e = stop-at
      go false false e = absurd (subst T (sym e) tt)

-- on each axis: the float's clip is the whole numbers' clip
module _ (b mover : Aabb) (w v : Box) (B : On b w) (M : On mover v) (S : Solid v) (d : Float) (g : ℕ) where
  clip-x-at : Leads d v.x g → Leads (clip_x b mover d) v.x (clip (beside_x v w) v.x w.x g)
  clip-x-at D =
      clip-at b.min.x b.max.x mover.min.x mover.max.x d v.x w.x g S.x M.x B.x D
      (apart b.min.y b.max.y mover.min.y mover.max.y || apart b.min.z b.max.z mover.min.z mover.max.z) (beside_x v w)
      (or_is _ _ _ _ (apart-is b.min.y b.max.y mover.min.y mover.max.y v.y w.y M.y B.y) (apart-is b.min.z b.max.z mover.min.z mover.max.z v.z w.z M.z B.z) ∙ neither (meets v.y w.y) (meets v.z w.z))

  clip-y-at : Leads d v.y g → Leads (clip_y b mover d) v.y (clip (beside_y v w) v.y w.y g)
  clip-y-at D =
      clip-at b.min.y b.max.y mover.min.y mover.max.y d v.y w.y g S.y M.y B.y D
      (apart b.min.x b.max.x mover.min.x mover.max.x || apart b.min.z b.max.z mover.min.z mover.max.z) (beside_y v w)
      (or_is _ _ _ _ (apart-is b.min.x b.max.x mover.min.x mover.max.x v.x w.x M.x B.x) (apart-is b.min.z b.max.z mover.min.z mover.max.z v.z w.z M.z B.z) ∙ neither (meets v.x w.x) (meets v.z w.z))

  clip-z-at : Leads d v.z g → Leads (clip_z b mover d) v.z (clip (beside_z v w) v.z w.z g)
  clip-z-at D =
      clip-at b.min.z b.max.z mover.min.z mover.max.z d v.z w.z g S.z M.z B.z D
      (apart b.min.x b.max.x mover.min.x mover.max.x || apart b.min.y b.max.y mover.min.y mover.max.y) (beside_z v w)
      (or_is _ _ _ _ (apart-is b.min.x b.max.x mover.min.x mover.max.x v.x w.x M.x B.x) (apart-is b.min.y b.max.y mover.min.y mover.max.y v.y w.y M.y B.y) ∙ neither (meets v.x w.x) (meets v.y w.y))

-- ---- the list
clip-all : (c : Aabb → Aabb → Float → Float) (mover : Aabb) (beside : Box → Bool) (span : Box → Span) (s : Span)
    → ((f : Aabb) (w : Box) (d : Float) (g : ℕ) → On f w → Leads d s g → Leads (c f mover d) s (clip (beside w) s (span w) g))
    → (fs : List Aabb) (ws : List Box) (d : Float) (g : ℕ) → OnAll fs ws → Leads d s g → Leads (clip_all c fs mover d) s (clips beside span s ws g)
unfolding clip_all clips
clip-all c mover beside span s h [] [] d g a D = D
clip-all c mover beside span s h [] (w ∷ ws) d g a D = absurd a
clip-all c mover beside span s h (f ∷ fs) [] d g a D = absurd a
clip-all c mover beside span s h (f ∷ fs) (w ∷ ws) d g a D = clip-all c mover beside span s h fs ws (c f mover d) (clip (beside w) s (span w) g) a.1 (h f w d g a.0 D)

module _ (m : Aabb) (v : Box) (M : On m v) (S : Solid v) (fs : List Aabb) (ws : List Box) (F : OnAll fs ws) (d : Float) (g : ℕ) where
  pub all-y : Leads d v.y g → Leads (clip_all clip_y fs m d) v.y (end_y v ws g)
  unfolding end_y
  all-y D = clip-all clip_y m (beside_y v) (λ (o : Box). o.y) v.y (λ f w d g B. clip-y-at f m w v B M S d g) fs ws d g F D

  pub all-x : Leads d v.x g → Leads (clip_all clip_x fs m d) v.x (x_end_of v ws g)
  unfolding x_end_of
  all-x D = clip-all clip_x m (beside_x v) (λ (o : Box). o.x) v.x (λ f w d g B. clip-x-at f m w v B M S d g) fs ws d g F D

  pub all-z : Leads d v.z g → Leads (clip_all clip_z fs m d) v.z (z_end_of v ws g)
  unfolding z_end_of
  all-z D = clip-all clip_z m (beside_z v) (λ (o : Box). o.z) v.z (λ f w d g B. clip-z-at f m w v B M S d g) fs ws d g F D

-- ---- the offset along one axis; the other two gain 0
offset_at : (a b t : Float) (s : Span) (e : ℕ) → s.lo < s.hi → OnSpan a b s → Leads t s e → OnSpan (add binary64 a t) (add binary64 b t) (slid s e)
offset_at a b t s e thick h D =
    let A : s.lo ≤ top = h.lo.within in
    let B : s.hi ≤ top = h.hi.within in
    let E : e + (s.hi - s.lo) ≤ top = D.within in
    record {
      lo = record { at = at_same (s.lo + e) (base + s.lo) e base (omega arith) (add_at a t s.lo base e s.lo h.lo.at D.at (omega arith) (omega arith)); within = omega arith };
      hi = record { at = at_same (s.hi + e) (base + s.lo) (e + (s.hi - s.lo)) base (omega arith) (add_at b t s.hi base e s.lo h.hi.at D.at (omega arith) (omega arith)); within = E };
    }

stays : (a : Float) (v : ℕ) → Pos a v → Pos (add binary64 a zero64) v
stays a v h = let A : v ≤ top = h.within in record { at = at_same (v + 0) (base + 0) v base (omega arith) (add_at a zero64 v base 0 0 h.at (zero-at 0) (omega arith) (omega arith)); within = A }

still : (a b : Float) (s : Span) → OnSpan a b s → OnSpan (add binary64 a zero64) (add binary64 b zero64) s
still a b s h = record { lo = stays a s.lo h.lo; hi = stays b s.hi h.hi }

module _ (m : Aabb) (v : Box) (M : On m v) (S : Solid v) (t : Float) (q : ℕ) where
  pub on-x : Leads t v.x q → On (moved_x m t) (to_x v q)
  on-x L = record { x = offset_at m.min.x m.max.x t v.x q S.x M.x L; y = still m.min.y m.max.y v.y M.y; z = still m.min.z m.max.z v.z M.z }

  pub on-y : Leads t v.y q → On (moved_y m t) (to_y v q)
  on-y L = record { x = still m.min.x m.max.x v.x M.x; y = offset_at m.min.y m.max.y t v.y q S.y M.y L; z = still m.min.z m.max.z v.z M.z }

  pub on-z : Leads t v.z q → On (moved_z m t) (to_z v q)
  on-z L = record { x = still m.min.x m.max.x v.x M.x; y = still m.min.y m.max.y v.y M.y; z = offset_at m.min.z m.max.z t v.z q S.z M.z L }

-- ---- overlaps
module _ (a b : Aabb) (v w : Box) (A : On a v) (B : On b w) where
  x-is : meet a.min.x a.max.x b.min.x b.max.x ≡ meets v.x w.x
  x-is = meets-is a.min.x a.max.x b.min.x b.max.x v.x w.x A.x B.x

  y-is : meet a.min.y a.max.y b.min.y b.max.y ≡ meets v.y w.y
  y-is = meets-is a.min.y a.max.y b.min.y b.max.y v.y w.y A.y B.y

  z-is : meet a.min.z a.max.z b.min.z b.max.z ≡ meets v.z w.z
  z-is = meets-is a.min.z a.max.z b.min.z b.max.z v.z w.z A.z B.z

  overlap-is : overlap a b ≡ meets v.x w.x && (meets v.y w.y && meets v.z w.z)
  overlap-is = and_is _ _ _ _ x-is (and_is _ _ _ _ y-is z-is)

  pub overlap-to : T (overlap a b) → Overlap v w
  overlap-to t =
      let u = subst T overlap-is t in
      let yz = and_r (meets v.x w.x) (meets v.y w.y && meets v.z w.z) u in
      record {
        x = meets→ v.x w.x (and_l (meets v.x w.x) (meets v.y w.y && meets v.z w.z) u);
        y = meets→ v.y w.y (and_l (meets v.y w.y) (meets v.z w.z) yz);
        z = meets→ v.z w.z (and_r (meets v.y w.y) (meets v.z w.z) yz);
      }

  pub overlap-from : Overlap v w → T (overlap a b)
  overlap-from h =
      subst T (sym overlap-is)
      (and_i (meets v.x w.x) (meets v.y w.y && meets v.z w.z) (→meets v.x w.x h.x)
      (and_i (meets v.y w.y) (meets v.z w.z) (→meets v.y w.y h.y) (→meets v.z w.z h.z)))
