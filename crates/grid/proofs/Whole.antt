-- Three axes, over whole numbers: what one axis of a move leaves free, and how far it gets. Assumes nothing.
use mathlib.Core.Bool.{Bool, ◌&&◌}
use mathlib.Core.List.{List, [], ◌∷◌}
use Prim.Native.Nat.{ℕ, ◌+◌, ◌-◌, ◌≤◌, ◌<◌, min, max}
use mathlib.Core.Logic.{inl, inr}
use native.Mathlib.Omega.{arith}
use lib.Ieee.Fits.{and_i, and_l, and_r}
use Rattle.grid.proofs.Axis.{Span, meets, Meets, meets→, →meets, slid, Way, upward, downward, Next, Hits, All, Any, Travel, clips, travel}

pub record Box : Type 0 where
  pub x : Span
  pub y : Span
  pub z : Span

pub record Overlap (a b : Box) : Type 0 where
  pub x : Meets a.x b.x
  pub y : Meets a.y b.y
  pub z : Meets a.z b.z

pub record Solid (a : Box) : Type 0 where
  pub x : a.x.lo < a.x.hi
  pub y : a.y.lo < a.y.hi
  pub z : a.z.lo < a.z.hi

abbrev pub Free : Box → List Box → Type 0
Free m os = All (λ (o : Box). ¬ (Overlap m o)) os

abbrev pub Struck : Box → List Box → Type 0
Struck m os = Any (λ (o : Box). Overlap m o) os

abbrev pub to_y : Box → ℕ → Box
to_y m q = record { x = m.x; y = slid m.y q; z = m.z }

abbrev pub to_x : Box → ℕ → Box
to_x m q = record { x = slid m.x q; y = m.y; z = m.z }

abbrev pub to_z : Box → ℕ → Box
to_z m q = record { x = m.x; y = m.y; z = slid m.z q }

abbrev pub beside_y : Box → Box → Bool
beside_y m o = meets m.x o.x && meets m.z o.z

abbrev pub beside_x : Box → Box → Bool
beside_x m o = meets m.y o.y && meets m.z o.z

abbrev pub beside_z : Box → Box → Bool
beside_z m o = meets m.x o.x && meets m.y o.y

-- ---- what is claimed of one axis: `at q` is the mover with its lower end at q, `from` is where it was
pub record Sweep (at : ℕ → Box) (from : ℕ) (os : List Box) (goal end : ℕ) : Type 0 where
  pub way : Way from goal end
  pub clear : (q : ℕ) → Way from end q → Free (at q) os
  pub far : (q : ℕ) → Next end goal q → Struck (at q) os

unfoldable pub end_y : Box → List Box → ℕ → ℕ
unfolding clips
end_y m os g = clips (beside_y m) (λ (o : Box). o.y) m.y os g

unfoldable pub x_end_of : Box → List Box → ℕ → ℕ
unfolding clips
x_end_of m os g = clips (beside_x m) (λ (o : Box). o.x) m.x os g

unfoldable pub z_end_of : Box → List Box → ℕ → ℕ
unfolding clips
z_end_of m os g = clips (beside_z m) (λ (o : Box). o.z) m.z os g

all_map : {A : Type 0} (P Q : A → Type 0) → ((a : A) → P a → Q a) → (l : List A) → All P l → All Q l
all_map P Q f [] h = tt
all_map P Q f (a ∷ l) h = (f a h.0, all_map P Q f l h.1)

any-map : {A : Type 0} (P Q : A → Type 0) → ((a : A) → P a → Q a) → (l : List A) → Any P l → Any Q l
any-map P Q f [] h = h
any-map P Q f (a ∷ l) (inl h) = inl (f a h)
any-map P Q f (a ∷ l) (inr h) = inr (any-map P Q f l h)

-- ---- an overlap, as one axis sees it
overlap-y : (m o : Box) → Overlap m o → Hits (beside_y m o) m.y o.y
overlap-y m o h = record { side = and_i (meets m.x o.x) (meets m.z o.z) (→meets m.x o.x h.x) (→meets m.z o.z h.z); meet = h.y }

overlap-x : (m o : Box) → Overlap m o → Hits (beside_x m o) m.x o.x
overlap-x m o h = record { side = and_i (meets m.y o.y) (meets m.z o.z) (→meets m.y o.y h.y) (→meets m.z o.z h.z); meet = h.x }

overlap-z : (m o : Box) → Overlap m o → Hits (beside_z m o) m.z o.z
overlap-z m o h = record { side = and_i (meets m.x o.x) (meets m.y o.y) (→meets m.x o.x h.x) (→meets m.y o.y h.y); meet = h.z }

y-overlap : (m o : Box) → Hits (beside_y m o) m.y o.y → Overlap m o
y-overlap m o h = record { x = meets→ m.x o.x (and_l (meets m.x o.x) (meets m.z o.z) h.side); y = h.meet; z = meets→ m.z o.z (and_r (meets m.x o.x) (meets m.z o.z) h.side) }

x-overlap : (m o : Box) → Hits (beside_x m o) m.x o.x → Overlap m o
x-overlap m o h = record { x = h.meet; y = meets→ m.y o.y (and_l (meets m.y o.y) (meets m.z o.z) h.side); z = meets→ m.z o.z (and_r (meets m.y o.y) (meets m.z o.z) h.side) }

z-overlap : (m o : Box) → Hits (beside_z m o) m.z o.z → Overlap m o
z-overlap m o h = record { x = meets→ m.x o.x (and_l (meets m.x o.x) (meets m.y o.y) h.side); y = meets→ m.y o.y (and_r (meets m.x o.x) (meets m.y o.y) h.side); z = h.meet }

-- ---- each axis
sweep : (at : ℕ → Box) (m : Box) (beside : Box → Bool) (span : Box → Span) (s : Span) → ((o : Box) → Hits (beside o) s (span o) → Overlap m o)
    → ((q : ℕ) (o : Box) → Hits (beside o) (slid s q) (span o) → Overlap (at q) o) → ((q : ℕ) (o : Box) → Overlap (at q) o → Hits (beside o) (slid s q) (span o))
    → ((o : Box) → Solid o → (span o).lo < (span o).hi) → (os : List Box) (g : ℕ) → s.lo < s.hi → All Solid os → Free m os → Sweep at s.lo os g (clips beside span s os g)
sweep at m beside span s here to fro thick os g S O free =
    let e = clips beside span s os g in
    let t : Travel beside span s os g e
    = travel beside span s os g S (all_map Solid (λ (o : Box). (span o).lo < (span o).hi) thick os O)
    (all_map (λ (o : Box). ¬ (Overlap m o)) (λ (o : Box). ¬ (Hits (beside o) s (span o))) (λ (o : Box) (n : ¬ (Overlap m o)) (h : Hits (beside o) s (span o)). n (here o h)) os free) in
    record {
      way = t.way;
      clear = (λ (q : ℕ) (w : Way s.lo e q). all_map (λ (o : Box). ¬ (Hits (beside o) (slid s q) (span o))) (λ (o : Box). ¬ (Overlap (at q) o)) (λ (o : Box) (n : ¬ (Hits (beside o) (slid s q) (span o))) (h : Overlap (at q) o). n (fro q o h)) os (t.clear q w));
      far = (λ (q : ℕ) (n : Next e g q). any-map (λ (o : Box). Hits (beside o) (slid s q) (span o)) (λ (o : Box). Overlap (at q) o) (to q) os (t.far q n));
    }

module _ (m : Box) (os : List Box) (g : ℕ) (M : Solid m) (O : All Solid os) (free : Free m os) where
  pub sweep-y : Sweep (to_y m) m.y.lo os g (end_y m os g)
  unfolding end_y
  sweep-y = sweep (to_y m) m (beside_y m) (λ (o : Box). o.y) m.y (y-overlap m) (λ (q : ℕ). y-overlap (to_y m q)) (λ (q : ℕ). overlap-y (to_y m q)) (λ (o : Box) (s : Solid o). s.y) os g M.y O free

  pub sweep-x : Sweep (to_x m) m.x.lo os g (x_end_of m os g)
  unfolding x_end_of
  sweep-x = sweep (to_x m) m (beside_x m) (λ (o : Box). o.x) m.x (x-overlap m) (λ (q : ℕ). x-overlap (to_x m q)) (λ (q : ℕ). overlap-x (to_x m q)) (λ (o : Box) (s : Solid o). s.x) os g M.x O free

  pub sweep-z : Sweep (to_z m) m.z.lo os g (z_end_of m os g)
  unfolding z_end_of
  sweep-z = sweep (to_z m) m (beside_z m) (λ (o : Box). o.z) m.z (z-overlap m) (λ (q : ℕ). z-overlap (to_z m q)) (λ (q : ℕ). overlap-z (to_z m q)) (λ (o : Box) (s : Solid o). s.z) os g M.z O free

pub solid-y : (m : Box) (q : ℕ) → Solid m → Solid (to_y m q)
solid-y m q s = record { x = s.x; y = (let h : m.y.lo < m.y.hi = s.y in omega arith); z = s.z }

pub solid-x : (m : Box) (q : ℕ) → Solid m → Solid (to_x m q)
solid-x m q s = record { y = s.y; x = (let h : m.x.lo < m.x.hi = s.x in omega arith); z = s.z }

-- ---- what a box covers on its way
pub record Inside (s t : Span) : Type 0 where
  pub low : t.lo ≤ s.lo
  pub high : s.hi ≤ t.hi

-- what a span covers on its way to g
unfoldable pub reach : Span → ℕ → Span
reach s g = record { lo = min s.lo g; hi = max s.hi (g + (s.hi - s.lo)) }

pub self-inside : (s : Span) (g : ℕ) → Inside s (reach s g)
unfolding reach
self-inside s g = record { low = omega arith; high = omega arith }

pub way-inside : (s : Span) (g q : ℕ) → s.lo < s.hi → Way s.lo g q → Inside (slid s q) (reach s g)
unfolding reach
way-inside s g q h (upward a b) = record { low = omega arith; high = omega arith }
way-inside s g q h (downward a b) = record { low = omega arith; high = omega arith }

pub record BoxInside (a b : Box) : Type 0 where
  pub x : Inside a.x b.x
  pub y : Inside a.y b.y
  pub z : Inside a.z b.z

meets-grow : (a b o : Span) → Inside a b → Meets a o → Meets b o
meets-grow a b o i h = record { under = (let l : b.lo ≤ a.lo = i.low in let u : a.lo < o.hi = h.under in omega arith); over = (let l : a.hi ≤ b.hi = i.high in let u : o.lo < a.hi = h.over in omega arith) }

pub overlap-grow : (a b o : Box) → BoxInside a b → Overlap a o → Overlap b o
overlap-grow a b o i h = record { x = meets-grow a.x b.x o.x i.x h.x; y = meets-grow a.y b.y o.y i.y h.y; z = meets-grow a.z b.z o.z i.z h.z }
