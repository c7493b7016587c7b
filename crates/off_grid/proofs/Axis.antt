-- One axis. A way is stopped at a box up to the rounding of a difference, and the mover's end comes to the box up to the rounding of a sum besides.
-- Assumes nothing.
use mathlib.Core.Path.{◌≡◌, refl, sym, subst}
use mathlib.Core.Bool.{Bool, true, false, not, ◌&&◌}
use mathlib.Core.List.{List, [], ◌∷◌}
use Prim.Native.Nat.{ℕ, ◌+◌, ◌*◌, ◌^◌, ◌≤◌, ◌<◌}
use native.Mathlib.Decide.{dec_le}
use native.Mathlib.Omega.{arith}
use lib.Dec.{T, leb→le, ltb→lt, nltb→le, nleb→lt, lit≤}
use lib.Ieee.{Float, binary64, add, sub, neg, lt, le}
use Rattle.base.specs.Choose.{choose}
use Rattle.floats.specs.Numbers.{zero64, least_of, greatest_of}
use Rattle.boxes.specs.declared.Aabb.{Aabb}
use Rattle.boxes.specs.Boxes.{stop_at}
use Rattle.sweeps.specs.Move.{clip_all}
use Rattle.base.proofs.Scaled.{over, under, Real, Within, Sum, sum_is, lt-is, le_is, zero-real, zero-over, zero-under, neg-over, neg-under, neg-within}

-- half of the last place of a number from 2 ^ 25 to 2 ^ 26, which is 2 ^ -28
unfoldable pub unit : ℕ
unit = 2 ^ 1046

-- ---- sums below 2 ^ 26, and differences below 2 ^ 27
pub sum_near : (x y : Float) (r q : ℕ) → Within x r → Within y q → r + q < 2 ^ 54 * unit → Sum x y (add binary64 x y) unit
unfolding unit
sum_near x y r q X Y S = sum_is 1046 (lit≤ tt) x y r q X Y S

-- z is x - y rounded
pub record Diff (x y z : Float) (h : ℕ) : Type 0 where
  pub real : Real z
  pub high : over z + (under x + over y) ≤ over x + under y + under z + h
  pub low : over x + under y + under z ≤ over z + (under x + over y) + h
  pub plus : under x + over y ≤ over x + under y → under z ≤ over z
  pub minus : over x + under y ≤ under x + over y → over z ≤ under z

twice : 2 ^ 1047 ≡ 2 * unit
unfolding unit
twice = refl

wide : (n : ℕ) → n < 2 ^ 55 * unit → n < 2 ^ 54 * 2 ^ 1047
unfolding unit
wide n h = h

pub diff-wide : (x y : Float) (r q : ℕ) → Within x r → Within y q → r + q < 2 ^ 55 * unit → Diff x y (sub binary64 x y) (2 * unit)
unfolding sub
diff-wide x y r q X Y S =
    let s : Sum x (neg y) (add binary64 x (neg y)) (2 * unit) = subst (λ (h : ℕ). Sum x (neg y) (add binary64 x (neg y)) h) twice (sum_is 1047 (lit≤ tt) x (neg y) r q X (neg-within Y) (wide (r + q) S)) in
    let a : over (neg y) ≡ under y = neg-over y in
    let b : under (neg y) ≡ over y = neg-under y in
    record {
      real = s.real;
      high = omega (arith, s.high);
      low = omega (arith, s.low);
      plus = λ (k : under x + over y ≤ over x + under y). s.plus (omega arith);
      minus = λ (k : over x + under y ≤ under x + over y). s.minus (omega arith);
    }

-- ---- w is on the way from 0 to d
pub data Way (d w : Float) : Type 0 where
  fore : under w ≤ over w → over w + under d ≤ over d + under w → Way d w
  back : over w ≤ under w → over d + under w ≤ over w + under d → Way d w

pub way-whole : (d : Float) → Way d d
way-whole d = elim (dec_le (under d) (over d)) [ yes k ↦ fore k (omega arith) | no k ↦ back (omega arith) (omega arith) ]

pub way-trans : {d e w : Float} → Way d e → Way e w → Way d w
way-trans (fore a b) (fore c f) = fore c (omega arith)
way-trans (fore a b) (back c f) = fore (omega arith) (omega arith)
way-trans (back a b) (fore c f) = back (omega arith) (omega arith)
way-trans (back a b) (back c f) = back c (omega arith)

-- ---- w stops at a box from lo to hi, whichever side of it the mover is on, up to 2 units
pub record Stops (lo hi from to w : Float) : Type 0 where
  pub ahead : over to + under lo ≤ over lo + under to → over w + (over to + under lo) ≤ over lo + under to + under w + 2 * unit
  pub behind : over hi + under from ≤ over from + under hi → over hi + under from + under w ≤ over w + (over from + under hi) + 2 * unit

pub stops-on : {lo hi from to w v : Float} → Stops lo hi from to w → Way w v → Stops lo hi from to v
stops-on s (fore a b) = record {
  ahead = λ h. let k = s.ahead h in omega arith;
  behind = λ h. omega arith;
}
stops-on s (back a b) = record {
  ahead = λ h. omega arith;
  behind = λ h. let k = s.behind h in omega arith;
}

-- ---- from the tests to the facts
pub lt→ : {x y : Float} → Real x → Real y → T (lt x y) → over x + under y < over y + under x
lt→ {x} {y} X Y t = ltb→lt (over x + under y) (over y + under x) (subst T (lt-is X Y) t)

pub nlt→ : {x y : Float} → Real x → Real y → T (not (lt x y)) → over y + under x ≤ over x + under y
nlt→ {x} {y} X Y t = nltb→le (over x + under y) (over y + under x) (subst (λ (b : Bool). T (not b)) (lt-is X Y) t)

pub le→ : {x y : Float} → Real x → Real y → T (le x y) → over x + under y ≤ over y + under x
le→ {x} {y} X Y t = leb→le (over x + under y) (over y + under x) (subst T (le_is X Y) t)

pub nle→ : {x y : Float} → Real x → Real y → T (not (le x y)) → over y + under x < over x + under y
nle→ {x} {y} X Y t = nleb→lt (over x + under y) (over y + under x) (subst (λ (b : Bool). T (not b)) (le_is X Y) t)

pub positive : {d : Float} → Real d → T (lt zero64 d) → under d < over d
positive D t = let h = lt→ zero-real D t in let a = zero-over in let b = zero-under in omega arith

pub not-positive : {d : Float} → Real d → T (not (lt zero64 d)) → over d ≤ under d
not-positive D t = let h = nlt→ zero-real D t in let a = zero-over in let b = zero-under in omega arith

pub negative : {d : Float} → Real d → T (lt d zero64) → over d < under d
negative D t = let h = lt→ D zero-real t in let a = zero-over in let b = zero-under in omega arith

pub not_negative : {d : Float} → Real d → T (not (lt d zero64)) → under d ≤ over d
not_negative D t = let h = nlt→ D zero-real t in let a = zero-over in let b = zero-under in omega arith

-- ---- one box
pub record Clipped (lo hi from to d w : Float) : Type 0 where
  pub real : Real w
  pub way : Way d w
  pub stops : Stops lo hi from to w

module _ (lo hi from to d : Float) (r q : ℕ) (LO : Within lo r) (HI : Within hi r) (FROM : Within from q) (TO : Within to q) (D : Real d) (S : r + q < 2 ^ 55 * unit) where
  unclipped : (under d < over d → over lo + under to < over to + under lo) → (over d < under d → over from + under hi < over hi + under from) → Clipped lo hi from to d d
  unclipped f g = record {
    real = D;
    way = way-whole d;
    stops = record { ahead = λ h. ahead h (dec_le (over d) (under d)); behind = λ h. behind h (dec_le (under d) (over d)) };
  }
    where
      ahead : over to + under lo ≤ over lo + under to → Dec (over d ≤ under d) → over d + (over to + under lo) ≤ over lo + under to + under d + 2 * unit
      ahead h (yes k) = omega arith
      ahead h (no k) = absurd (let l = f (omega arith) in omega arith)

      behind : over hi + under from ≤ over from + under hi → Dec (under d ≤ over d) → over hi + under from + under d ≤ over d + (over from + under hi) + 2 * unit
      behind h (yes k) = omega arith
      behind h (no k) = absurd (let l = g (omega arith) in omega arith)

  stop-ahead : under d < over d → over to + under lo ≤ over lo + under to → Clipped lo hi from to d (least_of d (sub binary64 lo to))
  unfolding choose
  stop-ahead h k = go (lt (sub binary64 lo to) d) (lt→ s.real D) (nlt→ s.real D)
    where
      s : Diff lo to (sub binary64 lo to) (2 * unit)
      s = diff-wide lo to r q LO TO S

      go : (b : Bool) → (T b → over (sub binary64 lo to) + under d < over d + under (sub binary64 lo to)) → (T (not b) → over d + under (sub binary64 lo to) ≤ over (sub binary64 lo to) + under d)
          → Clipped lo hi from to d (choose b (sub binary64 lo to) d)
      go true f g =
          let a = f tt in
          let b = s.high in
          let c : under (sub binary64 lo to) ≤ over (sub binary64 lo to) = s.plus (omega arith) in
          record { real = s.real; way = fore c (omega arith); stops = record { ahead = λ i. omega arith; behind = λ i. omega arith } }
      go false f g =
          let a = g tt in
          let b = s.high in
          record { real = D; way = way-whole d; stops = record { ahead = λ i. omega arith; behind = λ i. omega arith } }

  stop-behind : over d < under d → over hi + under from ≤ over from + under hi → Clipped lo hi from to d (greatest_of d (sub binary64 hi from))
  unfolding choose
  stop-behind h k = go (lt d (sub binary64 hi from)) (lt→ D s.real) (nlt→ D s.real)
    where
      s : Diff hi from (sub binary64 hi from) (2 * unit)
      s = diff-wide hi from r q HI FROM S

      go : (b : Bool) → (T b → over d + under (sub binary64 hi from) < over (sub binary64 hi from) + under d) → (T (not b) → over (sub binary64 hi from) + under d ≤ over d + under (sub binary64 hi from))
          → Clipped lo hi from to d (choose b (sub binary64 hi from) d)
      go true f g =
          let a = f tt in
          let b = s.low in
          let c : over (sub binary64 hi from) ≤ under (sub binary64 hi from) = s.minus (omega arith) in
          record { real = s.real; way = back c (omega arith); stops = record { ahead = λ i. omega arith; behind = λ i. omega arith } }
      go false f g =
          let a = g tt in
          let b = s.low in
          record { real = D; way = way-whole d; stops = record { ahead = λ i. omega arith; behind = λ i. omega arith } }

  pub stop-one : Clipped lo hi from to d (stop_at lo hi from to d)
  unfolding choose
  stop-one =
      go (lt zero64 d) (positive D) (not-positive D) (le to lo) (le→ TO.real LO.real) (nle→ TO.real LO.real)
      (lt d zero64) (negative D) (not_negative D) (le hi from) (le→ HI.real FROM.real) (nle→ HI.real FROM.real)
    where
      go : (a : Bool) → (T a → under d < over d) → (T (not a) → over d ≤ under d)
          → (b : Bool) → (T b → over to + under lo ≤ over lo + under to) → (T (not b) → over lo + under to < over to + under lo)
          → (c : Bool) → (T c → over d < under d) → (T (not c) → under d ≤ over d)
          → (e : Bool) → (T e → over hi + under from ≤ over from + under hi) → (T (not e) → over from + under hi < over hi + under from)
          → Clipped lo hi from to d (choose (a && b) (least_of d (sub binary64 lo to)) (choose (c && e) (greatest_of d (sub binary64 hi from)) d))
      go true a a' true b b' c f f' e g g' = stop-ahead (a tt) (b tt)
      go true a a' false b b' true f f' e g g' = absurd (let u = a tt in let v = f tt in omega arith)
      go true a a' false b b' false f f' e g g' = unclipped (λ k. b' tt) (λ k. absurd (let u = a tt in omega arith))
      go false a a' b x x' true f f' true g g' = stop-behind (f tt) (g tt)
      go false a a' b x x' true f f' false g g' = unclipped (λ k. absurd (let u = f tt in omega arith)) (λ k. g' tt)
      go false a a' b x x' false f f' e g g' = unclipped (λ k. absurd (let u = a' tt in omega arith)) (λ k. absurd (let u = f' tt in omega arith))

-- ---- a list of boxes
abbrev pub All : (Aabb → Type 0) → List Aabb → Type 0
All P [] = Unit {0}
All P (b ∷ bs) = P b × All P bs

pub all_map : {P Q : Aabb → Type 0} → ((b : Aabb) → P b → Q b) → (bs : List Aabb) → All P bs → All Q bs
all_map f [] h = tt
all_map f (b ∷ bs) h = (f b h.0, all_map f bs h.1)

pub all-map3 : {P Q R S : Aabb → Type 0} → ((b : Aabb) → P b → Q b → R b → S b) → (bs : List Aabb) → All P bs → All Q bs → All R bs → All S bs
all-map3 f [] h i j = tt
all-map3 f (b ∷ bs) h i j = (f b h.0 i.0 j.0, all-map3 f bs h.1 i.1 j.1)

-- of a mover a, a box whose ends on the axis are low and high; `beside` says that the mover passes it by on another axis
pub record Ends (low high : Aabb → Float) (r : ℕ) (b : Aabb) : Type 0 where
  pub lo : Within (low b) r
  pub hi : Within (high b) r

abbrev pub Stopped : (Aabb → Float) → (Aabb → Float) → (Aabb → Bool) → Aabb → Float → Aabb → Type 0
Stopped low high beside a w b = T (not (beside b)) → Stops (low b) (high b) (low a) (high a) w

pub record Course (low high : Aabb → Float) (beside : Aabb → Bool) (a : Aabb) (d w : Float) (bs : List Aabb) : Type 0 where
  pub real : Real w
  pub way : Way d w
  pub stops : All (Stopped low high beside a w) bs

module _ (clip : Aabb → Aabb → Float → Float) (low high : Aabb → Float) (beside : Aabb → Bool) (a : Aabb)
    (is : (b : Aabb) (d : Float) → clip b a d ≡ choose (beside b) d (stop_at (low b) (high b) (low a) (high a) d))
    (r q : ℕ) (FROM : Within (low a) q) (TO : Within (high a) q) (S : r + q < 2 ^ 55 * unit) where
  record One (t : Bool) (b : Aabb) (d w : Float) : Type 0 where
    pub real : Real w
    pub way : Way d w
    pub stops : T (not t) → Stops (low b) (high b) (low a) (high a) w

  clip-one : (b : Aabb) (d : Float) → Ends low high r b → Real d → One (beside b) b d (clip b a d)
  unfolding choose
  clip-one b d E D = subst (λ (w : Float). One (beside b) b d w) (sym (is b d)) (go (beside b))
    where
      c : Clipped (low b) (high b) (low a) (high a) d (stop_at (low b) (high b) (low a) (high a) d)
      c = stop-one (low b) (high b) (low a) (high a) d r q E.lo E.hi FROM TO D S

      go : (t : Bool) → One t b d (choose t d (stop_at (low b) (high b) (low a) (high a) d))
      go true = record { real = D; way = way-whole d; stops = λ i. absurd i }
      go false = record { real = c.real; way = c.way; stops = λ i. c.stops }

  pub clips : (bs : List Aabb) (d : Float) → All (Ends low high r) bs → Real d → Course low high beside a d (clip_all clip bs a d) bs
  unfolding clip_all
  clips [] d E D = record { real = D; way = way-whole d; stops = tt }
  clips (b ∷ bs) d E D =
      let o = clip-one b d E.0 D in
      let c = clips bs (clip b a d) E.1 o.real in
      record { real = c.real; way = way-trans o.way c.way; stops = (λ i. stops-on (o.stops i) c.way, c.stops) }

-- ---- how far the mover reaches into the box: at most e from before it, or at most f from beyond it
pub data Short (lo hi from to : Float) (e f : ℕ) : Type 0 where
  before : over to + under lo ≤ over lo + under to + e → Short lo hi from to e f
  beyond : over hi + under from ≤ over from + under hi + f → Short lo hi from to e f

pub weaken : {lo hi from to : Float} {e f e' f' : ℕ} → e ≤ e' → f ≤ f' → Short lo hi from to e f → Short lo hi from to e' f'
weaken u v (before h) = before (omega arith)
weaken u v (beyond h) = beyond (omega arith)

module _ {lo hi from to w from' to' : Float} (s : Stops lo hi from to w) (F : Sum from w from' unit) (G : Sum to w to' unit) where
  pub land : Short lo hi from to 0 0 → Short lo hi from' to' (3 * unit) (3 * unit)
  land (before h) = let k = s.ahead (omega arith) in let l = G.high in before (omega arith)
  land (beyond h) = let k = s.behind (omega arith) in let l = F.low in beyond (omega arith)

  -- a way that is not downward: what is below stays below, exactly
  pub rise : under w ≤ over w → Short lo hi from to 0 0 → Short lo hi from' to' (3 * unit) 0
  rise u (before h) = let k = s.ahead (omega arith) in let l = G.high in before (omega arith)
  rise u (beyond h) = let k = F.up u in beyond (omega arith)

  -- a way that is not upward: a ceiling comes no nearer
  pub sink : over w ≤ under w → Short lo hi from to (3 * unit) 0 → Short lo hi from' to' (3 * unit) (3 * unit)
  sink u (before h) = let k = G.down u in before (omega arith)
  sink u (beyond h) = let k = s.behind (omega arith) in let l = F.low in beyond (omega arith)

-- +0 is added on the two other axes
pub zeros : {x y : Float} → Sum x zero64 y unit → over x + under y ≡ over y + under x
zeros H =
    let a = zero-over in
    let b = zero-under in
    let k = H.up (omega arith) in
    let l = H.down (omega arith) in
    omega arith

pub stay : {lo hi from to from' to' : Float} {e f : ℕ} → Sum from zero64 from' unit → Sum to zero64 to' unit → Short lo hi from to e f → Short lo hi from' to' e f
stay {lo} {hi} {from} {to} {from'} {to'} {e} {f} F G s = go s (zeros F) (zeros G)
  where
    go : Short lo hi from to e f → over from + under from' ≡ over from' + under from → over to + under to' ≡ over to' + under to → Short lo hi from' to' e f
    go (before h) u v = before (omega arith)
    go (beyond h) u v = beyond (omega arith)
