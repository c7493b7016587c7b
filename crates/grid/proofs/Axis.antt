-- One axis, over whole numbers of grid units counted from a base far below every box: so a position is a ℕ. A delta is told by the position that it
-- leads to. `travel`: clipped at each of a list of obstacles, a mover goes as far as it can. Assumes nothing.
use mathlib.Core.Path.{◌≡◌, sym, subst}
use mathlib.Core.Logic.{◌⊎◌, inl, inr}
use mathlib.Core.Bool.{Bool, true, false, not, ◌&&◌, cond}
use mathlib.Core.List.{List, [], ◌∷◌}
use Prim.Native.Nat.{ℕ, ◌+◌, ◌-◌, ◌≤◌, ◌<◌, min, max}
use native.Mathlib.Nat.{le_refl, le_trans, eq-or-lt_of_le}
use native.Mathlib.Decide.{dec_le}
use native.Mathlib.Omega.{arith}
use lib.Dec.{T, ltb, leb, leb→le, ltb→lt, lt→ltb, nltb→le, nleb→lt}
use lib.Ieee.Fits.{and_i, and_l, and_r}

pub record Span : Type 0 where
  pub lo : ℕ
  pub hi : ℕ

-- they share more than an edge
unfoldable pub meets : Span → Span → Bool
meets m o = ltb m.lo o.hi && ltb o.lo m.hi

-- m moved so that its lower end is at q
abbrev pub slid : Span → ℕ → Span
slid m q = record { lo = q; hi = q + (m.hi - m.lo) }

-- what o leaves of a move of m whose lower end would come to g; `beside` says that the two meet on both of the other axes
unfoldable pub clip : Bool → Span → Span → ℕ → ℕ
clip beside m o g =
    cond beside
    (cond (ltb m.lo g && leb m.hi o.lo) (min g (o.lo + m.lo - m.hi))
    (cond (ltb g m.lo && leb o.hi m.lo) (max g o.hi) g))
    g

-- ---- from the tests to the facts
pub record Meets (m o : Span) : Type 0 where
  pub under : m.lo < o.hi
  pub over : o.lo < m.hi

pub meets→ : (m o : Span) → T (meets m o) → Meets m o
unfolding meets
meets→ m o t = record { under = ltb→lt m.lo o.hi (and_l (ltb m.lo o.hi) (ltb o.lo m.hi) t); over = ltb→lt o.lo m.hi (and_r (ltb m.lo o.hi) (ltb o.lo m.hi) t) }

pub →meets : (m o : Span) → Meets m o → T (meets m o)
unfolding meets
→meets m o h = and_i (ltb m.lo o.hi) (ltb o.lo m.hi) (lt→ltb m.lo o.hi h.under) (lt→ltb o.lo m.hi h.over)

-- q is on the way from a to g, the ends counted
pub data Way (a g q : ℕ) : Type 0 where
  upward : a ≤ q → q ≤ g → Way a g q
  downward : g ≤ q → q ≤ a → Way a g q

-- g' is the next after q on the way from a to g
pub data Next (q g q' : ℕ) : Type 0 where
  above : q < g → q' ≡ q + 1 → Next q g q'
  beneath : g < q → q' + 1 ≡ q → Next q g q'

split : (a b : ℕ) → (a ≤ b) ⊎ (b < a)
split a b = elim (dec_le a b) [ yes h ↦ inl h | no h ↦ inr (omega arith) ]

-- ---- one obstacle
record Clipped (m o : Span) (g e : ℕ) : Type 0 where
  pub way : Way m.lo g e
  pub clear : (q : ℕ) → Way m.lo e q → ¬ (Meets (slid m q) o)
  pub far : (q : ℕ) → Next e g q → Meets (slid m q) o

module _ (m o : Span) (g : ℕ) (M : m.lo < m.hi) (O : o.lo < o.hi) (start : ¬ (Meets m o)) where
  low-side : o.lo < m.hi → o.hi ≤ m.lo
  low-side h = let z : ¬ (m.lo < o.hi) = (λ (u : m.lo < o.hi). start (record { under = u; over = h })) in omega arith

  high-side : m.lo < o.hi → m.hi ≤ o.lo
  high-side h = let z : ¬ (o.lo < m.hi) = (λ (u : o.lo < m.hi). start (record { under = h; over = u })) in omega arith

  clip-up : m.lo < g → m.hi ≤ o.lo → Clipped m o g (min g (o.lo + m.lo - m.hi))
  clip-up h j = record {
    way = upward (omega arith) (omega arith);
    clear = (λ (q : ℕ) (w : Way m.lo (min g (o.lo + m.lo - m.hi)) q) (u : Meets (slid m q) o). cl q w u);
    far = (λ (q : ℕ) (n : Next (min g (o.lo + m.lo - m.hi)) g q). fa q n);
  }
    where
      cl : (q : ℕ) → Way m.lo (min g (o.lo + m.lo - m.hi)) q → Meets (slid m q) o → ⊥
      cl q (upward a b) u = omega arith
      cl q (downward a b) u = omega arith

      fa : (q : ℕ) → Next (min g (o.lo + m.lo - m.hi)) g q → Meets (slid m q) o
      fa q (above a b) = record { under = omega arith; over = omega arith }
      fa q (beneath a b) = record { under = omega arith; over = omega arith }

  clip-down : g < m.lo → o.hi ≤ m.lo → Clipped m o g (max g o.hi)
  clip-down h j = record {
    way = downward (omega arith) (omega arith);
    clear = (λ (q : ℕ) (w : Way m.lo (max g o.hi) q) (u : Meets (slid m q) o). cl q w u);
    far = (λ (q : ℕ) (n : Next (max g o.hi) g q). fa q n);
  }
    where
      cl : (q : ℕ) → Way m.lo (max g o.hi) q → Meets (slid m q) o → ⊥
      cl q (upward a b) u = omega arith
      cl q (downward a b) u = omega arith

      fa : (q : ℕ) → Next (max g o.hi) g q → Meets (slid m q) o
      fa q (above a b) = record { under = omega arith; over = omega arith }
      fa q (beneath a b) = record { under = omega arith; over = omega arith }

  -- no clip: o is on the other side, or there is no move
  clip-none : (m.lo < g → o.hi ≤ m.lo) → (g < m.lo → m.hi ≤ o.lo) → Clipped m o g g
  clip-none h j = record {
    way = elim (split m.lo g) [ inl u ↦ upward u (le_refl g) | inr u ↦ downward (le_refl g) (omega arith) ];
    clear = (λ (q : ℕ) (w : Way m.lo g q) (u : Meets (slid m q) o). cl q w u);
    far = (λ (q : ℕ) (n : Next g g q). fa q n);
  }
    where
      cl : (q : ℕ) → Way m.lo g q → Meets (slid m q) o → ⊥
      cl q (upward a b) u = elim (eq-or-lt_of_le (le_trans a b)) [ inl e ↦ start (record { under = omega arith; over = omega arith }) | inr k ↦ (let z : o.hi ≤ m.lo = h k in omega arith) ]
      cl q (downward a b) u = elim (eq-or-lt_of_le (le_trans a b)) [ inl e ↦ start (record { under = omega arith; over = omega arith }) | inr k ↦ (let z : m.hi ≤ o.lo = j k in omega arith) ]

      fa : (q : ℕ) → Next g g q → Meets (slid m q) o
      fa q (above a b) = record { under = omega arith; over = omega arith }
      fa q (beneath a b) = record { under = omega arith; over = omega arith }

  clip-one : Clipped m o g (clip true m o g)
  unfolding clip
  clip-one =
      go (ltb m.lo g) (ltb→lt m.lo g) (nltb→le m.lo g) (leb m.hi o.lo) (leb→le m.hi o.lo) (nleb→lt m.hi o.lo)
      (ltb g m.lo) (ltb→lt g m.lo) (nltb→le g m.lo) (leb o.hi m.lo) (leb→le o.hi m.lo) (nleb→lt o.hi m.lo)
    where
      go : (a : Bool) → (T a → m.lo < g) → (T (not a) → g ≤ m.lo) → (b : Bool) → (T b → m.hi ≤ o.lo) → (T (not b) → o.lo < m.hi)
          → (c : Bool) → (T c → g < m.lo) → (T (not c) → m.lo ≤ g) → (d : Bool) → (T d → o.hi ≤ m.lo) → (T (not d) → m.lo < o.hi)
          → Clipped m o g (cond (a && b) (min g (o.lo + m.lo - m.hi)) (cond (c && d) (max g o.hi) g))
      go true a a' true b b' c e e' d f f' = clip-up (a tt) (b tt)
      go true a a' false b b' true e e' d f f' = absurd (let u : m.lo < g = a tt in let v : g < m.lo = e tt in omega arith)
      go true a a' false b b' false e e' d f f' = clip-none (λ (k : m.lo < g). low-side (b' tt)) (λ (k : g < m.lo). absurd (let u : m.lo < g = a tt in omega arith))
      go false a a' b x x' true e e' true f f' = clip-down (e tt) (f tt)
      go false a a' b x x' true e e' false f f' = clip-none (λ (k : m.lo < g). absurd (let u : g < m.lo = e tt in omega arith)) (λ (k : g < m.lo). high-side (f' tt))
      go false a a' b x x' false e e' d f f' = clip-none (λ (k : m.lo < g). absurd (let u : g ≤ m.lo = a' tt in omega arith)) (λ (k : g < m.lo). absurd (let u : m.lo ≤ g = e' tt in omega arith))

-- ---- a list of obstacles
abbrev pub All {ℓ} : {A : Type ℓ} → (A → Type 0) → List A → Type 0
All P [] = Unit {0}
All P (x ∷ xs) = P x × All P xs

abbrev pub Any {ℓ} : {A : Type ℓ} → (A → Type 0) → List A → Type 0
Any P [] = ⊥
Any P (x ∷ xs) = P x ⊎ Any P xs

pub record Hits (beside : Bool) (m o : Span) : Type 0 where
  pub side : T beside
  pub meet : Meets m o

pub way-trans : (a g f e : ℕ) → Way a g f → Way a f e → Way a g e
way-trans a g f e (upward p q) (upward r s) = upward (omega arith) (omega arith)
way-trans a g f e (upward p q) (downward r s) = upward (omega arith) (omega arith)
way-trans a g f e (downward p q) (upward r s) = downward (omega arith) (omega arith)
way-trans a g f e (downward p q) (downward r s) = downward (omega arith) (omega arith)

pub way-whole : (a g : ℕ) → Way a g g
way-whole a g = elim (split a g) [ inl u ↦ upward u (le_refl g) | inr u ↦ downward (le_refl g) (omega arith) ]

next_of : (a g f e q : ℕ) → Way a g f → Way a f e → Next e g q → Next e f q ⊎ (e ≡ f)
next_of a g f e q (upward r s) (upward t u) (above h j) = elim (eq-or-lt_of_le u) [ inl z ↦ inr z | inr z ↦ inl (above z j) ]
next_of a g f e q (upward r s) (downward t u) (above h j) = inr (omega arith)
next_of a g f e q (downward r s) (upward t u) (above h j) = inr (omega arith)
next_of a g f e q (downward r s) (downward t u) (above h j) = inr (omega arith)
next_of a g f e q (upward r s) (upward t u) (beneath h j) = inr (omega arith)
next_of a g f e q (upward r s) (downward t u) (beneath h j) = inr (omega arith)
next_of a g f e q (downward r s) (upward t u) (beneath h j) = inr (omega arith)
next_of a g f e q (downward r s) (downward t u) (beneath h j) = elim (eq-or-lt_of_le t) [ inl z ↦ inr (sym z) | inr z ↦ inl (beneath z j) ]

-- the travel of m towards g ends at e: there and on the way it meets nothing, and one unit further on, if g is further on, it would
pub record Travel {A : Type 0} (beside : A → Bool) (span : A → Span) (m : Span) (os : List A) (g e : ℕ) : Type 0 where
  pub way : Way m.lo g e
  pub clear : (q : ℕ) → Way m.lo e q → All (λ (o : A). ¬ (Hits (beside o) (slid m q) (span o))) os
  pub far : (q : ℕ) → Next e g q → Any (λ (o : A). Hits (beside o) (slid m q) (span o)) os

unfoldable pub clips : {A : Type 0} → (A → Bool) → (A → Span) → Span → List A → ℕ → ℕ
unfolding clip
clips beside span m [] g = g
clips beside span m (o ∷ os) g = clips beside span m os (clip (beside o) m (span o) g)

record Step (b : Bool) (m o : Span) (g e : ℕ) : Type 0 where
  way : Way m.lo g e
  clear : (q : ℕ) → Way m.lo e q → ¬ (Hits b (slid m q) o)
  far : (q : ℕ) → Next e g q → Hits b (slid m q) o

step : (b : Bool) (m o : Span) (g : ℕ) → m.lo < m.hi → o.lo < o.hi → ¬ (Hits b m o) → Step b m o g (clip b m o g)
unfolding clip
step true m o g M O s =
    let c : Clipped m o g (clip true m o g) = clip-one m o g M O (λ (h : Meets m o). s (record { side = tt; meet = h })) in
    record { way = c.way; clear = (λ (q : ℕ) (w : Way m.lo (clip true m o g) q) (h : Hits true (slid m q) o). c.clear q w h.meet); far = (λ (q : ℕ) (n : Next (clip true m o g) g q). record { side = tt; meet = c.far q n }) }
step false m o g M O s = record { way = way-whole m.lo g; clear = (λ (q : ℕ) (w : Way m.lo g q) (h : Hits false (slid m q) o). h.side); far = (λ (q : ℕ) (n : Next g g q). absurd (stuck q n)) }
  where
    stuck : (q : ℕ) → Next g g q → ⊥
    stuck q (above h j) = omega arith
    stuck q (beneath h j) = omega arith

pub travel : {A : Type 0} (beside : A → Bool) (span : A → Span) (m : Span) (os : List A) (g : ℕ) → m.lo < m.hi → All (λ (o : A). (span o).lo < (span o).hi) os
    → All (λ (o : A). ¬ (Hits (beside o) m (span o))) os → Travel beside span m os g (clips beside span m os g)
unfolding clips
travel beside span m [] g M O s = record { way = way-whole m.lo g; clear = (λ (q : ℕ) (w : Way m.lo g q). tt); far = (λ (q : ℕ) (n : Next g g q). stuck q n) }
  where
    stuck : (q : ℕ) → Next g g q → ⊥
    stuck q (above h j) = omega arith
    stuck q (beneath h j) = omega arith
travel {A} beside span m (o ∷ os) g M O s =
    let f = clip (beside o) m (span o) g in
    let e = clips beside span m os f in
    let c : Step (beside o) m (span o) g f = step (beside o) m (span o) g M O.0 s.0 in
    let r : Travel beside span m os f e = travel beside span m os f M O.1 s.1 in
    record {
      way = way-trans m.lo g f e c.way r.way;
      clear = (λ (q : ℕ) (w : Way m.lo e q). (c.clear q (way-trans m.lo f e q r.way w), r.clear q w));
      far = (λ (q : ℕ) (n : Next e g q). further f e c r q (next_of m.lo g f e q c.way r.way n) n);
    }
  where
    further : (f e : ℕ) → Step (beside o) m (span o) g f → Travel beside span m os f e → (q : ℕ) → Next e f q ⊎ (e ≡ f) → Next e g q → Hits (beside o) (slid m q) (span o) ⊎ Any (λ (o : A). Hits (beside o) (slid m q) (span o)) os
    further f e c r q (inl n) k = inr (r.far q n)
    further f e c r q (inr z) k = inl (c.far q (subst (λ (i : ℕ). Next i g q) z k))
