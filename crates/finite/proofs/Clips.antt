-- A clip never lengthens the way: whatever the box, of any numbers, the way after it is finite and no longer than before (`all-within`). A box ahead
-- leaves a difference that is not below zero, and the lesser of that and the way is taken; behind, the same the other way round. Assumes nothing.
use mathlib.Core.Path.{◌≡◌, refl, sym, ap, subst}
use mathlib.Core.Bool.{Bool, true, false, not, ◌&&◌, ◌||◌, cond, true≢false, false≢true}
use mathlib.Core.List.{List, [], ◌∷◌}
use Prim.Native.Nat.{ℕ, zero, ◌+◌, ◌-◌, ◌*◌, ◌≤◌, ◌<◌}
use native.Mathlib.Nat.{le_of_eq, le_of_lt, mul-pos}
use native.Mathlib.Omega.{arith}
use lib.Dec.{T, ltb, eqb, ltb→lt, nltb→le, eqb→eq}
use lib.Ieee.{Float, nan, inf, fin, binary64, up, down, round, neg, sum, add, sub, lt, le, eq, below, level}
use lib.Ieee.Fits.{down_pos}
use lib.Ieee.Positive.{through}
use Rattle.base.specs.Choose.{choose}
use Rattle.base.proofs.Every.{both}
use Rattle.base.proofs.Bounds.{Within, HasSign, round-sign, round-most, whole, or-le, more, either-most}
use Rattle.floats.specs.Numbers.{zero64}
use Rattle.boxes.specs.declared.Aabb.{Aabb}
use Rattle.boxes.specs.Boxes.{stop_at, clip_x, clip_y, clip_z}
use Rattle.sweeps.specs.Move.{clip_all}

-- z is ±n / d rounded, on the side s of zero or zero itself
data Side (s : Bool) (z : Float) : Type 0 where
  there : (n d : ℕ) → z ≡ round binary64 s n d → Side s z
  naught : (u : Bool) (d : ℕ) → 0 < d → z ≡ round binary64 u 0 d → Side s z

-- ---- the difference of ±a and ±b, where ±b is not above ±a, or not below
gone : (a b : ℕ) → a ≤ b → a - b ≡ 0
gone a b p = omega arith

no-sum : (a b : ℕ) → a ≡ b → b ≡ 0 → a + b ≡ 0
no-sum a b e f = omega arith

both_zero : (a b : ℕ) → T (eqb b a && eqb b 0) → a + b ≡ 0
both_zero a b t = go (eqb b a) (eqb→eq b a) t
  where
    go : (p : Bool) → (T p → b ≡ a) → T (p && eqb b 0) → a + b ≡ 0
    go true f t = no-sum a b (sym (f tt)) (eqb→eq b 0 t)
    go false f t = absurd t

-- at most, where equality was tested the other way round
le-turned : (a b : ℕ) → T (ltb a b || (eqb b a && true)) → a ≤ b
le-turned a b = go (ltb a b) (eqb b a) (ltb→lt a b) (eqb→eq b a)
  where
    go : (p q : Bool) → (T p → a < b) → (T q → b ≡ a) → T (p || (q && true)) → a ≤ b
    go true q f g t = le_of_lt (f tt)
    go false true f g t = le_of_eq (sym (g tt))
    go false false f g t = absurd t

module _ (a b d : ℕ) (D : 0 < d) where
  -- a - b, b ≤ a, with the sign s where it is not zero
  less : (s : Bool) → b ≤ a → Side s (sum binary64 s a (not s) b d)
  unfolding sum
  less false h = go (ltb a b) (ltb→lt a b)
    where
      go : (t : Bool) → (T t → a < b) → Side false (cond t (round binary64 true (b - a) d) (round binary64 false (a - b) d))
      go true f = let z : a < b = f tt in absurd (omega arith)
      go false f = there (a - b) d refl
  less true h = go (ltb a b) (ltb b a) (ltb→lt a b) (nltb→le b a)
    where
      go : (t u : Bool) → (T t → a < b) → (T (not u) → a ≤ b) → Side true (cond t (round binary64 false (b - a) d) (round binary64 (true && u) (a - b) d))
      go true u f g = let z : a < b = f tt in absurd (omega arith)
      go false true f g = there (a - b) d refl
      go false false f g = naught false d D (ap (λ (n : ℕ). round binary64 false n d) (gone a b (g tt)))

  -- b - a, a ≤ b, with the sign not s
  turned : (s : Bool) → a ≤ b → Side (not s) (sum binary64 s a (not s) b d)
  unfolding sum
  turned false h = go (ltb a b) (nltb→le a b)
    where
      go : (t : Bool) → (T (not t) → b ≤ a) → Side true (cond t (round binary64 true (b - a) d) (round binary64 false (a - b) d))
      go true f = there (b - a) d refl
      go false f = let z : b ≤ a = f tt in naught false d D (ap (λ (n : ℕ). round binary64 false n d) (gone a b h))
  turned true h = go (ltb a b) (ltb b a) (ltb→lt b a)
    where
      go : (t u : Bool) → (T u → b < a) → Side false (cond t (round binary64 false (b - a) d) (round binary64 (true && u) (a - b) d))
      go true u f = there (b - a) d refl
      go false true f = let z : b < a = f tt in absurd (omega arith)
      go false false f = naught false d D (ap (λ (n : ℕ). round binary64 false n d) (gone a b h))

  -- ±b is not above ±a
  ahead : (s t : Bool) → T (below t b s a || level t b s a) → Side false (sum binary64 s a (not t) b d)
  unfolding sum
  ahead false false h = less false (or-le b a true h)
  ahead false true h = there (a + b) d refl
  ahead true false h = naught true d D (ap (λ (n : ℕ). round binary64 true n d) (both_zero a b h))
  ahead true true h = turned true (le-turned a b h)

  -- ±a is not above ±b
  behind : (s t : Bool) → T (below s a t b || level s a t b) → Side true (sum binary64 s a (not t) b d)
  unfolding sum
  behind false false h = turned false (or-le a b true h)
  behind false true h = naught false d D (ap (λ (n : ℕ). round binary64 false n d) (turn (both_zero b a h)))
    where
      turn : b + a ≡ 0 → a + b ≡ 0
      turn e = omega arith
  behind true false h = there (a + b) d refl
  behind true true h = less true (le-turned b a h)

-- ---- a difference between zero and the way is no longer than the way
zero-within : (u : Bool) (d n : ℕ) → 0 < d → Within (round binary64 u 0 d) n
zero-within u d n D = more _ 0 n (round-most u 0 d D (whole 0 (le-zero _)) (le-zero _)) (le-zero n)
  where
    le-zero : (k : ℕ) → 0 ≤ k
    le-zero k = omega arith

under : (z d : Float) (n : ℕ) → HasSign z false → Within d n → lt z d ≡ true → Within z n
unfolding lt
under nan d n s h l = absurd s
under (inf true) d n s h l = absurd (true≢false s)
under (inf false) nan n s h l = absurd h.is
under (inf false) (inf t) n s h l = absurd h.is
under (inf false) (fin t j g) n s h l = absurd (false≢true l)
under (fin true m e) d n s h l = absurd (true≢false s)
under (fin false m e) nan n s h l = absurd h.is
under (fin false m e) (inf t) n s h l = absurd h.is
under (fin false m e) (fin true j g) n s h l = absurd (false≢true l)
under (fin false m e) (fin false j g) n s h l =
    record { is = through (m * up e) (j * up g) n (down e) (down g) 1 (down_pos g) (le_of_lt (ltb→lt _ _ (subst T (sym l) tt))) h.is }

over : (z d : Float) (n : ℕ) → HasSign z true → Within d n → lt d z ≡ true → Within z n
unfolding lt
over nan d n s h l = absurd s
over (inf false) d n s h l = absurd (false≢true s)
over (inf true) nan n s h l = absurd h.is
over (inf true) (inf t) n s h l = absurd h.is
over (inf true) (fin t j g) n s h l = absurd (false≢true l)
over (fin false m e) d n s h l = absurd (false≢true s)
over (fin true m e) nan n s h l = absurd h.is
over (fin true m e) (inf t) n s h l = absurd h.is
over (fin true m e) (fin false j g) n s h l = absurd (false≢true l)
over (fin true m e) (fin true j g) n s h l =
    record { is = through (m * up e) (j * up g) n (down e) (down g) 1 (down_pos g) (le_of_lt (ltb→lt _ _ (subst T (sym l) tt))) h.is }

side-under : (z d : Float) (n : ℕ) → Side false z → Within d n → lt z d ≡ true → Within z n
side-under z d n (there a c e) h l = under z d n (subst (λ (x : Float). HasSign x false) (sym e) (round-sign binary64 false a c)) h l
side-under z d n (naught u c C e) h l = subst (λ (x : Float). Within x n) (sym e) (zero-within u c n C)

side-over : (z d : Float) (n : ℕ) → Side true z → Within d n → lt d z ≡ true → Within z n
side-over z d n (there a c e) h l = over z d n (subst (λ (x : Float). HasSign x true) (sym e) (round-sign binary64 true a c)) h l
side-over z d n (naught u c C e) h l = subst (λ (x : Float). Within x n) (sym e) (zero-within u c n C)

-- ---- a box ahead, and one behind: y is not above x, and y is not below x
ahead_within : (x y d : Float) (n : ℕ) → le y x ≡ true → Within d n → lt (sub binary64 x y) d ≡ true → Within (sub binary64 x y) n
unfolding sub add neg le lt eq
ahead_within nan y d n g h l = absurd (false≢true l)
ahead_within (inf s) nan d n g h l = absurd (false≢true g)
ahead_within (inf true) (inf true) d n g h l = absurd (false≢true l)
ahead_within (inf true) (inf false) d n g h l = absurd (false≢true g)
ahead_within (inf false) (inf true) d n g h l = under (inf false) d n refl h l
ahead_within (inf false) (inf false) d n g h l = absurd (false≢true l)
ahead_within (inf true) (fin t j k) d n g h l = absurd (false≢true g)
ahead_within (inf false) (fin t j k) d n g h l = under (inf false) d n refl h l
ahead_within (fin s m e) nan d n g h l = absurd (false≢true g)
ahead_within (fin s m e) (inf false) d n g h l = absurd (false≢true g)
ahead_within (fin s m e) (inf true) d n g h l = under (inf false) d n refl h l
ahead_within (fin s m e) (fin t j k) d n g h l =
    side-under _ d n (ahead (m * up e * down k) (j * up k * down e) (down e * down k) (mul-pos (down_pos e) (down_pos k)) s t (subst T (sym g) tt)) h l

behind-within : (x y d : Float) (n : ℕ) → le x y ≡ true → Within d n → lt d (sub binary64 x y) ≡ true → Within (sub binary64 x y) n
unfolding sub add neg le lt eq
behind-within nan y d n g h l = absurd (false≢true g)
behind-within (inf s) nan d n g h l = absurd (false≢true g)
behind-within (inf true) (inf true) nan n g h l = absurd (false≢true l)
behind-within (inf true) (inf true) (inf t) n g h l = absurd (false≢true l)
behind-within (inf true) (inf true) (fin t i k) n g h l = absurd (false≢true l)
behind-within (inf true) (inf false) d n g h l = over (inf true) d n refl h l
behind-within (inf false) (inf true) d n g h l = absurd (false≢true g)
behind-within (inf false) (inf false) nan n g h l = absurd (false≢true l)
behind-within (inf false) (inf false) (inf t) n g h l = absurd (false≢true l)
behind-within (inf false) (inf false) (fin t i k) n g h l = absurd (false≢true l)
behind-within (inf true) (fin t j k) d n g h l = over (inf true) d n refl h l
behind-within (inf false) (fin t j k) d n g h l = absurd (false≢true g)
behind-within (fin s m e) nan d n g h l = absurd (false≢true g)
behind-within (fin s m e) (inf true) d n g h l = absurd (false≢true g)
behind-within (fin s m e) (inf false) d n g h l = over (inf true) d n refl h l
behind-within (fin s m e) (fin t j k) d n g h l =
    side-over _ d n (behind (m * up e * down k) (j * up k * down e) (down e * down k) (mul-pos (down_pos e) (down_pos k)) s t (subst T (sym g) tt)) h l

-- ---- the clips
-- a choice whose first is within where its test is true
chosen : (b : Bool) (x y : Float) (n : ℕ) → (b ≡ true → Within x n) → Within y n → Within (choose b x y) n
unfolding choose
chosen true x y n f h = f refl
chosen false x y n f h = h

stop-within : (lo hi from to d : Float) (n : ℕ) → Within d n → Within (stop_at lo hi from to d) n
stop-within lo hi from to d n h =
    chosen (lt zero64 d && le to lo) _ _ n
    (λ (e : lt zero64 d && le to lo ≡ true). chosen (lt (sub binary64 lo to) d) _ d n (ahead_within lo to d n (both (lt zero64 d) (le to lo) e).two h) h)
    (chosen (lt d zero64 && le hi from) _ d n
    (λ (e : lt d zero64 && le hi from ≡ true). chosen (lt d (sub binary64 hi from)) _ d n (behind-within hi from d n (both (lt d zero64) (le hi from) e).two h) h)
    h)

-- a clip along one axis
pub record Clips (clip : Aabb → Aabb → Float → Float) : Type 0 where
  pub within : (b mover : Aabb) (d : Float) (n : ℕ) → Within d n → Within (clip b mover d) n

pub x-clips : Clips clip_x
x-clips = record { within = λ b mover d n h. either-most _ _ _ n 1 h (stop-within _ _ _ _ d n h) }

pub y-clips : Clips clip_y
y-clips = record { within = λ b mover d n h. either-most _ _ _ n 1 h (stop-within _ _ _ _ d n h) }

pub z-clips : Clips clip_z
z-clips = record { within = λ b mover d n h. either-most _ _ _ n 1 h (stop-within _ _ _ _ d n h) }

pub all-within : (clip : Aabb → Aabb → Float → Float) → Clips clip → (bs : List Aabb) (mover : Aabb) (d : Float) (n : ℕ) → Within d n → Within (clip_all clip bs mover d) n
unfolding clip_all
all-within clip c [] mover d n h = h
all-within clip c (b ∷ bs) mover d n h = all-within clip c bs mover (clip b mover d) n (c.within b mover d n h)
