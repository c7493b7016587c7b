-- Above the world the cells of a column all come to the same, and so do those below it, but for the highest (`sky`, `deep`, `just-below`, `void-shape`). In
-- the world a state that is read lies within the window's height (`state-inside`). Assumes nothing.
use mathlib.Core.Path.{◌≡◌, refl, sym, ap, ◌∙◌, subst}
use mathlib.Core.Bool.{Bool, true, false, not, ◌&&◌, ◌||◌, false≢true}
use mathlib.Core.List.{List}
use Prim.Native.Nat.{ℕ, suc, ◌+◌, ◌<◌, ◌≤◌}
use native.Mathlib.Omega.{arith}
use lib.IntN.{ℤ, pos, negsuc, sub_ℕ, ◌+ℤ◌, ◌-ℤ◌}
use lib.Signed.{lt_z}
use lib.Dec.{T, ltb, eqb, nltb→le}
use lib.ListN.{get_or}
use borrow.Author.Tests.{ltb-true, lt-ltb}
use Rattle.base.specs.Choose.{choose}
use Rattle.base.specs.Ask.{Ask, refused, found, ◌>>=◌}
use Rattle.base.proofs.Differences.{subℕ-pos, subℕ-neg, subℕ-add, subℕ-less, subℕ-same, subℕ-lt}
use Rattle.cover.specs.declared.Side.{Side}
use Rattle.cover.specs.declared.Side.TheVariants.{North, East, South, West}
use Rattle.tables.specs.Tables.{word_at, is_registered}
use Rattle.window.specs.declared.Pos.{Pos}
use Rattle.window.specs.declared.Window.{Window}
use Rattle.window.specs.Window.{column_inside, height_inside, is_void, index_of, column_index_of, column_lent}
use Rattle.window.specs.Look.{Block, none, some, look_at, stepped}
use Rattle.joining.specs.declared.Joined.{Joined}
use Rattle.connect.specs.Connect.{way_to, upwards, connects, straight, raised_by, connect_kind, joins, post, transitions, post_transition, beside_neighbours, connected_state}
use Rattle.collection.specs.Collect.{boxes, connected_shape, shape_of, cell_shape}
use Rattle.grid.specs.Demand.{above_world, below_world, deep_below}

-- ---- heights, as differences
record Height (y : ℤ) : Type 0 where
  over : ℕ
  under : ℕ
  is : y ≡ sub_ℕ over under

height : (y : ℤ) → Height y
height (pos n) = record { over = n; under = 0; is = sym (subℕ-pos n 0 n (omega arith)) }
height (negsuc n) = record { over = 0; under = suc n; is = sym (subℕ-neg 0 (suc n) n (omega arith)) }

higher : {y : ℤ} (h : Height y) (k : ℕ) → y +ℤ pos k ≡ sub_ℕ (h.over + k) h.under
higher h k = ap (λ (z : ℤ). z +ℤ pos k) h.is ∙ subℕ-add h.over h.under k

lower : {y : ℤ} (h : Height y) (k : ℕ) → y -ℤ pos k ≡ sub_ℕ h.over (h.under + k)
lower h k = ap (λ (z : ℤ). z -ℤ pos k) h.is ∙ subℕ-less h.over h.under k

lt_by : (a b : ℤ) (p n q m : ℕ) → a ≡ sub_ℕ p n → b ≡ sub_ℕ q m → lt_z a b ≡ ltb (p + m) (q + n)
lt_by a b p n q m A B = ap (λ (z : ℤ). lt_z z b) A ∙ ap (λ (z : ℤ). lt_z (sub_ℕ p n) z) B ∙ subℕ-lt p n q m

-- ---- a cell that asks for nothing but the void: it, those beside it and the one above
abbrev pub is_out : Window → ℤ → Bool
is_out w y = lt_z y w.lowest || lt_z w.highest y

pub record Out (w : Window) (y : ℤ) : Type 0 where
  pub here : is_out w y ≡ true
  pub beside : is_out w (y +ℤ pos 0) ≡ true
  pub above : is_out w (y +ℤ pos 1) ≡ true

or_left : (a b : Bool) → a ≡ true → a || b ≡ true
or_left true b e = refl
or_left false b e = absurd (false≢true e)

or_right : (a b : Bool) → b ≡ true → a || b ≡ true
or_right true b e = refl
or_right false b e = e

pub sky : (w : Window) (y : ℤ) → lt_z w.highest y ≡ true → Out w y
sky w y e =
    let t = height w.highest in
    let h = height y in
    let l : t.over + h.under < h.over + t.under = ltb-true (t.over + h.under) (h.over + t.under) (sym (lt_by w.highest y t.over t.under h.over h.under t.is h.is) ∙ e) in
    record {
      here = or_right (lt_z y w.lowest) (lt_z w.highest y) e;
      beside = or_right (lt_z (y +ℤ pos 0) w.lowest) (lt_z w.highest (y +ℤ pos 0))
          (lt_by w.highest (y +ℤ pos 0) t.over t.under (h.over + 0) h.under t.is (higher h 0) ∙ lt-ltb (t.over + h.under) (h.over + 0 + t.under) (omega arith));
      above = or_right (lt_z (y +ℤ pos 1) w.lowest) (lt_z w.highest (y +ℤ pos 1))
          (lt_by w.highest (y +ℤ pos 1) t.over t.under (h.over + 1) h.under t.is (higher h 1) ∙ lt-ltb (t.over + h.under) (h.over + 1 + t.under) (omega arith));
    }

pub deep : (w : Window) (y : ℤ) → lt_z (y +ℤ pos 1) w.lowest ≡ true → Out w y
deep w y e =
    let t = height w.lowest in
    let h = height y in
    let l : h.over + 1 + t.under < t.over + h.under = ltb-true (h.over + 1 + t.under) (t.over + h.under) (sym (lt_by (y +ℤ pos 1) w.lowest (h.over + 1) h.under t.over t.under (higher h 1) t.is) ∙ e) in
    record {
      here = or_left (lt_z y w.lowest) (lt_z w.highest y)
          (lt_by y w.lowest h.over h.under t.over t.under h.is t.is ∙ lt-ltb (h.over + t.under) (t.over + h.under) (omega arith));
      beside = or_left (lt_z (y +ℤ pos 0) w.lowest) (lt_z w.highest (y +ℤ pos 0))
          (lt_by (y +ℤ pos 0) w.lowest (h.over + 0) h.under t.over t.under (higher h 0) t.is ∙ lt-ltb (h.over + 0 + t.under) (t.over + h.under) (omega arith));
      above = or_left (lt_z (y +ℤ pos 1) w.lowest) (lt_z w.highest (y +ℤ pos 1)) e;
    }

pub above-highest : (w : Window) → lt_z w.highest (above_world w) ≡ true
above-highest w =
    let t = height w.highest in
    lt_by w.highest (above_world w) t.over t.under (t.over + 1) t.under t.is (higher t 1) ∙ lt-ltb (t.over + t.under) (t.over + 1 + t.under) (omega arith)

pub below-lowest : (w : Window) → lt_z (deep_below w +ℤ pos 1) w.lowest ≡ true
below-lowest w =
    let t = height w.lowest in
    let e : deep_below w +ℤ pos 1 ≡ sub_ℕ (t.over + 1) (t.under + 2) = ap (λ (z : ℤ). z +ℤ pos 1) (lower t 2) ∙ subℕ-add t.over (t.under + 2) 1 in
    lt_by (deep_below w +ℤ pos 1) w.lowest (t.over + 1) (t.under + 2) t.over t.under e t.is ∙ lt-ltb (t.over + 1 + t.under) (t.over + (t.under + 2)) (omega arith)

-- what lies below the world, but not with the cell above it, is the highest there
pub just-below : (w : Window) (y : ℤ) → lt_z y w.lowest ≡ true → lt_z (y +ℤ pos 1) w.lowest ≡ false → below_world w ≡ y
just-below w y e n =
    let t = height w.lowest in
    let h = height y in
    let l : h.over + t.under < t.over + h.under = ltb-true (h.over + t.under) (t.over + h.under) (sym (lt_by y w.lowest h.over h.under t.over t.under h.is t.is) ∙ e) in
    let f : ltb (h.over + 1 + t.under) (t.over + h.under) ≡ false = sym (lt_by (y +ℤ pos 1) w.lowest (h.over + 1) h.under t.over t.under (higher h 1) t.is) ∙ n in
    let g : t.over + h.under ≤ h.over + 1 + t.under = nltb→le (h.over + 1 + t.under) (t.over + h.under) (subst (λ (b : Bool). T (not b)) (sym f) tt) in
    lower t 1 ∙ subℕ-same t.over (t.under + 1) h.over h.under (omega arith) ∙ sym h.is

-- ---- what a cell comes to, by the cells that it asks for
module _ (look : Pos → Ask Block) (records : List ℕ) (p q : Pos) (sides : (side : Side) → look (stepped p (way_to side)) ≡ look (stepped q (way_to side)))
    (up : look (stepped p upwards) ≡ look (stepped q upwards)) where
  joins-alike : (kind : ℕ) (side : Side) → joins look records p kind side ≡ joins look records q kind side
  unfolding joins
  joins-alike kind side = ap (λ (m : Ask Block). m >>= (λ b. found (connects records kind side b))) (sides side)

  post-alike : (j : Joined) → post look records p j ≡ post look records q j
  unfolding post
  post-alike j = ap (λ (m : Ask Block). m >>= (λ b. found (not (straight j) || raised_by records j b))) up

  beside-alike : (kind state : ℕ) → beside_neighbours look records p kind state ≡ beside_neighbours look records q kind state
  unfolding beside_neighbours
  beside-alike kind state = λ i.
      joins-alike kind North i >>= (λ north.
      joins-alike kind East i >>= (λ east.
      joins-alike kind South i >>= (λ south.
      joins-alike kind West i >>= (λ west.
      let j : Joined = record { north = north; east = east; south = south; west = west } in
      choose (eqb kind 4) (post-alike j i >>= (λ on. found (post_transition records on (transitions records j state)))) (found (transitions records j state))))))

  state-alike : (state : ℕ) → connected_state look records p state ≡ connected_state look records q state
  unfolding connected_state
  state-alike state = λ i. choose (eqb (connect_kind records state) 0) (found state) (beside-alike (connect_kind records state) state i)

  block-alike : (b : Block) → shape_of look records p b ≡ shape_of look records q b
  unfolding shape_of connected_shape
  block-alike none = refl
  block-alike (some id) = λ i.
      choose (is_registered records id) (state-alike id i >>= (λ state. found (boxes (word_at records state 7) (word_at records state 8)))) (found (boxes 0 0))

  shape-alike : look p ≡ look q → cell_shape look records p ≡ cell_shape look records q
  unfolding cell_shape
  shape-alike e = λ i. e i >>= (λ b. block-alike b i)

-- ---- above and below the world the look-up goes by the column alone
abbrev pub at_height : Pos → ℤ → Pos
at_height p y = record { x = p.x; y = y; z = p.z }

void-look : (words : List ℕ) (w : Window) (x y y' z : ℤ) → is_out w y ≡ true → is_out w y' ≡ true
    → look_at words w record { x = x; y = y; z = z } ≡ look_at words w record { x = x; y = y'; z = z }
unfolding look_at column_index_of is_void choose
void-look words w x y y' z e f = rw (e, f)

pub void-shape : (words : List ℕ) (w : Window) (records : List ℕ) (p : Pos) (y : ℤ) → Out w p.y → Out w y
    → cell_shape (look_at words w) records p ≡ cell_shape (look_at words w) records (at_height p y)
void-shape words w records p y a b =
    shape-alike (look_at words w) records p (at_height p y) side (void-look words w _ _ _ _ a.above b.above) (void-look words w p.x p.y y p.z a.here b.here)
  where
    side : (s : Side) → look_at words w (stepped p (way_to s)) ≡ look_at words w (stepped (at_height p y) (way_to s))
    side North = void-look words w _ _ _ _ a.beside b.beside
    side East = void-look words w _ _ _ _ a.beside b.beside
    side South = void-look words w _ _ _ _ a.beside b.beside
    side West = void-look words w _ _ _ _ a.beside b.beside

-- ---- in the world a state that is read lies within the window's height
pub state-inside : (words : List ℕ) (w : Window) (p : Pos) (s : ℕ) → is_void w p ≡ false → look_at words w p ≡ found (some s) → height_inside w p ≡ true
unfolding look_at choose
state-inside words w p s v e =
    go (column_inside w p && column_lent words w p) (eqb (get_or words (column_index_of w p) 0) 0) (is_void w p) (height_inside w p) (get_or words (index_of w p) 0) v e
  where
    no : {A : Type 0} → ◌≡◌ {A = ℕ} 0 1 → A
    no e = absurd (omega arith)

    go : (c u v h : Bool) (n : ℕ) → v ≡ false
        → choose (not c) (refused 5) (choose u (found none) (choose v (found (some w.air)) (choose (not h) (refused 5) (found (some n))))) ≡ found (some s) → h ≡ true
    go false u v h n f e = no cc
    go true true v h n f e = no cc
    go true false true h n f e = absurd (false≢true (sym f))
    go true false false true n f e = refl
    go true false false false n f e = no cc
