-- The cells of a window: in a window that passes its check each inside cell and each column has a place of its own among the lent words, and
-- what the look-up says follows from the column, the world's ends and the window's height. Assumes nothing.
use mathlib.Core.Path.{◌≡◌, refl, sym, ap, ◌∙◌, subst}
use mathlib.Core.Bool.{Bool, true, false}
use mathlib.Core.List.{List}
use Prim.Native.Nat.{ℕ, ◌+◌, ◌*◌, ◌/◌, ◌%◌, ◌<◌}
use native.Mathlib.Nat.{mul_comm}
use native.Mathlib.Omega.{arith}
use lib.Arith.{digits_lt, digits_div, digits_mod}
use lib.Dec.{ltb, eqb}
use lib.IntN.{ℤ, pos, nat_abs, ◌+ℤ◌, ◌-ℤ◌, -ℤ-+ℤ_cancel}
use lib.ListN.{length, get_or}
use borrow.Author.Tests.{eqb-true, lt-ltb}
use Rattle.base.proofs.Every.{both}
use Rattle.base.specs.Choose.{choose}
use Rattle.base.specs.Ask.{refused, found}
use Rattle.window.specs.declared.Pos.{Pos}
use Rattle.window.specs.declared.Sizes.{Sizes}
use Rattle.window.specs.declared.Window.{Window}
use Rattle.window.specs.Window.{within, column_inside, height_inside, is_void, index_at, cell_count, column_count, index_of, column_index_of, sizes_fit, origin_fits, heights_fit, columns_fit, window_fits, window_refusal}
use Rattle.window.specs.Look.{Block, none, some, look_at}
use Rattle.window.proofs.Check.{sizes-small, column-count}
use Rattle.window.proofs.Offsets.{ahead, below-size, place-below}

same-coordinate : (o : ℤ) (n : ℕ) (c d : ℤ) → within o n c ≡ true → within o n d ≡ true → nat_abs (c -ℤ o) ≡ nat_abs (d -ℤ o) → c ≡ d
same-coordinate o n c d t u e =
    let a = ahead o n c t in
    let b = ahead o n d u in
    let k : a.size ≡ b.size = ap nat_abs (sym a.is) ∙ e ∙ ap nat_abs b.is in
    sym (-ℤ-+ℤ_cancel c o) ∙ ap (λ (z : ℤ). z +ℤ o) (a.is ∙ ap pos k ∙ sym b.is) ∙ -ℤ-+ℤ_cancel d o

-- ---- places
module _ (q r m a b : ℕ) (ha : a < m) (hb : b < m) (e : q * m + a ≡ r * m + b) where
  last-digit : a ≡ b
  last-digit = sym (digits_mod q ha) ∙ ap (λ (n : ℕ). n % m) e ∙ digits_mod r hb

  other-digits : q ≡ r
  other-digits = sym (digits_div q ha) ∙ ap (λ (n : ℕ). n / m) e ∙ digits_div r hb

same_place : (s : Sizes) (x y z u v w : ℕ) → x < s.x → z < s.z → u < s.x → w < s.z → index_at s x y z ≡ index_at s u v w
    → (x ≡ u) × (y ≡ v) × (z ≡ w)
same_place s x y z u v w hx hz hu hw e =
    let r : y * s.z + z ≡ v * s.z + w = other-digits _ _ s.x x u hx hu e in
    (last-digit _ _ s.x x u hx hu e, other-digits y v s.z z w hz hw r, last-digit y v s.z z w hz hw r)

-- ---- the cells inside
pub record Inside (w : Window) (p : Pos) : Type 0 where
  pub x : within w.origin.x w.sizes.x p.x ≡ true
  pub y : within w.origin.y w.sizes.y p.y ≡ true
  pub z : within w.origin.z w.sizes.z p.z ≡ true

pub is-inside : (w : Window) (p : Pos) → column_inside w p ≡ true → height_inside w p ≡ true → Inside w p
is-inside w p c h =
    let xz = both (within w.origin.x w.sizes.x p.x) (within w.origin.z w.sizes.z p.z) c in
    record { x = xz.one; y = h; z = xz.two }

-- how far an inside cell lies from the origin
pub record Near (w : Window) (p : Pos) : Type 0 where
  pub x : nat_abs (p.x -ℤ w.origin.x) < w.sizes.x
  pub y : nat_abs (p.y -ℤ w.origin.y) < w.sizes.y
  pub z : nat_abs (p.z -ℤ w.origin.z) < w.sizes.z

pub is-near : {w : Window} {p : Pos} → Inside w p → Near w p
is-near {w} {p} i = record {
  x = below-size w.origin.x w.sizes.x p.x i.x;
  y = below-size w.origin.y w.sizes.y p.y i.y;
  z = below-size w.origin.z w.sizes.z p.z i.z;
}

-- the place of an inside cell is below the product of the sizes: it is none of the columns' words
pub index_below : (w : Window) (p : Pos) → Inside w p → index_of w p < cell_count w.sizes
unfolding index_of
index_below w p i = let n = is-near i in place-below w.sizes _ _ _ n.x n.y n.z

-- different inside cells have different places
pub index-unique : (w : Window) (p q : Pos) → Inside w p → Inside w q → index_of w p ≡ index_of w q → p ≡ q
unfolding index_of
index-unique w p q i j e =
    let n = is-near i in
    let m = is-near j in
    let s = same_place w.sizes _ _ _ _ _ _ n.x n.z m.x m.z e in
    let x = same-coordinate w.origin.x w.sizes.x p.x q.x i.x j.x s.0 in
    let y = same-coordinate w.origin.y w.sizes.y p.y q.y i.y j.y s.1 in
    let z = same-coordinate w.origin.z w.sizes.z p.z q.z i.z j.z s.2 in
    λ k. record { x = x k; y = y k; z = z k }

-- ---- the look-up

-- a column outside the window is refused with 5, at every height
pub outside-refused : (words : List ℕ) (w : Window) (p : Pos) → column_inside w p ≡ false → look_at words w p ≡ refused 5
unfolding look_at choose
outside-refused words w p e = rw e

-- what is found, unloaded or a state, is in a column of the window
pub found_inside : (words : List ℕ) (w : Window) (p : Pos) (b : Block) → look_at words w p ≡ found b → column_inside w p ≡ true
found_inside words w p b e = go (column_inside w p) refl
  where
    go : (t : Bool) → column_inside w p ≡ t → column_inside w p ≡ true
    go true h = h
    go false h = let g = outside-refused words w p h in let z : ◌≡◌ {A = ℕ} 0 1 = cc in absurd (omega arith)

-- what a window that passes its check keeps to
pub record Fits (words : List ℕ) (w : Window) : Type 0 where
  pub sizes : sizes_fit w.sizes ≡ true
  pub origin : origin_fits w.origin ≡ true
  pub heights : heights_fit w.lowest w.highest ≡ true
  pub count : length words ≡ cell_count w.sizes + column_count w.sizes
  pub columns : columns_fit words (cell_count w.sizes) (column_count w.sizes) ≡ true

pub fits : (words : List ℕ) (w : Window) → window_fits words w ≡ true → Fits words w
unfolding window_fits
fits words w e =
    let n = cell_count w.sizes + column_count w.sizes in
    let d = both _ (columns_fit words (cell_count w.sizes) (column_count w.sizes)) e in
    let c = both _ (eqb (length words) n) d.one in
    let b = both _ (heights_fit w.lowest w.highest) c.one in
    let a = both (sizes_fit w.sizes) (origin_fits w.origin) b.one in
    record { sizes = a.one; origin = a.two; heights = b.two; count = eqb-true (length words) n c.two; columns = d.two }

-- there a word was lent for every column of the window
pub column-lent : (words : List ℕ) (w : Window) (p : Pos) → window_fits words w ≡ true → column_inside w p ≡ true → column_index_of w p < length words
unfolding column_index_of
column-lent words w p f c =
    let xz = both (within w.origin.x w.sizes.x p.x) (within w.origin.z w.sizes.z p.z) c in
    let x = below-size w.origin.x w.sizes.x p.x xz.one in
    let z = below-size w.origin.z w.sizes.z p.z xz.two in
    let k = digits_lt z x in
    subst (λ (n : ℕ). column_index_of w p < n) (sym (fits words w f).count)
    (behind (cell_count w.sizes) (subst (λ (n : ℕ). nat_abs (p.z -ℤ w.origin.z) * w.sizes.x + nat_abs (p.x -ℤ w.origin.x) < n) (mul_comm w.sizes.z w.sizes.x) k))
  where
    behind : {i n : ℕ} (k : ℕ) → i < n → k + i < k + n
    behind k h = omega arith

module _ (words : List ℕ) (w : Window) (p : Pos) (f : window_fits words w ≡ true) (c : column_inside w p ≡ true) where
  few : ltb (column_count w.sizes) 4294967296 ≡ true
  few = let k = column-count w.sizes (sizes-small w.sizes (fits words w f).sizes) in lt-ltb (column_count w.sizes) 4294967296 (omega arith)

  lent : ltb (column_index_of w p) (length words) ≡ true
  lent = lt-ltb (column_index_of w p) (length words) (column-lent words w p f c)

  -- a column that is not loaded reads so at every height, in the window's or not
  pub column-unloaded : eqb (get_or words (column_index_of w p) 0) 0 ≡ true → look_at words w p ≡ found none
  unfolding look_at choose
  column-unloaded u = rw (c, few, lent, u)

  module _ (loaded : eqb (get_or words (column_index_of w p) 0) 0 ≡ false) where
    -- above and below the world a loaded column reads air, whatever the window holds there
    pub void-is-air : is_void w p ≡ true → look_at words w p ≡ found (some w.air)
    unfolding look_at choose
    void-is-air v = rw (c, few, lent, loaded, v)

    -- within the world a cell beyond the window's height is refused with 5
    pub beyond-refused : is_void w p ≡ false → height_inside w p ≡ false → look_at words w p ≡ refused 5
    unfolding look_at choose
    beyond-refused v h = rw (c, few, lent, loaded, v, h)

    -- and inside it is found: what stands at its place
    pub inside_found : is_void w p ≡ false → height_inside w p ≡ true → look_at words w p ≡ found (some (get_or words (index_of w p) 0))
    unfolding look_at choose
    inside_found v h = rw (c, few, lent, loaded, v, h)

-- the check's answer
pub accepted : (words : List ℕ) (w : Window) → window_refusal words w ≡ 0 → window_fits words w ≡ true
unfolding window_refusal choose
accepted words w e = go (window_fits words w) e
  where
    go : (t : Bool) → ◌≡◌ {A = ℕ} (choose t 0 2) 0 → t ≡ true
    go true e = refl
    go false e = absurd (omega arith)
