-- How far a cell lies from the origin, in i64s and as an index: the set at such a place is the set of the cell. Assumes nothing.
use mathlib.Core.Path.{◌≡◌, refl, sym, ap, ◌∙◌}
use mathlib.Core.Bool.{Bool, true, false, ◌&&◌}
use mathlib.Core.List.{List}
use Prim.Native.Nat.{ℕ, ◌+◌, ◌*◌, ◌/◌, ◌≤◌, ◌<◌, ◌^◌}
use native.Mathlib.Nat.{mul-le-mul}
use native.Mathlib.Omega.{arith}
use lib.Dec.{ltb}
use lib.IntN.{ℤ, pos, neg_ℤ, nat_abs, ◌+ℤ◌, ◌-ℤ◌, +ℤ_comm, +ℤ-neg_ℤ_cancel}
use lib.Signed.{mag, le_z, lt_z}
use mir.Syntax.{w32, w64}
use mir.Val.{SFits, Fits, to_z, of_z}
use mir.ValLaws.{to_z-of_z, to_z_pos}
use borrow.Author.Tests.{ltb-true, lt-ltb, le-ltb, le-leb}
use Rattle.base.specs.Choose.{choose}
use Rattle.base.proofs.Every.{both, and_right}
use Rattle.window.specs.declared.Pos.{Pos}
use Rattle.window.specs.declared.Sizes.{Sizes}
use Rattle.window.specs.declared.Window.{Window}
use Rattle.window.specs.Window.{within, column_inside, height_inside, index_of, sizes_fit}
use Rattle.window.specs.Offsets.{is_ahead}
use Rattle.window.proofs.Check.{AllSmall, sizes-small}
use Rattle.window.proofs.Offsets.{within_by, below-size}
use Rattle.window.proofs.Cells.{is-inside}
use Rattle.window.proofs.Signs.{mag-add, mag-neg, widens32, wide, wide_is}
use Rattle.group_words.proofs.Cells.{Near}
use Rattle.groups.specs.declared.Place.{Place}
use Rattle.groups.specs.Groups.{cell_at}
use Rattle.groups.specs.Summary.{is_inside, has_summary, set_in, set_refusal, after_set}
use Rattle.groups.specs.Places.{offset_in, place_in, is_in, group_in, set_at, placed_refusal, after_placed}

-- ---- c - o in i64
pub apart : (c o : ℤ) → SFits w32 c → SFits w32 o → to_z w64 (of_z w64 (wide w32 c -ℤ wide w32 o)) ≡ c -ℤ o
apart c o f g =
    let m : mag (c -ℤ o) < 2 ^ 31 + (2 ^ 31 + 1) = mag-add c (neg_ℤ o) (2 ^ 31) (2 ^ 31 + 1) f.sfits (mag-neg o (2 ^ 31) g.sfits) in
    rw (wide_is w32 c f (widens32 f), wide_is w32 o g (widens32 g)) (to_z-of_z w64 (c -ℤ o) record { sfits = omega arith })

-- the tests of the program: whether the offset is one of so many
module _ (c o : ℤ) (n : ℕ) (f : Fits w32 n) where
  as-pos : to_z w64 n ≡ pos n
  as-pos = let l = f.fits in to_z_pos w64 n (omega arith)

  pub inside : le_z (pos 0) (c -ℤ o) ≡ true → lt_z (c -ℤ o) (to_z w64 n) ≡ true → nat_abs (c -ℤ o) ≡ offset_in c o n
  unfolding offset_in choose
  inside low high = rw (within_by o n c, low, rw as-pos at high)

  pub below-all : le_z (pos 0) (c -ℤ o) ≡ false → n ≡ offset_in c o n
  unfolding offset_in choose
  below-all low = rw (within_by o n c, low)

  pub beyond : lt_z (c -ℤ o) (to_z w64 n) ≡ false → n ≡ offset_in c o n
  unfolding offset_in choose
  beyond high = rw (within_by o n c, and_right _ _ (rw as-pos at high))

-- ---- a place that is in
pub record In (s : Sizes) (t : Place) : Type 0 where
  pub x : t.x < s.x
  pub y : t.y < s.y
  pub z : t.z < s.z

pub is-in : (s : Sizes) (t : Place) → is_in s t ≡ true → In s t
is-in s t e =
    let a = both (ltb t.x s.x && ltb t.z s.z) (ltb t.y s.y) e in
    let b = both (ltb t.x s.x) (ltb t.z s.z) a.one in
    record { x = ltb-true t.x s.x b.one; y = ltb-true t.y s.y a.two; z = ltb-true t.z s.z b.two }

-- what the index of a cell is made of fits
module _ (s : Sizes) (t : Place) (f : sizes_fit s ≡ true) (e : is_in s t ≡ true) where
  small : AllSmall s
  small = sizes-small s f

  rows : t.y * s.z ≤ 4096
  rows = let k = small.y.high in let h = (is-in s t e).y in mul-le-mul {n₂ = 64} {m₂ = 64} (omega arith) small.z.high

  cells : (t.y * s.z + t.z) * s.x ≤ 266240
  cells = let r = rows in let k = small.z.high in let h = (is-in s t e).z in mul-le-mul {n₂ = 4160} {m₂ = 64} (omega arith) small.x.high

  pub cell-rows : Fits w32 (t.y * s.z)
  cell-rows = let r = rows in record { fits = omega arith }

  pub cell_row : Fits w32 (t.y * s.z + t.z)
  cell_row = let r = rows in let k = small.z.high in let h = (is-in s t e).z in record { fits = omega arith }

  pub cell-line : Fits w32 ((t.y * s.z + t.z) * s.x)
  cell-line = let r = cells in record { fits = omega arith }

  pub cell-index : Fits w32 ((t.y * s.z + t.z) * s.x + t.x)
  cell-index = let r = cells in let k = small.x.high in let h = (is-in s t e).x in record { fits = omega arith }

-- the group of a place that is in is one of 16 on each axis
pub near-group : (s : Sizes) (t : Place) → sizes_fit s ≡ true → is_in s t ≡ true → Near (group_in t)
near-group s t f e =
    let k = sizes-small s f in
    let i = is-in s t e in
    record { x = quarter i.x k.x.high; y = quarter i.y k.y.high; z = quarter i.z k.z.high }
  where
    quarter : {n m : ℕ} → n < m → m ≤ 64 → n / 4 < 16
    quarter h l = omega arith

-- ---- the place of a cell
axis : (c o : ℤ) (n : ℕ) → ltb (offset_in c o n) n ≡ within o n c
unfolding offset_in choose
axis c o n = go (within o n c) refl
  where
    go : (t : Bool) → within o n c ≡ t → ltb (choose t (nat_abs (c -ℤ o)) n) n ≡ t
    go true e = lt-ltb (nat_abs (c -ℤ o)) n (below-size o n c e)
    go false e = le-ltb n n (omega arith)

pub placed : (w : Window) (p : Pos) → is_in w.sizes (place_in w p) ≡ is_inside w p
placed w p =
    let x = axis p.x w.origin.x w.sizes.x in
    let y = axis p.y w.origin.y w.sizes.y in
    let z = axis p.z w.origin.z w.sizes.z in
    λ i. x i && z i && y i

inside_is : (c o : ℤ) (n : ℕ) → within o n c ≡ true → offset_in c o n ≡ nat_abs (c -ℤ o)
unfolding offset_in choose
inside_is c o n e = rw e

pub set-placed : (records words : List ℕ) (w : Window) (p : Pos) (state : ℕ) (t : Place) → t ≡ place_in w p → is_inside w p ≡ true → set_at records words w t state ≡ set_in records words w p state
unfolding index_of
set-placed records words w p state t e h =
    let b = both (column_inside w p) (height_inside w p) h in
    let i = is-inside w p b.one b.two in
    rw (
      e,
      inside_is p.x w.origin.x w.sizes.x i.x,
      inside_is p.y w.origin.y w.sizes.y i.y,
      inside_is p.z w.origin.z w.sizes.z i.z,
    )

-- ---- a cell counted from the origin
apart_by : (o : ℤ) (n : ℕ) → o +ℤ pos n -ℤ o ≡ pos n
apart_by o n = ap (λ (t : ℤ). t -ℤ o) (+ℤ_comm o (pos n)) ∙ +ℤ-neg_ℤ_cancel (pos n) o

counted : (o : ℤ) (x n : ℕ) → within o n (o +ℤ pos x) ≡ ltb x n
counted o x n = within_by o n (o +ℤ pos x) ∙ ap (λ (d : ℤ). is_ahead d n) (apart_by o x) ∙ ap (λ (b : Bool). b && ltb x n) (le-leb 0 x (omega arith))

pub counted-in : (w : Window) (t : Place) → is_inside w (cell_at w t.x t.y t.z) ≡ is_in w.sizes t
counted-in w t =
    let x = counted w.origin.x t.x w.sizes.x in
    let y = counted w.origin.y t.y w.sizes.y in
    let z = counted w.origin.z t.z w.sizes.z in
    λ i. x i && z i && y i

counted-axis : (o : ℤ) (x n : ℕ) → x < n → x ≡ offset_in (o +ℤ pos x) o n
unfolding offset_in choose
counted-axis o x n h = rw (counted o x n, lt-ltb x n h) (sym (ap nat_abs (apart_by o x)))

pub counted-place : (w : Window) (t : Place) → is_in w.sizes t ≡ true → t ≡ place_in w (cell_at w t.x t.y t.z)
counted-place w t e =
    let i = is-in w.sizes t e in
    let x = counted-axis w.origin.x t.x w.sizes.x i.x in
    let y = counted-axis w.origin.y t.y w.sizes.y i.y in
    let z = counted-axis w.origin.z t.z w.sizes.z i.z in
    λ k. record { x = x k; y = y k; z = z k }

-- ---- the set at a place is the set of its cell
module _ (records words : List ℕ) (w : Window) where
  pub cell-refused : (p : Pos) → placed_refusal words w (place_in w p) ≡ set_refusal words w p
  unfolding placed_refusal set_refusal
  cell-refused p = rw (placed w p)

  pub cell-after : (p : Pos) (state : ℕ) → after_placed records words w (place_in w p) state ≡ after_set records words w p state
  unfolding after_placed after_set choose
  cell-after p state = rw (placed w p) (go (is_inside w p) refl)
    where
      go : (t : Bool) → is_inside w p ≡ t
          → choose (has_summary words w) (choose t (set_at records words w (place_in w p) state) words) words ≡ choose (has_summary words w) (choose t (set_in records words w p state) words) words
      go true e = ap (λ (l : List ℕ). choose (has_summary words w) l words) (set-placed records words w p state (place_in w p) refl e)
      go false e = refl

  pub counted-refused : (t : Place) → placed_refusal words w t ≡ set_refusal words w (cell_at w t.x t.y t.z)
  unfolding placed_refusal set_refusal
  counted-refused t = rw (counted-in w t)

  pub counted-after : (t : Place) (state : ℕ) → after_placed records words w t state ≡ after_set records words w (cell_at w t.x t.y t.z) state
  unfolding after_placed after_set choose
  counted-after t state = rw (counted-in w t) (go (is_in w.sizes t) refl)
    where
      go : (b : Bool) → is_in w.sizes t ≡ b
          → choose (has_summary words w) (choose b (set_at records words w t state) words) words ≡ choose (has_summary words w) (choose b (set_in records words w (cell_at w t.x t.y t.z) state) words) words
      go true e = ap (λ (l : List ℕ). choose (has_summary words w) l words) (set-placed records words w (cell_at w t.x t.y t.z) state t (counted-place w t e) (counted-in w t ∙ e))
      go false e = refl
