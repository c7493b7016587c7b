-- With a summary whose words are those built afresh, every cell of a layer that is passed over is a registered state that connects as nothing and
-- has no boxes; and where no word of a summary is lent no layer is passed over. Assumes nothing.
use mathlib.Core.Path.{◌≡◌, refl, sym, ap, ◌∙◌, subst}
use mathlib.Core.Bool.{Bool, true, false, ◌&&◌, false≢true}
use mathlib.Core.List.{List, [], ◌∷◌}
use Prim.Native.Nat.{ℕ, zero, suc, ◌+◌, ◌*◌, ◌-◌, ◌/◌, ◌%◌, ◌≤◌, ◌<◌}
use native.Mathlib.Nat.{div-add-mod'}
use native.Mathlib.Omega.{arith}
use lib.Dec.{ltb}
use lib.IntN.{pos, ◌+ℤ◌}
use lib.ListN.{length, get_or, get_or-eq_default}
use borrow.Author.Tests.{ltb-true, eqb-true}
use Rattle.base.specs.Choose.{choose}
use Rattle.base.proofs.Every.{both, every-at}
use Rattle.window.specs.declared.Pos.{Pos}
use Rattle.window.specs.declared.Sizes.{Sizes}
use Rattle.window.specs.declared.Window.{Window}
use Rattle.window.specs.Window.{sizes_fit}
use Rattle.window.specs.Look.{look_at}
use Rattle.ranges.specs.declared.Range.{Range}
use Rattle.ranges.specs.Ranges.{on_from, place_at}
use Rattle.group_words.specs.declared.Group.{Group}
use Rattle.groups.specs.Groups.{groups_on, group_index, cut, cell_at, is_empty, is_empty_line, is_empty_layer, is_empty_group, group_word}
use Rattle.groups.specs.Summary.{words_before}
use Rattle.groups.specs.Places.{Laid, layout_of, offset_in}
use Rattle.groups.proofs.Sets.{Kept, has, of_four, at-index, index-under}
use Rattle.passing.specs.Passing.{Reached, first_column, last_column, spans, reach_between, nowhere, reach_of, reach_in, row_marked, all_marked, passes_by, passes}
use Rattle.passing.proofs.Spans.{Between, in-range, alone}

-- ---- what a reach that is on says
abbrev pub reaches : Window → Range → Bool
reaches w r = (layout_of w.sizes).fits && spans w.sizes (first_column w r) (last_column w r)

reach-on : (w : Window) (r : Range) → (reach_of w r).on ≡ true → reaches w r ≡ true
unfolding reach_of choose
reach-on w r h = go (reaches w r) h
  where
    go : (t : Bool) → (choose t (reach_between (layout_of w.sizes) (first_column w r) (last_column w r)) nowhere).on ≡ true → t ≡ true
    go true h = refl
    go false h = absurd (false≢true h)

pub reach-is : (w : Window) (r : Range) → reaches w r ≡ true → reach_of w r ≡ reach_between (layout_of w.sizes) (first_column w r) (last_column w r)
unfolding reach_of choose
reach-is w r h = rw h

pub layout-fits : (s : Sizes) → (layout_of s).fits ≡ true → sizes_fit s ≡ true
unfolding layout_of choose
layout-fits s h = go (sizes_fit s) h
  where
    go : (t : Bool) → (choose {A = Laid} t record { fits = true; before = words_before s; across = groups_on s.x; deep = groups_on s.z } record { fits = false; before = 0; across = 0; deep = 0 }).fits ≡ true → t ≡ true
    go true h = refl
    go false h = absurd (false≢true h)

layout_is : (s : Sizes) → sizes_fit s ≡ true → layout_of s ≡ record { fits = true; before = words_before s; across = groups_on s.x; deep = groups_on s.z }
unfolding layout_of choose
layout_is s h = rw h

-- ---- a word that is there is the same by any default
pub any-default : {A : Type 0} (l : List A) (i : ℕ) (d e : A) → i < length l → get_or l i d ≡ get_or l i e
any-default [] i d e h = absurd (omega arith)
any-default (x ∷ xs) zero d e h = refl
any-default (x ∷ xs) (suc i) d e h = any-default xs i d e (omega arith)

empty-word : (t : Bool) → ◌≡◌ {A = ℕ} (choose t 0 1) 0 → t ≡ true
unfolding choose
empty-word true h = refl
empty-word false h = absurd (omega arith)

-- ---- the place of a group's word, from that of the first group on
word-place : (before kx i gx up nz kz j gz nx : ℕ) → kx + i ≡ gx → kz + j ≡ gz → before + kx + (up * nz + kz + j) * nx + i ≡ before + ((up * nz + gz) * nx + gx)
word-place before kx i gx up nz kz j gz nx e f =
    let a : up * nz + kz + j ≡ up * nz + gz = omega arith in
    let b : before + kx + (up * nz + gz) * nx + i ≡ before + ((up * nz + gz) * nx + gx) = omega arith in
    ap (λ (t : ℕ). before + kx + t * nx + i) a ∙ b

-- the group of a number between two is so many behind the first's
steps : (low at high : ℕ) → low ≤ at → at ≤ high → at / 4 - low / 4 < high / 4 + 1 - low / 4
steps low at high h k = omega arith

on-from : (low at : ℕ) → low ≤ at → low / 4 + (at / 4 - low / 4) ≡ at / 4
on-from low at h = omega arith

in_cut : (n size : ℕ) → n < size → n % 4 < cut size (n / 4)
in_cut n size h = omega arith

-- ---- the cell so far from the origin, in an empty group
module _ (records words : List ℕ) (w : Window) (x y z : ℕ) (hx : x < w.sizes.x) (hy : y < w.sizes.y) (hz : z < w.sizes.z) where
  abbrev its_group : Group
  its_group = record { x = x / 4; y = y / 4; z = z / 4 }

  cell-empty : is_empty_group records words w its_group ≡ true → is_empty records (look_at words w (cell_at w x y z)) ≡ true
  unfolding is_empty_group is_empty_layer is_empty_line
  cell-empty e =
      let a = every-at _ _ e (y % 4) (in_cut y w.sizes.y hy) in
      let b = every-at _ _ a (z % 4) (in_cut z w.sizes.z hz) in
      let c = every-at _ _ b (x % 4) (in_cut x w.sizes.x hx) in
      rw (div-add-mod' x 4, div-add-mod' y 4, div-add-mod' z 4) at c

-- ---- a layer that is passed over
by-reach : (words : List ℕ) (w : Window) (r : Range) (y : ℕ) → passes words w r y ≡ true → passes_by words w r (reach_of w r) y ≡ true
unfolding passes_by reach_in choose
by-reach words w r y h = go (ltb (layout_of w.sizes).before (length words)) h
  where
    go : (t : Bool) → passes_by words w r (choose t (reach_of w r) nowhere) y ≡ true → passes_by words w r (reach_of w r) y ≡ true
    go true h = h
    go false h = absurd (false≢true h)

module _ (words : List ℕ) (w : Window) (r : Range) (y : ℕ) (over : passes words w r y ≡ true) where
  e : passes_by words w r (reach_of w r) y ≡ true
  e = by-reach words w r y over

  abbrev s : Sizes
  s = w.sizes

  abbrev up : ℕ
  up = offset_in (on_from r.y.first y) w.origin.y s.y

  reached : reaches w r ≡ true
  unfolding passes_by
  reached =
      let p = both ((reach_of w r).on && ltb up s.y) (all_marked words (reach_of w r) up) e in
      let q = both (reach_of w r).on (ltb up s.y) p.one in
      reach-on w r q.one

  high : ltb up s.y ≡ true
  unfolding passes_by
  high =
      let p = both ((reach_of w r).on && ltb up s.y) (all_marked words (reach_of w r) up) e in
      (both (reach_of w r).on (ltb up s.y) p.one).two

  fit : sizes_fit s ≡ true
  fit = layout-fits s (both (layout_of s).fits (spans s (first_column w r) (last_column w r)) reached).one

  full : reach_of w r ≡ reach_between record { fits = true; before = words_before s; across = groups_on s.x; deep = groups_on s.z } (first_column w r) (last_column w r)
  full = reach-is w r reached ∙ ap (λ (l : Laid). reach_between l (first_column w r) (last_column w r)) (layout_is s fit)

  all : all_marked words (reach_between record { fits = true; before = words_before s; across = groups_on s.x; deep = groups_on s.z } (first_column w r) (last_column w r)) up ≡ true
  unfolding passes_by
  all =
      let p = both ((reach_of w r).on && ltb up s.y) (all_marked words (reach_of w r) up) e in
      ap (λ (k : Reached). all_marked words k up) (sym full) ∙ p.two

  -- the four ends
  ends : spans s (first_column w r) (last_column w r) ≡ true
  ends = (both (layout_of s).fits (spans s (first_column w r) (last_column w r)) reached).two

  module _ (x z : ℕ) (hx : x < r.x.count) (hz : z < r.z.count) where
    on-x : Between w.origin.x s.x (on_from r.x.first x) (first_column w r).x (last_column w r).x
    on-x =
        let a = both (ltb (first_column w r).x s.x && ltb (last_column w r).x s.x && ltb (first_column w r).z s.z) (ltb (last_column w r).z s.z) ends in
        let b = both (ltb (first_column w r).x s.x && ltb (last_column w r).x s.x) (ltb (first_column w r).z s.z) a.one in
        let c = both (ltb (first_column w r).x s.x) (ltb (last_column w r).x s.x) b.one in
        in-range w.origin.x s.x r.x.first r.x.count x hx c.one c.two

    on-z : Between w.origin.z s.z (on_from r.z.first z) (first_column w r).z (last_column w r).z
    on-z =
        let a = both (ltb (first_column w r).x s.x && ltb (last_column w r).x s.x && ltb (first_column w r).z s.z) (ltb (last_column w r).z s.z) ends in
        let b = both (ltb (first_column w r).x s.x && ltb (last_column w r).x s.x) (ltb (first_column w r).z s.z) a.one in
        in-range w.origin.z s.z r.z.first r.z.count z hz b.two a.two

    on-y : Between w.origin.y s.y (on_from r.y.first y) up up
    on-y = alone w.origin.y s.y (on_from r.y.first y) high

    abbrev g : Group
    g = record { x = on-x.at / 4; y = up / 4; z = on-z.at / 4 }

    word-marked : get_or words (words_before s + group_index s g) 1 ≡ 0
    unfolding all_marked row_marked
    word-marked =
        let i = on-x.at / 4 - (first_column w r).x / 4 in
        let j = on-z.at / 4 - (first_column w r).z / 4 in
        let rows = every-at ((last_column w r).z / 4 + 1 - (first_column w r).z / 4) _ all j (steps (first_column w r).z on-z.at (last_column w r).z on-z.above on-z.under) in
        let word = every-at ((last_column w r).x / 4 + 1 - (first_column w r).x / 4) _ rows i (steps (first_column w r).x on-x.at (last_column w r).x on-x.above on-x.under) in
        let place = word-place (words_before s) ((first_column w r).x / 4) i (on-x.at / 4) (up / 4) (groups_on s.z) ((first_column w r).z / 4) j (on-z.at / 4) (groups_on s.x) (on-from (first_column w r).x on-x.at on-x.above) (on-from (first_column w r).z on-z.at on-z.above) in
        subst (λ (n : ℕ). get_or words n 1 ≡ 0) place (eqb-true _ 0 word)

    gx : g.x < groups_on s.x
    gx = of_four on-x.at s.x on-x.small

    gy : g.y < groups_on s.y
    gy = of_four up s.y (ltb-true up s.y high)

    gz : g.z < groups_on s.z
    gz = of_four on-z.at s.z on-z.small

    group_empty : (records : List ℕ) → Kept records words w → is_empty_group records words w g ≡ true
    group_empty records kept =
        let under = index-under s g gx gy gz in
        let l = (has words w kept.there).long in
        let there : words_before s + group_index s g < length words = omega arith in
        let fresh = kept.fresh (group_index s g) under ∙ ap (group_word records words w) (at-index s g gx gz) in
        empty-word (is_empty_group records words w g) (sym fresh ∙ any-default words (words_before s + group_index s g) 0 1 there ∙ word-marked)

    same-cell : cell_at w on-x.at up on-z.at ≡ place_at r x y z
    same-cell =
        let at_up : on-y.at ≡ up = let a = on-y.above in let b = on-y.under in omega arith in
        let ex = on-x.is in
        let ey = on-y.is ∙ ap (λ (n : ℕ). w.origin.y +ℤ pos n) at_up in
        let ez = on-z.is in
        λ i. record { x = sym ex i; y = sym ey i; z = sym ez i }

    pub clear : (records : List ℕ) → Kept records words w → is_empty records (look_at words w (place_at r x y z)) ≡ true
    clear records kept =
        subst (λ (p : Pos). is_empty records (look_at words w p) ≡ true) same-cell
        (cell-empty records words w on-x.at up on-z.at on-x.small (ltb-true up s.y high) on-z.small (group_empty records kept))

    -- words of cells and columns alone mark nothing
    pub never : length words ≤ words_before s → ⊥
    never h =
        let d = get_or-eq_default words 1 {n = words_before s + group_index s g} (omega arith) in
        let z : ◌≡◌ {A = ℕ} 1 0 = sym d ∙ word-marked in
        omega arith
