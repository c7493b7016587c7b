-- A group's word depends on the words of cells and columns alone, so that it stays what it is while the summary behind them is written.
-- Assumes nothing.
use mathlib.Core.Path.{◌≡◌, refl, sym, ap, ◌∙◌, subst}
use mathlib.Core.Bool.{Bool, true, false}
use mathlib.Core.List.{List}
use Prim.Native.Nat.{ℕ, ◌+◌, ◌*◌, ◌-◌, ◌≤◌, ◌<◌}
use native.Mathlib.Nat.{mul_comm}
use native.Mathlib.Omega.{arith}
use lib.Arith.{digits_lt}
use lib.IntN.{nat_abs, ◌-ℤ◌}
use lib.ListN.{length, get_or, set, length-set}
use lib.Seq.{get_or-set_other}
use Rattle.base.specs.Choose.{choose}
use Rattle.base.specs.Every.{every}
use Rattle.base.specs.Ask.{Ask}
use Rattle.base.specs.Loop.{listed, stored}
use Rattle.base.proofs.Every.{both}
use Rattle.window.specs.declared.Pos.{Pos}
use Rattle.window.specs.declared.Sizes.{Sizes}
use Rattle.window.specs.declared.Window.{Window}
use Rattle.window.specs.Window.{within, column_inside, height_inside, cell_count, column_count, index_of, column_index_of}
use Rattle.window.specs.Look.{Block, look_at}
use Rattle.window.proofs.Offsets.{below-size}
use Rattle.window.proofs.Cells.{outside-refused, is-inside, index_below}
use Rattle.group_words.specs.declared.Group.{Group}
use Rattle.groups.specs.Groups.{group_count, group_at, cut, cell_at, is_empty, is_empty_line, is_empty_layer, is_empty_group, group_word}
use Rattle.groups.specs.Summary.{words_before, summary_of}

-- the words of cells and columns are the same
pub record Alike (s : Sizes) (a b : List ℕ) : Type 0 where
  pub long : length a ≡ length b
  pub words : (i : ℕ) → i < words_before s → get_or a i 0 ≡ get_or b i 0

pub itself : (s : Sizes) (a : List ℕ) → Alike s a a
itself s a = record { long = refl; words = λ i h. refl }

before : {j n i : ℕ} → j < n → n ≤ i → j ≡ i → ⊥
before l h e = omega arith

-- a word behind them is written
pub behind : (s : Sizes) (a b : List ℕ) (i x : ℕ) → words_before s ≤ i → Alike s a b → Alike s (set a i x) b
behind s a b i x h same = record {
  long = length-set a i x ∙ same.long;
  words = λ j l. get_or-set_other a i j x 0 (before l h) ∙ same.words j l;
}

-- ---- the place of a column's word is behind the cells, and before the summary
pub column-before : (w : Window) (p : Pos) → column_inside w p ≡ true → column_index_of w p < words_before w.sizes
unfolding column_index_of
column-before w p c =
    let xz = both (within w.origin.x w.sizes.x p.x) (within w.origin.z w.sizes.z p.z) c in
    let x = below-size w.origin.x w.sizes.x p.x xz.one in
    let z = below-size w.origin.z w.sizes.z p.z xz.two in
    ahead (cell_count w.sizes) (subst (λ (n : ℕ). nat_abs (p.z -ℤ w.origin.z) * w.sizes.x + nat_abs (p.x -ℤ w.origin.x) < n) (mul_comm w.sizes.z w.sizes.x) (digits_lt z x))
  where
    ahead : {i n : ℕ} (k : ℕ) → i < n → k + i < k + n
    ahead k h = omega arith

-- ---- the look-up reads no other word
module _ (w : Window) (a b : List ℕ) (long : length a ≡ length b) (p : Pos) where
  -- by the words that it may read
  pub look-same : (column_inside w p ≡ true → get_or a (column_index_of w p) 0 ≡ get_or b (column_index_of w p) 0) → (column_inside w p ≡ true → height_inside w p ≡ true → get_or a (index_of w p) 0 ≡ get_or b (index_of w p) 0) → look_at a w p ≡ look_at b w p
  unfolding look_at choose
  look-same column cell = go (column_inside w p) refl
    where
      high : (t : Bool) → column_inside w p ≡ true → height_inside w p ≡ t → look_at a w p ≡ look_at b w p
      high true c h = rw (c, h, long, column c, cell c h)
      high false c h = rw (c, h, long, column c)

      go : (t : Bool) → column_inside w p ≡ t → look_at a w p ≡ look_at b w p
      go true c = high (height_inside w p) c refl
      go false c = outside-refused a w p c ∙ sym (outside-refused b w p c)

module _ (w : Window) (a b : List ℕ) (same : Alike w.sizes a b) where
  within-words : {i n : ℕ} (m : ℕ) → i < n → i < n + m
  within-words m h = omega arith

  pub look-alike : (p : Pos) → look_at a w p ≡ look_at b w p
  look-alike p =
      look-same w a b same.long p
      (λ c. same.words (column_index_of w p) (column-before w p c))
      (λ c h. same.words (index_of w p) (within-words (column_count w.sizes) (index_below w p (is-inside w p c h))))

  pub word-alike : (records : List ℕ) (g : Group) → group_word records a w g ≡ group_word records b w g
  unfolding is_empty_group is_empty_layer is_empty_line
  word-alike records g =
      ap (λ (look : Pos → Ask Block). choose (every (cut w.sizes.y g.y) (λ k. every (cut w.sizes.z g.z) (λ j. every (cut w.sizes.x g.x) (λ i. is_empty records (look (cell_at w (g.x * 4 + i) (g.y * 4 + k) (g.z * 4 + j))))))) 0 1)
      (λ i p. look-alike p i)

-- ---- building: the loop stores the words of what it began with
module _ (records words : List ℕ) (w : Window) where
  abbrev pub fresh : ℕ → ℕ
  fresh i = group_word records words w (group_at w.sizes i)

  pub build_begins : stored words (words_before w.sizes + 0) (listed fresh (group_count w.sizes - 0) 0) ≡ stored words (words_before w.sizes) (summary_of records words w)
  unfolding summary_of
  build_begins =
      let a : words_before w.sizes + 0 ≡ words_before w.sizes = omega arith in
      let b : group_count w.sizes - 0 ≡ group_count w.sizes = omega arith in
      rw (a, b)
