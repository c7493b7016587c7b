-- A summary that passes its check is one whose words are those built afresh; and a look-up over the words with it is the look-up over those of cells
-- and columns. Assumes nothing.
use mathlib.Core.Path.{◌≡◌, refl, sym, ap, ◌∙◌}
use mathlib.Core.Bool.{Bool, true, false}
use mathlib.Core.List.{List}
use Prim.Native.Nat.{ℕ, ◌+◌, ◌<◌}
use native.Mathlib.Omega.{arith}
use lib.Dec.{ltb}
use lib.ListN.{length, get_or, take}
use lib.Seq.{get_or-take, length-take-le}
use borrow.Author.Tests.{lt-ltb, eqb-true}
use Rattle.base.specs.Choose.{choose}
use Rattle.base.proofs.Every.{every-at}
use Rattle.window.specs.declared.Pos.{Pos}
use Rattle.window.specs.declared.Window.{Window}
use Rattle.window.specs.Window.{column_inside, height_inside, column_count, index_of, column_index_of}
use Rattle.window.specs.Look.{look_at}
use Rattle.window.specs.Numbers.{with_air}
use Rattle.window.proofs.Cells.{outside-refused, is-inside, index_below}
use Rattle.groups.specs.Groups.{group_count}
use Rattle.groups.specs.Summary.{words_before, has_summary, agrees_at, agrees, summary_refusal}
use Rattle.groups.proofs.Same.{column-before}
use Rattle.groups.proofs.Sets.{Kept, Has}
use Rattle.summary.specs.Calls.{plain_words}

-- ---- by its check
module _ (records words : List ℕ) (w : Window) where
  pub kept : summary_refusal records words w ≡ 0 → Kept records words w
  unfolding summary_refusal agrees choose
  kept h = go (has_summary words w) (agrees records words w) refl refl h
    where
      go : (t a : Bool) → has_summary words w ≡ t → agrees records words w ≡ a → ◌≡◌ {A = ℕ} (choose t (choose a 0 13) 11) 0 → Kept records words w
      go true true e f h = record { there = e; fresh = λ i l. eqb-true _ _ (every-at (group_count w.sizes) (agrees_at records words w) f i l) }
      go true false e f h = absurd (omega arith)
      go false a e f h = absurd (omega arith)

-- ---- the look-up
-- no air state tells which words are those of cells and columns
pub plain-air : (words : List ℕ) (w : Window) (air : ℕ) → plain_words words (with_air w air) ≡ plain_words words w
unfolding plain_words
plain-air words w air = refl

module _ (words : List ℕ) (w : Window) (there : Has words w) where
  is-part : plain_words words w ≡ take (words_before w.sizes) words
  unfolding plain_words choose
  is-part = rw there.sizes

  part-long : length (plain_words words w) ≡ words_before w.sizes
  part-long = let l = there.long in ap length is-part ∙ length-take-le (words_before w.sizes) words (omega arith)

  part-word : (i : ℕ) → i < words_before w.sizes → get_or (plain_words words w) i 0 ≡ get_or words i 0
  part-word i h = ap (λ (l : List ℕ). get_or l i 0) is-part ∙ get_or-take (words_before w.sizes) words i 0 h

  within-words : {i n : ℕ} (m : ℕ) → i < n → i < n + m
  within-words m h = omega arith

  pub look-plain : (p : Pos) → look_at words w p ≡ look_at (plain_words words w) w p
  unfolding look_at choose
  look-plain p = go (column_inside w p) refl
    where
      lent : column_inside w p ≡ true → ltb (column_index_of w p) (length words) ≡ true
      lent c = let l = there.long in let h = column-before w p c in lt-ltb (column_index_of w p) (length words) (omega arith)

      part-lent : column_inside w p ≡ true → ltb (column_index_of w p) (length (plain_words words w)) ≡ true
      part-lent c = let l = part-long in let h = column-before w p c in lt-ltb (column_index_of w p) (length (plain_words words w)) (omega arith)

      column : column_inside w p ≡ true → get_or (plain_words words w) (column_index_of w p) 0 ≡ get_or words (column_index_of w p) 0
      column c = part-word (column_index_of w p) (column-before w p c)

      high : (t : Bool) → column_inside w p ≡ true → height_inside w p ≡ t → look_at words w p ≡ look_at (plain_words words w) w p
      high true c h = rw (c, h, lent c, part-lent c, column c, part-word (index_of w p) (within-words (column_count w.sizes) (index_below w p (is-inside w p c h))))
      high false c h = rw (c, h, lent c, part-lent c, column c)

      go : (t : Bool) → column_inside w p ≡ t → look_at words w p ≡ look_at (plain_words words w) w p
      go true c = high (height_inside w p) c refl
      go false c = outside-refused words w p c ∙ sym (outside-refused (plain_words words w) w p c)
