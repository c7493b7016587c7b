-- A tick over words with a summary is the single step over those of cells and columns alone; a set writes one of these, and the window passes its
-- check as before. Assumes nothing.
use mathlib.Core.Bool.{true, ◌&&◌}
use mathlib.Core.List.{List, [], ◌∷◌}
use mathlib.Core.Path.{◌≡◌, refl, sym, ap, ◌∙◌}
use Prim.Native.Nat.{ℕ, zero, suc, ◌+◌, ◌≤◌, ◌<◌}
use native.Mathlib.Nat.{not-suc-le-zero, le_of_suc-le-suc}
use native.Mathlib.Omega.{arith}
use lib.Dec.{eqb, leb}
use lib.Ieee.{Float}
use lib.ListN.{take, set, length-set}
use lib.Seq.{get_or-set_other}
use borrow.Author.Tests.{eq-eqb}
use Rattle.base.specs.Choose.{choose}
use Rattle.base.specs.Loop.{stored}
use Rattle.base.proofs.Every.{every-from}
use Rattle.base.proofs.Tests.{every-same}
use Rattle.bodies.specs.declared.BodyNumbers.{BodyNumbers}
use Rattle.bodies.specs.declared.Rules.{Rules}
use Rattle.bodies.specs.declared.MotionNumbers.{MotionNumbers}
use Rattle.window.specs.declared.Pos.{Pos}
use Rattle.window.specs.declared.Window.{Window}
use Rattle.window.specs.Window.{cell_count, column_count, index_of, sizes_fit, origin_fits, heights_fit, column_fits, columns_fit, window_fits, window_refusal}
use Rattle.window.specs.Numbers.{with_air}
use Rattle.lent.specs.Lent.{lent_refusal}
use Rattle.groups.specs.Groups.{group_count}
use Rattle.groups.specs.Summary.{words_before, has_summary, built, summary_of, set_in, agrees_at, agrees, summary_refusal}
use Rattle.groups.proofs.Sets.{has, Kept}
use Rattle.summary.specs.Calls.{plain_words}
use Rattle.step.proofs.Summed.{past-plain}
use Rattle.fall_rule.specs.declared.Fall.{Fall}
use Rattle.falls.specs.Answers.{falling_checked, falling_entry}

-- ---- the first words of a list of which one is written

module _ {A : Type 0} where
  take-set-in : (n : ℕ) (l : List A) (i : ℕ) (a : A) → i < n → take n (set l i a) ≡ set (take n l) i a
  take-set-in zero l i a h = absurd (not-suc-le-zero h)
  take-set-in (suc n) [] i a h = refl
  take-set-in (suc n) (x ∷ xs) zero a h = refl
  take-set-in (suc n) (x ∷ xs) (suc i) a h = ap (λ (r : List A). x ∷ r) (take-set-in n xs i a (le_of_suc-le-suc h))

  take-set-out : (n : ℕ) (l : List A) (i : ℕ) (a : A) → n ≤ i → take n (set l i a) ≡ take n l
  take-set-out zero l i a h = refl
  take-set-out (suc n) [] i a h = refl
  take-set-out (suc n) (x ∷ xs) zero a h = absurd (not-suc-le-zero h)
  take-set-out (suc n) (x ∷ xs) (suc i) a h = ap (λ (r : List A). x ∷ r) (take-set-out n xs i a (le_of_suc-le-suc h))

  take-stored : (n : ℕ) (l : List A) (i : ℕ) (xs : List A) → n ≤ i → take n (stored l i xs) ≡ take n l
  unfolding stored
  take-stored n l i [] h = refl
  take-stored n l i (x ∷ xs) h = take-stored n (set l i x) (i + 1) xs (omega arith) ∙ take-set-out n l i x h

-- ---- the words of cells and columns

plain-is : (words : List ℕ) (w : Window) → sizes_fit w.sizes ≡ true → plain_words words w ≡ take (words_before w.sizes) words
unfolding plain_words choose
plain-is words w e = rw e

module _ (records words : List ℕ) (w : Window) (there : has_summary words w ≡ true) where
  pub plain-built : plain_words (built records words w) w ≡ plain_words words w
  unfolding built choose
  plain-built =
      let f = (has words w there).sizes in
      rw there (plain-is (stored words (words_before w.sizes) (summary_of records words w)) w f ∙ take-stored (words_before w.sizes) words (words_before w.sizes) (summary_of records words w) (omega arith) ∙ sym (plain-is words w f))

  pub plain-set : (p : Pos) (state : ℕ) → index_of w p < cell_count w.sizes → plain_words (set_in records words w p state) w ≡ set (plain_words words w) (index_of w p) state
  plain-set p state h =
      let f = (has words w there).sizes in
      let below : index_of w p < words_before w.sizes = omega arith in
      plain-is (set_in records words w p state) w f
      ∙ take-set-out (words_before w.sizes) (set words (index_of w p) state) _ _ (omega arith)
      ∙ take-set-in (words_before w.sizes) words (index_of w p) state below
      ∙ ap (λ (c : List ℕ). set c (index_of w p) state) (sym (plain-is words w f))

-- ---- a set leaves the window's check as it is

apart : {n i : ℕ} (k : ℕ) → i < n → n + k ≡ i → ⊥
apart k h e = omega arith

module _ (cells : List ℕ) (w : Window) (i x : ℕ) (h : i < cell_count w.sizes) where
  window-kept : window_fits (set cells i x) w ≡ window_fits cells w
  unfolding window_fits columns_fit column_fits
  window-kept =
      let n = length-set cells i x in
      let c = every-same (λ k. column_fits (set cells i x) (cell_count w.sizes + k)) (λ k. column_fits cells (cell_count w.sizes + k))
      (λ k. ap (λ (v : ℕ). leb v 1) (get_or-set_other cells i (cell_count w.sizes + k) x 0 (apart k h))) (column_count w.sizes) in
      λ j. sizes_fit w.sizes && origin_fits w.origin && heights_fit w.lowest w.highest && eqb (n j) (cell_count w.sizes + column_count w.sizes) && c j

  pub lent-kept : (records : List ℕ) (shapes : List Float) → lent_refusal records shapes (set cells i x) w ≡ lent_refusal records shapes cells w
  unfolding lent_refusal window_refusal
  lent-kept records shapes = rw window-kept

-- ---- the tick

-- a summary whose words are those built afresh passes its check
pub passes : (records words : List ℕ) (w : Window) → Kept records words w → summary_refusal records words w ≡ 0
unfolding summary_refusal agrees choose
passes records words w k = rw (k.there, every-from (group_count w.sizes) (agrees_at records words w) (λ i h. eq-eqb _ _ (k.fresh i h)))

module _ (records : List ℕ) (shapes : List Float) (words : List ℕ) (w : Window) (rules : Rules) (body : BodyNumbers) (given : MotionNumbers) (age : ℕ) (fall : Fall) where
  pub tick-plain : Kept records words (with_air w rules.air) → lent_refusal records shapes (plain_words words w) w ≡ 0
      → falling_checked records shapes words w rules body given age fall ≡ falling_entry records shapes (plain_words words w) w rules body given age fall
  unfolding falling_checked falling_entry choose
  tick-plain k sound = rw (sound, past-plain records shapes words w rules body given age (passes records words (with_air w rules.air) k))
