-- What a host is handed of a summary: 1, 2 and 3 of what it lends come first, as in every call that asks for cells; then 11 for a summary of the
-- wrong length, 13 for a word that disagrees with its cells, and 5 for a set outside the window. A refusal changes nothing.
use Rattle.std.specs.Prelude.{not, List, ℕ, eqb, Float, take}
use Rattle.base.specs.Choose.{choose}
use Rattle.base.specs.Ask.{Ask}
use Rattle.lent.specs.Lent.{unless, direct_refusal}
use Rattle.window.specs.declared.Pos.{Pos}
use Rattle.window.specs.declared.Window.{Window}
use Rattle.window.specs.Window.{sizes_fit}
use Rattle.groups.specs.Summary.{words_before, build_refusal, built, summary_refusal, set_refusal, after_set}

-- the words of cells and columns, without those of a summary
unfoldable pub plain_words : List ℕ → Window → List ℕ
plain_words words w = choose (sizes_fit w.sizes) (take (words_before w.sizes) words) words

-- 1, then 2, then 3
abbrev pub plain_refusal : List ℕ → List Float → List ℕ → Window → ℕ
plain_refusal records shapes words w = direct_refusal records shapes (plain_words words w) w

-- then 11, then 13
unfoldable pub summed_refusal : List ℕ → List Float → List ℕ → Window → ℕ
summed_refusal records shapes words w =
    choose (eqb (plain_refusal records shapes words w) 0) (summary_refusal records words w) (plain_refusal records shapes words w)

-- in an entry over a summary 11 and 13 come after 4, and before any cell is asked for
abbrev pub summed : {A : Type 0} → List ℕ → List ℕ → Window → Ask A → Ask A
summed records words w ask = unless (not (eqb (summary_refusal records words w) 0)) (summary_refusal records words w) ask

-- ---- building

unfoldable pub build_entry : List ℕ → List Float → List ℕ → Window → ℕ
build_entry records shapes words w =
    choose (eqb (plain_refusal records shapes words w) 0) (build_refusal words w) (plain_refusal records shapes words w)

unfoldable pub built_entry : List ℕ → List Float → List ℕ → Window → List ℕ
built_entry records shapes words w = choose (eqb (plain_refusal records shapes words w) 0) (built records words w) words

-- ---- setting a cell

unfoldable pub set_entry : List ℕ → List Float → List ℕ → Window → Pos → ℕ
set_entry records shapes words w p =
    choose (eqb (summed_refusal records shapes words w) 0) (set_refusal words w p) (summed_refusal records shapes words w)

unfoldable pub after_set_entry : List ℕ → List Float → List ℕ → Window → Pos → ℕ → List ℕ
after_set_entry records shapes words w p state =
    choose (eqb (summed_refusal records shapes words w) 0) (after_set records words w p state) words
