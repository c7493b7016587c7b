-- The words of cells and columns as a part of those that are lent. Assumes nothing.
use mathlib.Core.Path.{◌≡◌, refl, sym, ap, ◌∙◌, subst}
use mathlib.Core.Bool.{Bool, true, false, true≢false, false≢true}
use mathlib.Core.List.{List}
use Prim.Native.Nat.{ℕ, ◌≤◌}
use lib.ListN.{length, take}
use lib.Seq.{take_all}
use Rattle.std.specs.Prelude.{None, Some}
use Rattle.base.specs.Choose.{choose}
use Rattle.window.specs.declared.Sizes.{Sizes}
use Rattle.window.specs.declared.Window.{Window}
use Rattle.window.specs.Window.{sizes_fit}
use Rattle.groups.specs.declared.Layout.{Layout}
use Rattle.groups.specs.Groups.{groups_on}
use Rattle.groups.specs.Summary.{words_before}
use Rattle.groups.specs.Places.{Laid, layout_of, layout_seen}
use Rattle.summary.specs.Calls.{plain_words}

-- what a layout says of the sizes
record Fitting (s : Sizes) (l : Laid) (t : Bool) : Type 0 where
  pub sizes : sizes_fit s ≡ t
  pub before : l.before ≡ choose t (words_before s) 0

laid : (s : Sizes) (l : Laid) (t : Bool) → l ≡ layout_of s → l.fits ≡ t → Fitting s l t
unfolding layout_of choose
laid s l t e f = go (sizes_fit s) t refl (ap (λ (k : Laid). k.fits) (sym e) ∙ f) (ap (λ (k : Laid). k.before) e)
  where
    go : (b t : Bool) → sizes_fit s ≡ b → (choose {A = Laid} (sizes_fit s) record { fits = true; before = words_before s; across = groups_on s.x; deep = groups_on s.z } record { fits = false; before = 0; across = 0; deep = 0 }).fits ≡ t
        → l.before ≡ (choose {A = Laid} (sizes_fit s) record { fits = true; before = words_before s; across = groups_on s.x; deep = groups_on s.z } record { fits = false; before = 0; across = 0; deep = 0 }).before → Fitting s l t
    go true true h f g = record { sizes = h; before = g ∙ (rw h) }
    go true false h f g = absurd (true≢false (rw h at f))
    go false true h f g = absurd (false≢true (rw h at f))
    go false false h f g = record { sizes = h; before = g ∙ (rw h) }

module _ (words : List ℕ) (w : Window) where
  -- a layout, whose words end before those that are lent
  pub cut-plain : (l : Layout) → layout_seen (Some l) ≡ layout_of w.sizes → take l.before words ≡ plain_words words w
  unfolding plain_words choose
  cut-plain l e =
      let k = laid w.sizes (layout_seen (Some l)) true e refl in
      ap (λ (i : ℕ). take i words) k.before ∙ (rw k.sizes)

  -- or do not, so that they are all that are lent; and no layout
  pub short-plain : (l : Layout) → layout_seen (Some l) ≡ layout_of w.sizes → length words ≤ l.before → words ≡ plain_words words w
  unfolding plain_words choose
  short-plain l e g =
      let k = laid w.sizes (layout_seen (Some l)) true e refl in
      sym (take_all (words_before w.sizes) words (subst (λ (n : ℕ). length words ≤ n) k.before g)) ∙ (rw k.sizes)

  pub no_plain : layout_seen None ≡ layout_of w.sizes → words ≡ plain_words words w
  unfolding plain_words choose
  no_plain e = let k = laid w.sizes (layout_seen None) false e refl in rw k.sizes
