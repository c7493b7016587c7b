-- The word of a group that a window can have, and of one that no window has. Assumes nothing.
use mathlib.Core.Bool.{Bool, true, false, ◌&&◌}
use mathlib.Core.List.{List}
use mathlib.Core.Path.{◌≡◌, sym, ◌∙◌}
use Prim.Native.Nat.{ℕ, ◌<◌}
use lib.Dec.{ltb}
use borrow.Author.Tests.{ltb-true, lt-ltb}
use Rattle.base.specs.Choose.{choose}
use Rattle.base.proofs.Every.{both}
use Rattle.window.specs.declared.Window.{Window}
use Rattle.group_words.specs.declared.Group.{Group}
use Rattle.group_words.specs.Groups.{group_word, is_group, word_of_group}

pub record Near (g : Group) : Type 0 where
  pub x : g.x < 16
  pub y : g.y < 16
  pub z : g.z < 16

pub is-near : (g : Group) (t : Bool) → t ≡ is_group g → t ≡ true → Near g
is-near g t e h =
    let a = both (ltb g.x 16 && ltb g.y 16) (ltb g.z 16) (sym e ∙ h) in
    let b = both (ltb g.x 16) (ltb g.y 16) a.one in
    record { x = ltb-true g.x 16 b.one; y = ltb-true g.y 16 b.two; z = ltb-true g.z 16 a.two }

module _ (records words : List ℕ) (w : Window) (g : Group) where
  pub word-near : Near g → word_of_group records words w g ≡ group_word records words w g
  unfolding word_of_group choose
  word-near n = rw (lt-ltb g.x 16 n.x, lt-ltb g.y 16 n.y, lt-ltb g.z 16 n.z)

  pub word-beyond : is_group g ≡ false → word_of_group records words w g ≡ 1
  unfolding word_of_group choose
  word-beyond h = rw h
