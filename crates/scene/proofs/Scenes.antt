-- From what the program finds of a file's counts to what the tick comes to. Assumes nothing.
use mathlib.Core.List.{List}
use mathlib.Core.Path.{◌≡◌, sym, ap, ◌∙◌}
use Prim.Native.Nat.{ℕ, ◌≤◌}
use Rattle.base.specs.Choose.{choose}
use mathlib.Core.Bool.{Bool, true, false}
use Rattle.base.specs.Ask.{Ask, refused, found}
use Rattle.step_answers.specs.declared.Tick.{Tick}
use Rattle.step_answers.specs.Answers.{step_answer}
use Rattle.scene.specs.Given.{given_of, no_motion, scene_given}
use Rattle.files.specs.declared.Counts.{Counts}
use Rattle.files.specs.Files.{counts_of, blocks_for, is_scene}
use Rattle.files.proofs.Scenes.{scene}
use Rattle.scene.specs.Scene.{malformed, step_in, tick_of}

module _ (file : List ℕ) where
  pub no-tick : (k : ℕ) → refused k ≡ choose (is_scene file) (found (counts_of file)) (refused 8) → step_answer (scene_given file) (refused k) ≡ tick_of file
  unfolding tick_of scene_given choose
  no-tick k e = go (is_scene file) e
    where
      go : (t : Bool) → refused k ≡ choose t (found (counts_of file)) (refused 8)
          → step_answer (choose t (given_of file) no_motion) (refused k) ≡ choose t (step_in file (counts_of file)) malformed
      go true e = cc
      go false e = let q : k ≡ 8 = cc in rw q

  pub tick-by : (n : Counts) (a : Ask Tick) → found n ≡ choose (is_scene file) (found (counts_of file)) (refused 8)
      → (blocks_for n ≤ 128 → step_answer (given_of file) a ≡ step_in file n) → step_answer (scene_given file) a ≡ tick_of file
  unfolding tick_of scene_given choose
  tick-by n a e f =
      let s = scene file n e in
      rw s.test (f s.few ∙ ap (step_in file) (sym s.same))
