-- From what the program finds of a file's counts to what the scene written anew comes to. Assumes nothing.
use mathlib.Core.Bool.{Bool, true, false}
use mathlib.Core.List.{List}
use mathlib.Core.Path.{◌≡◌, refl}
use Prim.Native.Nat.{ℕ, ◌≤◌}
use lib.ListN.{length}
use Rattle.base.specs.Choose.{choose}
use Rattle.base.specs.Ask.{refused, found}
use Rattle.files.specs.declared.Counts.{Counts}
use Rattle.files.specs.Files.{counts_of, blocks_for, is_scene}
use Rattle.files.specs.Contents.{contents_in, contents_behind}
use Rattle.files.proofs.Scenes.{scene}
use Rattle.writer.specs.Written.{Written, written_scene, scene_answer}
use Rattle.scene_anew.specs.Rewritten.{rewritten, rewrite_answer}

module _ (file out : List ℕ) where
  pub not-rewritten : (k : ℕ) → refused k ≡ choose (is_scene file) (found (counts_of file)) (refused 8)
      → (out ≡ rewritten out file) × (record { refusal = k; bytes = 0 } ≡ rewrite_answer (length out) file)
  unfolding rewritten rewrite_answer choose
  not-rewritten k e = go (is_scene file) e
    where
      go : (t : Bool) → refused k ≡ choose t (found (counts_of file)) (refused 8)
          → (out ≡ choose t (written_scene out (contents_in file)) out) × (record { refusal = k; bytes = 0 } ≡ choose t (scene_answer (length out) (contents_in file)) record { refusal = 8; bytes = 0 })
      go true e = cc
      go false e = let q : k ≡ 8 = cc in rw q (refl, refl)

  pub rewritten-by : (n : Counts) (after : List ℕ) (r : Written) → found n ≡ choose (is_scene file) (found (counts_of file)) (refused 8)
      → (blocks_for n ≤ 128 → after ≡ written_scene out (contents_behind file n)) → (blocks_for n ≤ 128 → r ≡ scene_answer (length out) (contents_behind file n))
      → (after ≡ rewritten out file) × (r ≡ rewrite_answer (length out) file)
  unfolding rewritten rewrite_answer choose
  rewritten-by n after r e f g =
      let s = scene file n e in
      rw (s.test, s.same) (f s.few, g s.few)

-- a file that is no scene is refused by 8, whole
pub rewrite-8 : (size : ℕ) (file : List ℕ) → is_scene file ≡ false → rewrite_answer size file ≡ record { refusal = 8; bytes = 0 }
unfolding rewrite_answer choose
rewrite-8 size file e = rw e
