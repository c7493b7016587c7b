-- A file, as the writer makes it of its contents: 8 comes first.
use Rattle.std.specs.Prelude.{List, ℕ}
use Rattle.base.specs.Choose.{choose}
use Rattle.files.specs.Files.{is_scene}
use Rattle.files.specs.Contents.{contents_in}
use Rattle.writer.specs.Written.{Written, written_scene, scene_answer}

-- nothing is written of a file that is no scene
unfoldable pub rewritten : List ℕ → List ℕ → List ℕ
rewritten out file = choose (is_scene file) (written_scene out (contents_in file)) out

unfoldable pub rewrite_answer : ℕ → List ℕ → Written
rewrite_answer size file = choose (is_scene file) (scene_answer size (contents_in file)) record { refusal = 8; bytes = 0 }
