-- What a scene's tick is given: the motion of its body, and none where the file is no scene. A refused tick hands it back.
use Rattle.std.specs.Prelude.{List, ℕ}
use Rattle.base.specs.Choose.{choose}
use Rattle.floats.specs.Numbers.{zero64}
use Rattle.boxes.specs.Boxes.{vec}
use Rattle.bodies.specs.declared.MotionNumbers.{MotionNumbers}
use Rattle.bodies.specs.Lent.{motion_at}
use Rattle.files.specs.Files.{is_scene}
use Rattle.files.specs.Contents.{numbers_in, late_words}

abbrev pub given_of : List ℕ → MotionNumbers
given_of file = motion_at (numbers_in file) (late_words file)

abbrev pub no_motion : MotionNumbers
no_motion = record { feet = vec zero64 zero64 zero64; velocity = vec zero64 zero64 zero64; on_ground = 0 }

unfoldable pub scene_given : List ℕ → MotionNumbers
scene_given file = choose (is_scene file) (given_of file) no_motion
