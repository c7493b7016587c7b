-- What a scene's tick comes to, and the tick's answer as bytes. Document 01's words stand in quotes.
use Rattle.std.specs.Prelude.{List, ℕ}
use Rattle.base.specs.Choose.{choose}
use Rattle.floats.specs.Numbers.{zero64}
use Rattle.boxes.specs.Boxes.{vec}
use Rattle.tables.specs.declared.LiquidKind.TheVariants.{None}
use Rattle.drags.specs.declared.Support.TheVariants.{NotAsked}
use Rattle.bodies.specs.Lent.{motion_at, body_at, rules_at}
use Rattle.step_answers.specs.Records.{StepAnswer}
use Rattle.step.specs.Answers.{step_entry}
use Rattle.text.specs.Text.{text_of}
use Rattle.files.specs.declared.Counts.{Counts}
use Rattle.files.specs.Files.{counts_of, is_scene}
use Rattle.files.specs.Contents.{Contents, contents_behind}

-- ---- the tick of a scene: "8 comes first"

-- there is no motion to hand back: zero, liquid none, and no sample asked for
abbrev pub malformed : StepAnswer
malformed =
    record {
      motion = record { feet = vec zero64 zero64 zero64; velocity = vec zero64 zero64 zero64; on_ground = 0 };
      liquid = None;
      support = NotAsked;
      refusal = 8;
    }

-- the step of these contents
abbrev pub step_of_contents : Contents → StepAnswer
step_of_contents c =
    step_entry c.records c.shapes c.cells c.window
    (rules_at c.numbers c.words) (body_at c.numbers c.words) (motion_at c.numbers c.words) c.age

unfoldable pub step_in : List ℕ → Counts → StepAnswer
step_in file n = step_of_contents (contents_behind file n)

unfoldable pub tick_of : List ℕ → StepAnswer
tick_of file = choose (is_scene file) (step_in file (counts_of file)) malformed

-- ---- its answer as bytes

abbrev pub answer_text : StepAnswer → List ℕ
answer_text a = text_of a.refusal a.motion a.liquid
