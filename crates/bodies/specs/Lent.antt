-- A body in lent numbers: 19 numbers and 7 words, in the order of a scene file, and what is refused of them.
use Rattle.std.specs.Prelude.{List, ℕ, Float}
use Rattle.base.specs.Choose.{choose}
use Rattle.tables.specs.Tables.{word_at}
use Rattle.bodies.specs.declared.BodyNumbers.{BodyNumbers}
use Rattle.bodies.specs.declared.Rules.{Rules}
use Rattle.bodies.specs.declared.MotionNumbers.{MotionNumbers}
use Rattle.bodies.specs.Numbers.{number_at, motion_from, body_from, rules_from, lengths_fit}
use Rattle.bodies.specs.Limits.{number_refusal}

abbrev pub motion_at : List Float → List ℕ → MotionNumbers
motion_at numbers words = motion_from (number_at numbers) (word_at words 0)

abbrev pub body_at : List Float → List ℕ → BodyNumbers
body_at numbers words = body_from (number_at numbers) (word_at words 0)

abbrev pub rules_at : List Float → List ℕ → Rules
rules_at numbers words = rules_from (number_at numbers) (word_at words 0)

-- 3 for numbers or words that are not as many as a body's; else 3, then 4, for what they are; else 0
unfoldable pub body_refusal : List ℕ → List Float → List ℕ → ℕ
body_refusal records numbers words =
    choose (lengths_fit numbers words) (number_refusal records (rules_at numbers words) (body_at numbers words) (motion_at numbers words)) 3
