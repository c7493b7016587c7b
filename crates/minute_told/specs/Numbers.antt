-- What is handed back of a minute: twelve numbers in a lent place.
use Rattle.std.specs.Prelude.{Bool, ◌||◌, List, [], ◌∷◌, eqb, ltb, pos, Float}
use Rattle.std.specs.Float.{binary64}
use Rattle.std.specs.Float.Ieee.{of_int}
use Rattle.base.specs.Choose.{choose}
use Rattle.base.specs.Loop.{stored}
use Rattle.lent_words.specs.Words.{low_of, high_of}
use Rattle.minute_state.specs.Turns.{Minute}

-- feet, velocity, ground; the fall record, sum and landed; how many ticks were done; the age, low word and high
abbrev pub minute_numbers : Minute → List Float
minute_numbers m =
    m.motion.feet.x ∷ m.motion.feet.y ∷ m.motion.feet.z
    ∷ m.motion.velocity.x ∷ m.motion.velocity.y ∷ m.motion.velocity.z
    ∷ of_int binary64 (pos m.motion.on_ground) ∷ m.fall.sum ∷ m.fall.landed
    ∷ of_int binary64 (pos m.ticks) ∷ of_int binary64 (pos (low_of m.age)) ∷ of_int binary64 (pos (high_of m.age)) ∷ []

-- the log came to its end, or a tick was done
abbrev pub has_moved : Minute → Bool
has_moved m = eqb m.refusal 0 || ltb 0 m.ticks

-- a refusal before the first tick writes nothing
unfoldable pub minute_written : List Float → Minute → List Float
minute_written out m = choose (has_moved m) (stored out 0 (minute_numbers m)) out
