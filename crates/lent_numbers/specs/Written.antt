-- What is written into lent numbers.
use Rattle.std.specs.Prelude.{Bool, List, [], ◌∷◌, eqb, Float}
use Rattle.base.specs.Ask.{Ask, refused, found}
use Rattle.base.specs.Choose.{choose}
use Rattle.base.specs.Loop.{stored}
use Rattle.floats.specs.Numbers.{zero64}
use Rattle.boxes.specs.declared.Vec3.{Vec3}
use Rattle.boxes.specs.Limits.{two_to}
use Rattle.sweeps.specs.declared.MoveResult.{MoveResult}
use Rattle.sweeps.specs.Entry.{MoveAnswer}

-- 1.0 or 0.0
abbrev pub flag_of : Bool → Float
flag_of holds = choose holds (two_to 0) zero64

-- a vector and a flag: four numbers
abbrev pub flagged : Vec3 → Bool → List Float
flagged v holds = v.x ∷ v.y ∷ v.z ∷ flag_of holds ∷ []

-- the box after the move, the way that it went, and the ground flag: ten numbers
unfoldable pub numbers_of : MoveResult → List Float
numbers_of m =
    m.aabb.min.x ∷ m.aabb.min.y ∷ m.aabb.min.z
    ∷ m.aabb.max.x ∷ m.aabb.max.y ∷ m.aabb.max.z
    ∷ m.moved.x ∷ m.moved.y ∷ m.moved.z
    ∷ flag_of m.on_ground ∷ []

-- what stands in the lent place afterwards: a refusal writes nothing
unfoldable pub written_by : List Float → MoveAnswer → List Float
written_by out a = choose (eqb a.refusal 0) (stored out 0 (numbers_of a.result)) out

-- the same of a move that was asked for (`asked-written` of proofs/Answers.antt)
abbrev pub written_asked : List Float → Ask MoveResult → List Float
written_asked out (found m) = stored out 0 (numbers_of m)
written_asked out (refused k) = out
