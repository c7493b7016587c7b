-- What a list of moves comes to, said from the list: where its last reset and its last landing stand, and the drops between.
use Rattle.std.specs.Prelude.{Bool, true, not, ◌&&◌, ◌||◌, List, [], ◌∷◌, ◌++◌, ◌≡◌, ℕ, T, eqb, Float}
use Rattle.base.specs.Choose.{choose}
use Rattle.floats.specs.Numbers.{zero64}
use Rattle.tables.specs.declared.LiquidKind.{LiquidKind}
use Rattle.flow.specs.Liquid.{is_water}
use Rattle.window.specs.declared.Window.{Window}
use Rattle.bodies.specs.declared.BodyNumbers.{BodyNumbers}
use Rattle.bodies.specs.declared.Rules.{Rules}
use Rattle.bodies.specs.declared.MotionNumbers.{MotionNumbers}
use Rattle.bodies.specs.Body.{is_yes}
use Rattle.step_answers.specs.Records.{StepAnswer}
use Rattle.step.specs.Answers.{step_entry}
use Rattle.fall_rule.specs.declared.Fall.{Fall}
use Rattle.step_answers.specs.Records.{FallingAnswer}
use Rattle.fall_rule.specs.Rule.{moved, went_down, drop_of, deeper, landing, fall_after}
use Rattle.falls.specs.Answers.{falling_entry}

-- ---- a move: the feet's y before and after it, whether it stood on the ground, and the liquid sensed

pub record Move : Type 0 where
  pub old : Float
  pub new : Float
  pub on_ground : Bool
  pub liquid : LiquidKind

abbrev pub move_of : Move → Float
move_of m = moved m.old m.new

abbrev pub lands : Move → Bool
lands m = not (is_water m.liquid) && m.on_ground

-- water, the ground, or a move that does not go down
abbrev pub resets : Move → Bool
resets m = is_water m.liquid || (m.on_ground || not (went_down (move_of m)))

-- ---- "the drops … added in order, each addition rounded and capped at 2^30"

unfoldable pub deepened : Float → List Move → Float
deepened sum [] = sum
deepened sum (m ∷ ms) = deepened (deeper sum (drop_of (move_of m))) ms

abbrev pub drops_of : List Move → Float
drops_of ms = deepened zero64 ms

-- ---- the last move of a kind

unfoldable pub none_of : (Move → Bool) → List Move → Bool
none_of p [] = true
none_of p (m ∷ ms) = not (p m) && none_of p ms

-- the list split at its last move of the kind p
pub record Last (p : Move → Bool) (moves : List Move) : Type 0 where
  pub earlier : List Move
  pub move : Move
  pub later : List Move
  pub whole : moves ≡ earlier ++ (move ∷ later)
  pub is : T (p move)
  pub none : T (none_of p later)

-- "since the last reset": the moves behind it; all of them where none resets
pub data Since (moves : List Move) : List Move → Type 0 where
  past : (l : Last resets moves) → Since moves l.later
  all : T (none_of resets moves) → Since moves moves

-- what the last landing gave, the drops since the reset before it with its own if it went down; 0 where there was none
pub data Landed (moves : List Move) : Float → Type 0 where
  last : (l : Last lands moves) (since : List Move) → Since l.earlier since → Landed moves (landing (drops_of since) (move_of l.move))
  never : T (none_of lands moves) → Landed moves zero64

-- ---- what is to hold of the record after these moves, from a fresh one: "the sum is … the drops since the last reset"

pub record Fallen (moves : List Move) (fall : Fall) : Type 0 where
  pub since : List Move
  pub is : Since moves since
  pub sum : fall.sum ≡ drops_of since
  pub landed : Landed moves fall.landed

-- ---- the record after a move, by the rule, and after each of a list in turn

abbrev pub fall_after_move : Fall → Move → Fall
fall_after_move fall m = fall_after fall m.old m.new m.on_ground m.liquid

unfoldable pub through : Fall → List Move → Fall
through fall [] = fall
through fall (m ∷ ms) = through (fall_after_move fall m) ms

-- ---- steps: calls of step_falling, the record handed from each to the next

pub record StepCall : Type 0 where
  pub records : List ℕ
  pub shapes : List Float
  pub cells : List ℕ
  pub window : Window
  pub rules : Rules
  pub body : BodyNumbers
  pub given : MotionNumbers
  pub age : ℕ

abbrev pub falling_of : StepCall → Fall → FallingAnswer
falling_of c fall = falling_entry c.records c.shapes c.cells c.window c.rules c.body c.given c.age fall

unfoldable pub played : Fall → List StepCall → Fall
played fall [] = fall
played fall (c ∷ cs) = played (falling_of c fall).fall cs

-- what the step itself answers, with no record beside it
abbrev pub step_of : StepCall → StepAnswer
step_of c = step_entry c.records c.shapes c.cells c.window c.rules c.body c.given c.age

abbrev pub step_move : StepCall → Move
step_move c =
    record {
      old = c.given.feet.y;
      new = (step_of c).motion.feet.y;
      on_ground = is_yes (step_of c).motion.on_ground;
      liquid = (step_of c).liquid;
    }

-- the moves of the steps that are not refused
unfoldable pub moves_of : List StepCall → List Move
moves_of [] = []
moves_of (c ∷ cs) = choose (eqb (step_of c).refusal 0) (step_move c ∷ moves_of cs) (moves_of cs)
