-- Document 01's P1 to P6: moves over a list. The mover is (0,1,0)-(1,2,1).
use Rattle.std.specs.Prelude.{Bool, true, false, List, [], ◌∷◌, ◌++◌, ℕ, ◌-◌, length, replicate, Float}
use Rattle.std.specs.Float.{binary64}
use Rattle.std.specs.Float.Ieee.{round, neg}
use Rattle.boxes.specs.declared.Vec3.{Vec3}
use Rattle.boxes.specs.declared.Aabb.{Aabb}
use Rattle.sweeps.specs.declared.BoxList.{BoxList}
use Rattle.boxes.specs.Boxes.{vec, box}
use Rattle.sweeps.specs.Lists.{room, no_box}

-- n / d
abbrev pub ratio : ℕ → ℕ → Float
ratio n d = round binary64 false n d

abbrev pub whole : ℕ → Float
whole n = ratio n 1

abbrev pub mover : Aabb
mover = box (vec (whole 0) (whole 1) (whole 0)) (vec (whole 1) (whole 2) (whole 1))

-- The boxes, the delta, the step height and whether the body was on the ground; then how far it moves, and its ground flag.
pub record MoveScene : Type 0 where
  pub boxes : List Aabb
  pub delta : Vec3
  pub step : Float
  pub on_ground : Bool
  pub moved : Vec3
  pub after : Bool

-- the boxes as a program holds them: a place for each that there is room for, and a count
unfoldable pub list_for : List Aabb → BoxList
list_for boxes = record { boxes = boxes ++ replicate (room - length boxes) no_box; count = length boxes }

-- one box, delta (2,0,0)
abbrev pub sliding : Aabb → Vec3 → MoveScene
sliding b moved = record { boxes = b ∷ []; delta = vec (whole 2) (whole 0) (whole 0); step = whole 0; on_ground = false; moved = moved; after = false }

-- a wall from x = 2
abbrev pub p1 : MoveScene
p1 = sliding (box (vec (whole 2) (whole 1) (whole 0)) (vec (whole 3) (whole 2) (whole 1))) (vec (whole 1) (whole 0) (whole 0))

-- from x = 1, to 2
abbrev pub p2 : MoveScene
p2 = sliding (box (vec (whole 1) (whole 1) (whole 0)) (vec (whole 2) (whole 2) (whole 1))) (vec (whole 0) (whole 0) (whole 0))

-- beside the way, at z 1..2
abbrev pub p3 : MoveScene
p3 = sliding (box (vec (whole 2) (whole 1) (whole 1)) (vec (whole 3) (whole 2) (whole 2))) (vec (whole 2) (whole 0) (whole 0))

-- a floor and a ledge of this height, delta (2,-0.5,0), step 0.5, grounded
abbrev pub climbing : Float → Vec3 → MoveScene
climbing top moved =
    record {
      boxes = box (vec (whole 0) (whole 0) (whole 0)) (vec (whole 4) (whole 1) (whole 1)) ∷ box (vec (whole 2) (whole 1) (whole 0)) (vec (whole 4) top (whole 1)) ∷ [];
      delta = vec (whole 2) (neg (ratio 1 2)) (whole 0);
      step = ratio 1 2;
      on_ground = true;
      moved = moved;
      after = true;
    }

-- top 1.5
abbrev pub p4 : MoveScene
p4 = climbing (ratio 3 2) (vec (whole 2) (ratio 1 2) (whole 0))

-- top 1.5625
abbrev pub p5 : MoveScene
p5 = climbing (ratio 25 16) (vec (whole 1) (whole 0) (whole 0))

-- the box is stepped over, and nothing is below: the ground flag is worked out after the step
abbrev pub hopping : Bool → MoveScene
hopping after =
    record {
      boxes = box (vec (whole 2) (ratio 3 4) (whole 0)) (vec (whole 3) (ratio 5 4) (whole 1)) ∷ [];
      delta = vec (ratio 7 2) (neg (ratio 1 2)) (whole 0);
      step = ratio 1 2;
      on_ground = true;
      moved = vec (ratio 7 2) (whole 0) (whole 0);
      after = after;
    }

abbrev pub p6 : MoveScene
p6 = hopping true
