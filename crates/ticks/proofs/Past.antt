-- The step with a true summary, or with none, is the plain step. Assumes nothing.
use mathlib.Core.Path.{◌≡◌, ap}
use mathlib.Core.Bool.{Bool}
use mathlib.Core.List.{List}
use Prim.Native.Nat.{ℕ, ◌≤◌}
use lib.ListN.{length}
use lib.Ieee.{Float}
use Rattle.base.specs.Ask.{Ask}
use Rattle.boxes.specs.declared.Vec3.{Vec3}
use Rattle.boxes.specs.declared.Aabb.{Aabb}
use Rattle.sweeps.specs.declared.MoveResult.{MoveResult}
use Rattle.sweeps.specs.Lists.{cap_of}
use Rattle.window.specs.declared.Window.{Window}
use Rattle.window.specs.Look.{look_at}
use Rattle.groups.specs.Summary.{words_before}
use Rattle.groups.proofs.Sets.{Kept}
use Rattle.through.specs.Through.{move_aabb}
use Rattle.through.proofs.Same.{move-with, move-without}
use Rattle.bodies.specs.declared.Body.{Body}
use Rattle.bodies.specs.declared.Rules.{Rules}
use Rattle.bodies.specs.declared.Motion.{Motion}
use Rattle.ticks.specs.Step.{step_body_by, step_body_sensed, move_past, step_body_past}

module _ (words : List ℕ) (w : Window) (records : List ℕ) (shapes : List Float) (rules : Rules) (body : Body) (motion : Motion) (age : ℕ) where
  -- where each move is the plain one
  by-moves : ((aabb : Aabb) (delta : Vec3) (step : Float) (grounded : Bool) → move_past rules.cap words w records shapes aabb delta step grounded ≡ move_aabb (cap_of rules.cap) (look_at words w) records shapes aabb delta step grounded)
      → step_body_past words w records shapes rules body motion age ≡ step_body_sensed (look_at words w) records shapes rules body motion age
  unfolding step_body_sensed
  by-moves e = ap (λ (move : Aabb → Vec3 → Float → Bool → Ask MoveResult). step_body_by move (look_at words w) records rules body motion age) (λ i aabb delta step grounded. e aabb delta step grounded i)

  -- by a summary whose words are those built afresh
  pub step-with : Kept records words w → step_body_past words w records shapes rules body motion age ≡ step_body_sensed (look_at words w) records shapes rules body motion age
  step-with kept = by-moves (move-with (cap_of rules.cap) words w records shapes kept)

  -- and where the words of cells and columns stand alone
  pub step-without : length words ≤ words_before w.sizes → step_body_past words w records shapes rules body motion age ≡ step_body_sensed (look_at words w) records shapes rules body motion age
  step-without short = by-moves (move-without (cap_of rules.cap) words w records shapes short)
