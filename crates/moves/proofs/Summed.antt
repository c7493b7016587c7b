-- With a summary that passes its check the move over it is the plain move over cells and columns. Assumes nothing.
use mathlib.Core.Path.{◌≡◌, ap, ◌∙◌}
use mathlib.Core.Bool.{Bool}
use mathlib.Core.List.{List}
use Prim.Native.Nat.{ℕ}
use lib.Ieee.{Float}
use Rattle.base.specs.Choose.{choose}
use Rattle.base.specs.Ask.{Ask}
use Rattle.boxes.specs.declared.Vec3.{Vec3}
use Rattle.boxes.specs.declared.Aabb.{Aabb}
use Rattle.sweeps.specs.Lists.{cap_of}
use Rattle.window.specs.declared.Pos.{Pos}
use Rattle.window.specs.declared.Window.{Window}
use Rattle.window.specs.Look.{Block, look_at}
use Rattle.groups.specs.Summary.{summary_refusal}
use Rattle.groups.proofs.Sets.{has}
use Rattle.passing.specs.Passing.{passes}
use Rattle.summary.specs.Calls.{plain_words}
use Rattle.summary.proofs.Agree.{kept, look-plain}
use Rattle.through.specs.Through.{move_aabb, move_aabb_past}
use Rattle.through.proofs.Same.{move-with}
use Rattle.moves.specs.Answers.{move_entry, move_summed}

module _ (cap : ℕ) (records : List ℕ) (shapes : List Float) (words : List ℕ) (w : Window) (h : summary_refusal records words w ≡ 0) (aabb : Aabb) (delta : Vec3) (step : Float) (grounded : Bool) where
  pub past-plain : move_aabb_past (cap_of cap) (passes words w) (look_at words w) records shapes aabb delta step grounded ≡ move_aabb (cap_of cap) (look_at (plain_words words w) w) records shapes aabb delta step grounded
  past-plain =
      let k = kept records words w h in
      move-with (cap_of cap) words w records shapes k aabb delta step grounded
      ∙ ap (λ (look : Pos → Ask Block). move_aabb (cap_of cap) look records shapes aabb delta step grounded) (λ i p. look-plain words w (has words w k.there) p i)

  -- a host's move, with it and without
  pub summed-alike : move_summed cap records shapes words w aabb delta step grounded ≡ move_entry cap records shapes (plain_words words w) w aabb delta step grounded
  unfolding move_summed move_entry choose
  summed-alike = rw h
