-- `answer_rows::put_answer` meets its contract. Assumes nothing.
use mathlib.Core.List.{List}
use mathlib.Core.Path.{ap, ◌∙◌}
use Prim.Native.Nat.{ℕ}
use lib.Ieee.{Float, of_int, binary64}
use lib.IntN.{pos}
use lib.ListN.{set}
use Rattle.base.specs.Loop.{stored}
use Rattle.lent_steps.specs.Falling.{falling_numbers}
use Rattle.base.proofs.Stored.{put-behind}
use Rattle.answer_rows.proofs.put_answer.Goals as goal

pub returns : goal.returns
unfolding stored
returns g c =
    let a = c.args in
    let numbers : List Float = falling_numbers (g.A.FallingTold.answer a.answer a.given a.fall) in
    put-behind c.put.new.out c.put_falling.new.out 1 numbers c.put_falling.ensures
    ∙ ap (λ (l : List Float). stored l 1 numbers) (c.put.ensures ∙ ap (λ (x : Float). set a.row.now 0 x) (c.float_of.ensures ∙ ap (λ (n : ℕ). of_int binary64 (pos n)) (c.told.ensures ∙ c.said.ensures a.given a.fall)))
