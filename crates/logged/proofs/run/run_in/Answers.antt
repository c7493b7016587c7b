-- `logged::run::run_in` meets its contract. Assumes nothing.
use Rattle.std.proofs.Common.{rules}
use mathlib.Core.List.{List}
use mathlib.Core.Path.{ap, ◌∙◌}
use Prim.Native.Nat.{ℕ}
use lib.Ieee.{Float, of_bits, binary32}
use lib.ListN.{length-replicate}
use Rattle.base.specs.Loop.{stored}
use Rattle.boxes.specs.declared.Vec3.{Vec3}
use Rattle.logs.specs.Logs.{events_by}
use Rattle.minute_state.specs.Minute.{lines_as_numbers}
use Rattle.logged.proofs.Scenes.{held_by}
use Rattle.logged.proofs.run.run_in.Goals as goal

pub returns : goal.returns
returns c =
    let a = c.args in
    let put = c.put_apart.ensures in
    let same = held_by a.scene.now a.n (events_by a.file.now a.log) c.put_apart.new.records c.put_apart.new.singles c.put_apart.new.words _ _ _ (length-replicate {0} {A = ℕ} 15744 0) (length-replicate {0} {A = Float} 15744 (of_bits binary32 0)) (length-replicate {0} {A = ℕ} 19840 0)
    (search rules) (search rules) (search rules) put.records_after put.singles_after put.words_after in record { value = λ s e. c.run_held.ensures.value ∙ (same s e).is; feet_after = λ s e. c.run_held.ensures.feet_after ∙ ap (λ (l : List Vec3). stored a.feet.now 0 (lines_as_numbers l)) (same s e).lines }
