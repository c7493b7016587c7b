-- What a file's tick can be refused by: 1 to 8, so that a refusal is written whole; and 8 where the file is no scene. Assumes nothing.
use mathlib.Core.Path.{◌≡◌, refl}
use mathlib.Core.Bool.{Bool, true, false}
use mathlib.Core.Logic.{◌⊎◌, inl, inr}
use mathlib.Core.List.{List}
use Prim.Native.Nat.{ℕ, ◌≤◌, ◌%◌}
use native.Mathlib.Omega.{arith}
use Rattle.base.specs.Choose.{choose}
use Rattle.step_answers.specs.Records.{StepAnswer}
use Rattle.step.proofs.Refuses.{Named, step-refusal}
use Rattle.files.specs.declared.Counts.{Counts}
use Rattle.files.specs.Files.{is_scene, counts_of}
use Rattle.scene.specs.Scene.{malformed, step_in, tick_of}

within : (n : ℕ) → (n ≡ 0) ⊎ Named n → n ≤ 8
within n (inl e) = omega arith
within n (inr k) = omega arith

step-within : (file : List ℕ) (n : Counts) → (step_in file n).refusal ≤ 8
unfolding step_in
step-within file n = within _ (step-refusal _ _ _ _ _ _ _ _)

chosen : (t : Bool) (a : StepAnswer) → a.refusal ≤ 8 → (choose t a malformed).refusal ≤ 8
unfolding choose
chosen true a h = h
chosen false a h = omega arith

pub tick-within : (file : List ℕ) → (tick_of file).refusal ≤ 8
unfolding tick_of
tick-within file = chosen (is_scene file) (step_in file (counts_of file)) (step-within file (counts_of file))

-- the digit that is written is the number
pub one-digit : (file : List ℕ) → (tick_of file).refusal % 10 ≡ (tick_of file).refusal
one-digit file = let h = tick-within file in omega arith

-- ---- the tick of a file that is no scene is refused by 8, whole

pub tick-8 : (file : List ℕ) → is_scene file ≡ false → tick_of file ≡ malformed
unfolding tick_of choose
tick-8 file e = rw e
