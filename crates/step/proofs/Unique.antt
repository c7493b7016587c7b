-- What a host is told of a step without what was sensed is all that it is: another answer that fits the contract is equal. Assumes nothing.
use mathlib.Core.Path.{◌≡◌, sym, ap, ◌∙◌}
use Rattle.std.specs.Prelude.{Result, Ok, Err}
use Rattle.base.specs.declared.Refusal.{Refusal}
use Rattle.base.specs.Refusals.{asked}
use Rattle.base.specs.Ask.{found}
use Rattle.base.proofs.Answers.{one_number, some_number}
use Rattle.bodies.specs.declared.Motion.{Motion}
use Rattle.bodies.specs.declared.MotionNumbers.{MotionNumbers}
use Rattle.bodies.specs.Body.{is_yes}
use Rattle.step_answers.proofs.Unique.{yes_kept}
use Rattle.step.specs.Answers.{MotionAnswer, motion_answer}

-- the motion out of what is told of it
motion_told : MotionAnswer → Motion
motion_told a = record { feet = a.motion.feet; velocity = a.motion.velocity; on_ground = is_yes a.motion.on_ground }

motion_kept : (given : MotionNumbers) (m : Motion) → motion_told (motion_answer given (found m)) ≡ m
unfolding motion_told
motion_kept given m = rw (yes_kept m.on_ground)

pub motion-once : (given : MotionNumbers) (a b : Result Motion Refusal) → motion_answer given (asked a) ≡ motion_answer given (asked b) → a ≡ b
motion-once given (Ok m) (Ok n) e = ap Ok (sym (motion_kept given m) ∙ ap motion_told e ∙ motion_kept given n)
motion-once given (Ok m) (Err d) e = absurd (some_number d (sym (ap (λ (s : MotionAnswer). s.refusal) e)))
motion-once given (Err d) (Ok n) e = absurd (some_number d (ap (λ (s : MotionAnswer). s.refusal) e))
motion-once given (Err c) (Err d) e = ap Err (one_number c d (ap (λ (s : MotionAnswer). s.refusal) e))
