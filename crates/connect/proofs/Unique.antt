-- What a host is told is all that it is: another answer that fits the contract is equal. Assumes nothing.
use mathlib.Core.Path.{◌≡◌, refl, sym, ap}
use Prim.Native.Nat.{ℕ}
use Rattle.std.specs.Prelude.{Result, Ok, Err}
use Rattle.base.specs.declared.Refusal.{Refusal}
use Rattle.base.specs.Refusals.{number_of, asked}
use Rattle.base.proofs.Answers.{one_number, some_number}
use Rattle.connect.specs.Answers.{StateAnswer, state_answer}

pub state-once : (a b : Result ℕ Refusal) → state_answer (asked a) ≡ state_answer (asked b) → a ≡ b
state-once (Ok x) (Ok y) e = ap (λ (s : StateAnswer). Ok s.state) e
state-once (Ok x) (Err d) e = absurd (some_number d (sym (ap (λ (s : StateAnswer). s.refusal) e)))
state-once (Err d) (Ok y) e = absurd (some_number d (ap (λ (s : StateAnswer). s.refusal) e))
state-once (Err c) (Err d) e = ap Err (one_number c d (ap (λ (s : StateAnswer). s.refusal) e))
